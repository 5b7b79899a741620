-- Where a walk stands.
use Rattle.std.specs.Prelude.{ℕ, Bool, true, Option, Some, None, is_none}
use Rattle.layout.specs.declared.Seq.{Seq}
use Rattle.walk.specs.declared.Due.{Due}
use Rattle.walk.specs.declared.Parent.{Parent}
use Rattle.walk.specs.declared.Rule.{Rule}

-- At a node that is to be entered (go), or ended, well or since the node at `place` breaks a rule.
-- Of the node to be entered: its place, whether it is the root, else its start as its parent's entry says, and its parent's end.
pub record Walk : Type 0 where
  pub go : Bool
  pub rule : Option Rule
  pub place : Seq
  pub root : Bool
  pub start : ℕ
  pub end : ℕ
  pub entered : ℕ

-- of what a parent says, 0 of none
abbrev pub start_by : Option Parent → ℕ
start_by None = 0
start_by (Some p) = p.start

abbrev pub end_by : Option Parent → ℕ
end_by None = 0
end_by (Some p) = p.end

-- at a node that is due, so many entered before it
abbrev pub due_at : Due → ℕ → Walk
due_at d entered = record { go = true; rule = None; place = d.place; root = is_none d.parent; start = start_by d.parent; end = end_by d.parent; entered = entered }
