-- R1 to R6, the tests that a question makes of a node that it enters, as facts about a node m of the list ns.
use Rattle.std.specs.Prelude.{ℕ, suc, ◌≤◌, ◌<◌, ◌≡◌, length, get_or}
use mathlib.Core.List.{List, [], ◌∷◌, Memᴰ}
use Rattle.std.proofs.Math.Option.{some}
use Rattle.model.specs.Transient.{Interval}
use Rattle.model.specs.Build.{Shape}
use Rattle.model.specs.Nodes.{Node, blank, placed}
use Rattle.model.specs.Invariant.{Inside}

-- The child at place c, which m has the entry (c, a) for.
pub record Child (ns : List Node) (m : Node) (c a : ℕ) : Type 0 where
  pub used : placed c < length ns  -- R1 "below the used count"
  pub seq : (get_or ns (placed c) blank).seq ≡ c  -- R1 "sequence is its place"
  pub level : suc (get_or ns (placed c) blank).level ≡ m.level  -- R2 "level one below its parent's"
  pub start : (get_or ns (placed c) blank).start ≡ a  -- R5 "its start equals its entry in the parent"
  pub end : (get_or ns (placed c) blank).end ≤ m.end  -- R5 "its end not after the parent's"
  pub parent : (get_or ns (placed c) blank).parent ≡ some m.seq

pub record Sits (sh : Shape) (ns : List Node) (m : Node) : Type 0 where
  pub ordered : m.start ≤ m.end  -- R3 "start not after end"
  pub intervals : length m.held ≤ sh.K  -- R4 "counts within K and C"
  pub children : length m.children ≤ sh.C
  pub leaf : m.level ≡ 0 → m.children ≡ []  -- R4 "no child at level 0"
  pub inside : Inside m.start m.end m.held  -- R6 "start not after end, inside the node"
  pub each : (c a : ℕ) → Memᴰ (c, a) m.children → Child ns m c a  -- R1, R2 and R5 of its children

-- R6 "each used interval has a known quark": one of n
abbrev pub Known : ℕ → List Interval → Type 0
Known n [] = Unit {0}
Known n (x ∷ xs) = (x.quark < n) × Known n xs
