-- What a call comes to: what it says, the record it returns and every byte of both buffers.
use Rattle.std.specs.Prelude.{ℕ, cond, ◌≡◌, List}
use Rattle.record.specs.declared.History.{History}
use Rattle.record.specs.Refusals.{Reply, accepted}

-- what it says, and the record that it leaves: where refused, as it came
pub record Answer : Type 0 where
  pub refusal : Reply
  pub history : History

pub record Outcome : Type 0 where
  pub answer : Answer
  pub nodes : List ℕ
  pub table : List ℕ

abbrev pub answered : Reply → History → Answer
answered r h = record { refusal = r; history = h }

abbrev pub outcome : Answer → List ℕ → List ℕ → Outcome
outcome a nodes table = record { answer = a; nodes = nodes; table = table }

-- "A refusal returns its number .. the record as it came, and nothing written."
abbrev pub or_refused : Reply → History → List ℕ → List ℕ → Outcome → Outcome
or_refused r h nodes table done = cond (accepted r) done (outcome (answered r h) nodes table)

-- The promise of a call: what is said, the record that is left and every byte are what its definition says.
abbrev pub Comes : Reply → History → List ℕ → List ℕ → Outcome → Type 0
Comes r h nodes table o = outcome (answered r h) nodes table ≡ o
