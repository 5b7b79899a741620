-- The program as a run: its state and what it shows, as those of a run of calls.
use Rattle.std.specs.Prelude.{ℕ, ◌≡◌, List}
use Rattle.feed.specs.declared.Record.{Record}
use Rattle.demands.specs.Runs as R
use Rattle.demands.specs.Runs.{says, step}
use Rattle.demands.specs.Feeds.{call_of}
use Rattle.history.specs.Step.{Shown, Said, One, All}
use Rattle.history.specs.Step.{State, Carried, carried}

abbrev pub state_of : State → List ℕ → List ℕ → List ℕ → R.State
state_of s nodes table answer = record { begun = s.opened; history = s.history; nodes = nodes; table = table; answer = answer }

abbrev pub answer_of : Shown → R.Answer
answer_of (Said r) = says r
answer_of (One x) = record { refusal = x.refusal; nodes = x.nodes; entry = x.entry }
answer_of (All f) = record { refusal = f.refusal; nodes = f.nodes; entry = (says f.refusal).entry }

-- what is left, and what is said
abbrev pub seen : Carried → R.State × R.Answer
seen x = (state_of x.done.state x.nodes x.table x.answer, answer_of x.done.shown)

-- A feed's records are the run's calls: what the program does with a record, in any state, is what a run does with the call.
abbrev pub RecordsAreCalls : Type 0
RecordsAreCalls = (r : Record) (s : State) (nodes table answer : List ℕ) → step (call_of r) (state_of s nodes table answer) ≡ seen (carried r s nodes table answer)
