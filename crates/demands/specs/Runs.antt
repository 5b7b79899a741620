-- A run: any calls, one after the other, by the definitions that the public functions are proved against, and by nothing else.
use Rattle.std.specs.Prelude.{ℕ, Bool, true, cond, List, [], ◌∷◌, ℤ, pos, length}
use Rattle.layout.specs.declared.Shape.{Shape}
use Rattle.layout.specs.declared.Quark.{Quark}
use Rattle.layout.specs.declared.Entry.{Entry}
use Rattle.record.specs.declared.History.{History}
use Rattle.record.specs.Refusals.{Reply, Nothing, NotOpen, accepted}
use Rattle.transient.specs.declared.Change.{Change}
use Rattle.transient.specs.declared.Change.TheVariants.{Set, Remove, Increment}
use Rattle.calls.specs.Outcome.{Outcome}
use Rattle.calls.specs.Open.{open_of}
use Rattle.calls.specs.Change.{change_of}
use Rattle.calls.specs.Add.{add_of}
use Rattle.calls.specs.Finish.{finish_of}
use Rattle.questions.specs.Single.{single_of}
use Rattle.full_question.specs.Full.{full_of, full_written}

-- A call of any kind, with its numbers.
pub data Call : Type 0 where
  opening : ℕ → ℕ → Shape → Call  -- start, attributes, and K, C, N
  set : ℕ → ℕ → ℤ → Call  -- time, quark, value
  remove : ℕ → ℕ → Call  -- time, quark
  increment : ℕ → ℕ → Call  -- time, quark
  add : Call
  finish : ℕ → Call  -- time
  single : ℕ → ℕ → Call  -- time, quark
  full : ℕ → Call  -- time

-- What stands between two calls: whether a history is open, its record, and every byte of the three lent buffers, the last for a full question's answer.
pub record State : Type 0 where
  pub begun : Bool
  pub history : History
  pub nodes : List ℕ
  pub table : List ℕ
  pub answer : List ℕ

-- What a call says: its number and, of a question, the nodes entered and a single question's interval entry. A full question's entries are in the answer's bytes.
pub record Answer : Type 0 where
  pub refusal : Reply
  pub nodes : ℕ
  pub entry : Entry

-- a number and "all other result numbers 0"
abbrev pub says : Reply → Answer
says r = record { refusal = r; nodes = 0; entry = record { quark = record { 0 = 0 }; kind = 0; start = 0; end = 0; value = pos 0 } }

-- ═══ One call ═══

abbrev pub quark : ℕ → Quark
quark q = record { 0 = q }

-- "15 no history open, tags 2 to 8"
abbrev pub if_begun : State → State × Answer → State × Answer
if_begun σ done = cond σ.begun done (σ, says NotOpen)

-- "each given the record the last one returned"
abbrev pub follows : State → Outcome → State × Answer
follows σ o = (record { begun = true; history = o.answer.history; nodes = o.nodes; table = o.table; answer = σ.answer }, says o.answer.refusal)

-- "A second open starts anew; refused, it changes nothing."
abbrev pub anew : State → Outcome → State × Answer
anew σ o = cond (accepted o.answer.refusal) (follows σ o) (σ, says o.answer.refusal)

abbrev pub changed : State → ℕ → ℕ → Change → State × Answer
changed σ t q what = follows σ (change_of σ.history t (quark q) what σ.nodes σ.table)

abbrev pub answered : State → ℕ → State × Answer
answered σ t = let h = σ.history in let a = full_of h t σ.nodes σ.table (length σ.answer) in (
  record { begun = true; history = h; nodes = σ.nodes; table = σ.table; answer = full_written h t σ.nodes σ.table σ.answer },
  record { refusal = a.refusal; nodes = a.nodes; entry = (says Nothing).entry },
)

abbrev pub told : State → ℕ → ℕ → State × Answer
told σ t q = let a = single_of σ.history t (quark q) σ.nodes σ.table in (σ, record { refusal = a.refusal; nodes = a.nodes; entry = a.entry })

unfoldable pub step : Call → State → State × Answer
step (opening start attributes shape) σ = anew σ (open_of start attributes shape σ.nodes σ.table)
step (set t q v) σ = if_begun σ (changed σ t q (Set v))
step (remove t q) σ = if_begun σ (changed σ t q Remove)
step (increment t q) σ = if_begun σ (changed σ t q Increment)
step add σ = if_begun σ (follows σ (add_of σ.history σ.nodes σ.table))
step (finish t) σ = if_begun σ (follows σ (finish_of σ.history t σ.nodes σ.table))
step (single t q) σ = if_begun σ (told σ t q)
step (full t) σ = if_begun σ (answered σ t)

-- ═══ Calls one after the other ═══

-- what they leave
unfoldable pub run : List Call → State → State
run [] σ = σ
run (c ∷ later) σ = run later (step c σ).0

-- what they say, in their order
unfoldable pub saying : List Call → State → List Answer
saying [] σ = []
saying (c ∷ later) σ = let next = step c σ in next.1 ∷ saying later next.0
