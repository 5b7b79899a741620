-- What the program prints of a feed: what each record is answered, one after the other.
use Rattle.std.specs.Prelude.{ℕ, zero, suc, ◌+◌, List, [], ◌++◌, length, Option, Some, None, Result, Ok, Err}
use Rattle.record.specs.declared.Refusal.{Refusal}
use Rattle.feed.specs.declared.Record.{Record}
use Rattle.feed.specs.declared.Reading.{Reading}
use Rattle.feed.specs.Feed.{reading_at}
use Rattle.history.specs.Step.{State, Carried, carried}
use Rattle.history.specs.Text.{said, shown}

-- what stands between two records: the history that is open, and every byte of the three buffers
pub record Held : Type 0 where
  pub state : State
  pub nodes : List ℕ
  pub table : List ℕ
  pub answer : List ℕ

abbrev pub held : State → List ℕ → List ℕ → List ℕ → Held
held s nodes table answer = record { state = s; nodes = nodes; table = table; answer = answer }

abbrev pub held_in : Carried → Held
held_in x = held x.done.state x.nodes x.table x.answer

-- what record number i is answered: a full question's entries are in the bytes that it left
abbrev pub answered : ℕ → Carried → List ℕ
answered i x = shown i x.done.shown x.done.state.history.attributes x.answer

-- of what was read as number i, and of what then follows
abbrev pub before : ℕ → Held → Result Record Refusal → (Held → List ℕ) → List ℕ
before i h (Err what) next = said i (Err what) ++ next h
before i h (Ok r) next = let x = carried r h.state h.nodes h.table h.answer in answered i x ++ next (held_in x)

-- of what is read at a place as number i, and of what then follows from the next
abbrev pub go_on : ℕ → Held → Option Reading → (ℕ → Held → List ℕ) → List ℕ
go_on i h None next = []
go_on i h (Some x) next = before i h x.what (next x.next)

-- from place p and number i on, in no more than n readings
unfoldable pub printed_from : ℕ → List ℕ → ℕ → ℕ → Held → List ℕ
printed_from zero l p i h = []
printed_from (suc n) l p i h = go_on i h (reading_at l p) (λ q k. printed_from n l q (i + 1) k)

-- of a whole feed: a reading takes at least a byte
abbrev pub printed : List ℕ → Held → List ℕ
printed l h = printed_from (length l) l 0 0 h
