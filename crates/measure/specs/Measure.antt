-- A script of calls and questions on one history: what each of them leaves, and what is said to it.
use Rattle.std.specs.Prelude.{ℕ, zero, suc, ◌+◌, ◌*◌, ◌/◌, min, cond, true, false, List, ◌++◌, ltb, eqb, length, set, replicate}
use Rattle.std.proofs.lemmas.List.Edits.{sets}
use Rattle.words.specs.Words.{le}
use Rattle.layout.specs.declared.Entry.{Entry}
use Rattle.layout.specs.declared.Shape.{Shape}
use Rattle.layout.specs.Layout.{entry_bytes, read_entry}
use Rattle.record.specs.declared.History.{History}
use Rattle.record.specs.Refusals.{Reply, number_of}
use Rattle.transient.specs.declared.Change.TheVariants.{Set, Remove, Increment}
use Rattle.calls.specs.Outcome.{Outcome}
use Rattle.calls.specs.Open.{open_on}
use Rattle.calls.specs.Change.{change_of}
use Rattle.calls.specs.Add.{add_of}
use Rattle.calls.specs.Finish.{finish_of}
use Rattle.questions.specs.Single.{single_of}
use Rattle.full_question.specs.Full.{full_of, full_written}

-- ═══ One call ═══

-- what is said to a call, 40 bytes
unfoldable pub slot : Reply → ℕ → Entry → List ℕ
slot r nodes e = le 4 (number_of r) ++ (le 4 nodes ++ entry_bytes e)

-- 0 set, 1 remove, 2 increment, 3 add, the rest finish
unfoldable pub call_of : History → Entry → List ℕ → List ℕ → Outcome
call_of h e nodes table =
    cond (eqb e.kind 0) (change_of h e.start e.quark (Set e.value) nodes table)
    (cond (eqb e.kind 1) (change_of h e.start e.quark Remove nodes table)
    (cond (eqb e.kind 2) (change_of h e.start e.quark Increment nodes table)
    (cond (eqb e.kind 3) (add_of h nodes table)
    (finish_of h e.start nodes table))))

-- the record and every byte of the four buffers
pub record State : Type 0 where
  pub history : History
  pub nodes : List ℕ
  pub table : List ℕ
  pub answer : List ℕ
  pub said : List ℕ

abbrev pub state : History → List ℕ → List ℕ → List ℕ → List ℕ → State
state h nodes table answer said = record { history = h; nodes = nodes; table = table; answer = answer; said = said }

-- a single question: nothing changes but what is said
unfoldable pub asks_one : Entry → ℕ → State → State
asks_one e at σ =
    let x = single_of σ.history e.start e.quark σ.nodes σ.table in
    state σ.history σ.nodes σ.table σ.answer (sets σ.said at (slot x.refusal x.nodes x.entry))

-- a full one: its entries are in the answer
unfoldable pub asks_all : Entry → ℕ → State → State
asks_all e at σ =
    let x = full_of σ.history e.start σ.nodes σ.table (length σ.answer) in
    state σ.history σ.nodes σ.table (full_written σ.history e.start σ.nodes σ.table σ.answer) (sets σ.said at (slot x.refusal x.nodes e))

-- a call: after 5, a finish, the record before it goes on
unfoldable pub calls : Entry → ℕ → State → State
calls e at σ =
    let o = call_of σ.history e σ.nodes σ.table in
    state (cond (eqb e.kind 5) σ.history o.answer.history) o.nodes o.table σ.answer (sets σ.said at (slot o.answer.refusal 0 e))

unfoldable pub step_of : Entry → ℕ → State → State
step_of e at σ = cond (eqb e.kind 6) (asks_one e at σ) (cond (eqb e.kind 7) (asks_all e at σ) (calls e at σ))

-- ═══ The script ═══

-- n calls of the script, from the i-th on
unfoldable pub play_of : ℕ → ℕ → List ℕ → State → State
play_of zero i script σ = σ
play_of (suc n) i script σ = play_of n (i + 1) script (step_of (read_entry script (i * 32)) (i * 40) σ)

-- as many as the script holds and there is room to say something to
unfoldable pub turns : List ℕ → List ℕ → ℕ
turns script said = min (length script / 32) (length said / 40)

unfoldable pub played : List ℕ → State → State
played script σ = play_of (turns script σ.said) 0 script σ

-- ═══ The whole ═══

-- the number that the opening answers, and every byte of the four buffers
pub record Measured : Type 0 where
  pub number : ℕ
  pub nodes : List ℕ
  pub table : List ℕ
  pub answer : List ℕ
  pub said : List ℕ

abbrev pub measured : ℕ → List ℕ → List ℕ → List ℕ → List ℕ → Measured
measured number nodes table answer said = record { number = number; nodes = nodes; table = table; answer = answer; said = said }

-- a record of zeros, but for its shape
unfoldable pub zeros : Shape → History
zeros shape = record {
  shape = shape;
  start = 0;
  latest = 0;
  largest_end = 0;
  attributes = 0;
  used = 0;
  low = 0;
  top = 0;
  finished = false;
  branch = record { places = replicate 16 0; starts = replicate 16 0; intervals = replicate 16 0; children = replicate 16 0; last_ends = replicate 16 0 };
}

-- a history is opened beside it, and the script carried out on what the opening leaves
unfoldable pub measure_of : (start attributes k c n : ℕ) (script nodes table answer said : List ℕ) → Measured
measure_of start attributes k c n script nodes table answer said =
    let shape : Shape = record { k = k; c = c; n = n } in
    let o = open_on (zeros shape) start attributes shape nodes table in
    let σ = played script (state o.answer.history o.nodes o.table answer said) in
    measured (number_of o.answer.refusal) σ.nodes σ.table σ.answer σ.said

-- the record of a finished history, as far as a question reads it
unfoldable pub finished_record : (start latest attributes : ℕ) → Shape → (used root top : ℕ) → History
finished_record start latest attributes shape used root top = record {
  shape = shape;
  start = start;
  latest = latest;
  largest_end = latest;
  attributes = attributes;
  used = used;
  low = top + 1;
  top = top;
  finished = true;
  branch = record { places = set (replicate 16 0) top root; starts = replicate 16 0; intervals = replicate 16 0; children = replicate 16 0; last_ends = replicate 16 0 };
}

-- the script carried out on a finished history; with a root above the highest level nothing is done
unfoldable pub finished_of : (start latest attributes k c n used root level : ℕ) (script nodes table answer said : List ℕ) → Measured
finished_of start latest attributes k c n used root level script nodes table answer said =
    let σ = played script (state (finished_record start latest attributes (record { k = k; c = c; n = n }) used root level) nodes table answer said) in
    cond (ltb 15 level) (measured 3 nodes table answer said) (measured 0 σ.nodes σ.table σ.answer σ.said)
