-- The three demands, word by word, and what each says. `proofs/Demands.antt` has the proof of each.
use Rattle.std.specs.Prelude.{ℕ, ◌+◌, ◌*◌, ◌≤◌, ◌<◌, true, false, cond, ◌≡◌, ◌⊎◌, List, [], ◌∷◌, ◌++◌, map, ℤ, length, take, drop, Option, Some, None, Result, Ok, Err}
use Rattle.std.proofs.lemmas.List.Edits.{sets}
use Rattle.words.specs.Words.{le}
use Rattle.layout.specs.declared.Shape.{Shape}
use Rattle.layout.specs.declared.Quark.{Quark}
use Rattle.layout.specs.Layout.{entry_size, node_size, entry_bytes, spread, read_header}
use Rattle.record.specs.declared.History.{History}
use Rattle.record.specs.declared.Refusal.{Refusal}
use Rattle.record.specs.Refusals.{Reply, Nothing, number_of, accepted, first_of}
use Rattle.record.specs.Levels.{place_at}
use Rattle.transient.specs.declared.Change.TheVariants.{Set, Remove, Increment}
use Rattle.calls.specs.Outcome.{Outcome, Comes}
use Rattle.calls.specs.Exactly.{Given, Iff}
use Rattle.calls.specs.Open.{open_on}
use Rattle.calls.specs.Change.{change_of}
use Rattle.calls.specs.Add.{add_of}
use Rattle.calls.specs.Finish.{finish_of}
use Rattle.walk.specs.declared.View.{View}
use Rattle.questions.specs.declared.Answer.{Answer as OneAnswer}
use Rattle.questions.specs.Single.{said as said_one, single_of}
use Rattle.full_question.specs.Full.{said_all, full_of, full_written}
use Rattle.page.specs.Page as P
use Rattle.feed.specs.declared.Record.{Record}
use Rattle.feed.specs.declared.Reading.{Reading}
use Rattle.feed.specs.Feed.{reading_at, GoesOn}
use Rattle.model.specs.Transient.{Interval}
use Rattle.model.specs.Nodes.{upto}
use Rattle.model.specs.Questions.{ongoing, scan, scans, tally, said}
use Rattle.model.specs.Theorems.{all_said}
use Rattle.represents.specs.Represents.{entry_of, bytes_of}
use Rattle.demands.specs.Runs.{Call, opening, single, full, State, Answer, says, step, run}
use Rattle.demands.specs.Tests.{Test, tests_of, feed_tests}
use Rattle.demands.specs.Sequences.{begins, Fits, AllFit, Sequence, first, now, taken, story, afresh}

-- ═══════ Demand 1 ═══════
-- "Every call ends and is defined for every feed, number and buffer content. It tests its own input and names its refusal. A refused call returns its number, hands
-- the history's record back unaltered and writes to no buffer."
-- That every call ends and is defined is the promise of each public function itself: it has no premise, and says by an equation what comes back.

-- ═══ "any two outcomes allowed by it are shown equal" ═══

module _ {A : Type 0} where
  abbrev pub Settles : (A → Type 0) → Type 0
  Settles Promise = (x y : A) → Promise x → Promise y → x ≡ y

-- One law: a promise that is an equation settles its outcome.
abbrev pub EquationSettles : Type 1
EquationSettles = (A : Type 0) (z : A) → Settles {A = A} (λ x. x ≡ z)

-- all that comes back from a call: what it says, and every number and byte that it could write
pub record Left : Type 0 where
  pub refusal : Reply
  pub history : History
  pub nodes : List ℕ
  pub table : List ℕ

-- a call's promise
abbrev pub Promised : Outcome → Left → Type 0
Promised o x = Comes x.refusal x.history x.nodes x.table o

-- One line for each public function, with the promise that it is proved to keep: of its answer, and of every byte that it could write. (The functions of `questions`
-- and `full_question` that only `page` and their own files call promise an equation too.)
pub record Settled : Type 0 where
  pub opening : (start attributes : ℕ) (shape : Shape) (h : History) (nodes table : List ℕ) → Settles (Promised (open_on h start attributes shape nodes table))
  pub set : (h : History) (t : ℕ) (q : Quark) (v : ℤ) (nodes table : List ℕ) → Settles (Promised (change_of h t q (Set v) nodes table))
  pub remove : (h : History) (t : ℕ) (q : Quark) (nodes table : List ℕ) → Settles (Promised (change_of h t q Remove nodes table))
  pub increment : (h : History) (t : ℕ) (q : Quark) (nodes table : List ℕ) → Settles (Promised (change_of h t q Increment nodes table))
  pub add : (h : History) (nodes table : List ℕ) → Settles (Promised (add_of h nodes table))
  pub finish : (h : History) (t : ℕ) (nodes table : List ℕ) → Settles (Promised (finish_of h t nodes table))
  pub single : (h : History) (t : ℕ) (q : Quark) (nodes table : List ℕ) → Settles {A = Result OneAnswer Refusal} (λ r. said_one r ≡ single_of h t q nodes table)
  pub full : (h : History) (t : ℕ) (nodes table b : List ℕ)
      → Settles {A = Result ℕ Refusal × List ℕ} (λ x. (said_all x.0 ≡ full_of h t nodes table (length b)) × (x.1 ≡ full_written h t nodes table b))
  pub history_single : (v : View) (t q : ℕ) (nodes b : List ℕ)
      → Settles {A = ℕ × List ℕ} (λ x. (x.0 ≡ number_of (P.single_refusal v t q nodes (length b))) × (x.1 ≡ P.single_written v t q nodes b))
  pub history_full : (v : View) (t : ℕ) (nodes b : List ℕ)
      → Settles {A = ℕ × List ℕ} (λ x. (x.0 ≡ number_of (P.full_refusal v t nodes (length b))) × (x.1 ≡ P.full_written v t nodes b))
  -- of the feed: record_at and read_at; the reader's next, with the reader that it leaves; then new, at place 0, and moved
  pub record_at : (l : List ℕ) (p : ℕ) → Settles {A = Option Reading} (λ r. r ≡ reading_at l p)
  pub next : (l : List ℕ) (p : ℕ) → Settles {A = Option (Result Record Refusal) × List ℕ × ℕ} (λ x. GoesOn l p x.0 x.1 x.2)
  pub moved : (l : List ℕ) (p : ℕ) → Settles {A = List ℕ × ℕ} (λ f. (f.0 ≡ l) × (f.1 ≡ p))

-- ═══ "A refused call returns its number, hands the history's record back unaltered and writes to no buffer." ═══

-- Any call in any state: nothing of the record and no byte of a buffer differs, and besides its number it says zeros.
abbrev pub RefusedKeeps : Type 0
RefusedKeeps = (c : Call) (σ : State) → accepted (step c σ).1.refusal ≡ false → ((step c σ).0 ≡ σ) × ((step c σ).1 ≡ says (step c σ).1.refusal)

-- The exported questions return the number alone, and then leave the answer's bytes as they were.
abbrev pub RefusedUnwritten : Type 0
RefusedUnwritten = (v : View) (t q : ℕ) (nodes b : List ℕ)
    → (accepted (P.single_refusal v t q nodes (length b)) ≡ false → P.single_written v t q nodes b ≡ b)
    × (accepted (P.full_refusal v t nodes (length b)) ≡ false → P.full_written v t nodes b ≡ b)

-- ═══ "It tests its own input and names its refusal"; "Each number is given exactly then" ═══

-- A list of tests is answered r if and only if a test with this answer holds and none before it does, or none holds and r is 0 (`Given`).
abbrev pub ListExactly : Type 0
ListExactly = (tests : List Test) (r : Reply) → Iff (first_of tests ≡ r) (Given tests Nothing r)

-- Of every call in every state: `tests_of` has its tests, in the specification's order.
abbrev pub Exactly : Type 0
Exactly = (c : Call) (σ : State) (r : Reply) → Iff ((step c σ).1.refusal ≡ r) (Given (tests_of c σ) Nothing r)

-- what is said of a record that was read, or refused
abbrev pub refusal_in : Result Record Refusal → Reply
refusal_in (Ok r) = Nothing
refusal_in (Err n) = Err n

-- and of a reading: past the feed's end nothing is refused
abbrev pub refusal_of : Option Reading → Reply
refusal_of None = Nothing
refusal_of (Some x) = refusal_in x.what

-- Of every feed, at every place before its end.
abbrev pub FeedExactly : Type 0
FeedExactly = (l : List ℕ) (p : ℕ) → p < length l → (r : Reply) → Iff (refusal_of (reading_at l p) ≡ r) (Given (feed_tests l p) Nothing r)

-- No two answers have the same number.
abbrev pub NumbersDiffer : Type 0
NumbersDiffer = (a b : Reply) → number_of a ≡ number_of b → a ≡ b

pub record Demand1 : Type 0 where
  pub settled : Settled
  pub kept : RefusedKeeps
  pub unwritten : RefusedUnwritten
  pub lists : ListExactly
  pub exactly : Exactly
  pub feeds : FeedExactly
  pub numbers : NumbersDiffer

-- ═══════ Demand 2 ═══════
-- "For a history left as our calls left it, a question about an attribute at t, from the start to the latest accepted time, gives the value of its last accepted change
-- not after t, or null. It gives the interval that the published tree's transient state makes of those changes. Building and reading agree on the node layout of
-- [the specification]."

-- from the start to the latest time, as the record has them
abbrev pub Between : Sequence → ℕ → Type 0
Between s t = ((now s).history.start ≤ t) × (t ≤ (now s).history.latest)

-- and these are what the accepted calls alone make them: the start, the latest accepted time, the number of attributes
pub record NumbersSaid (s : Sequence) : Type 0 where
  pub start : (now s).history.start ≡ s.start
  pub latest : (now s).history.latest ≡ (story s).latest
  pub attributes : (now s).history.attributes ≡ (story s).attributes
  pub finished : (now s).history.finished ≡ (story s).finished

-- What a single question about q at t is to say: accepted, and an interval of q, with the value that was said last, which is the only one of all intervals of
-- the transient state, stored or ongoing, that covers t.
pub record Told (s : Sequence) (q t : ℕ) (a : Answer) : Type 0 where
  pub accepted : a.refusal ≡ Nothing
  pub interval : Interval
  pub entry : a.entry ≡ entry_of interval
  pub quark : interval.quark ≡ q
  pub value : interval.state ≡ said (taken s) q t
  pub only : scan (story s) q t ≡ interval ∷ []

abbrev pub SingleTells : Sequence → Type 0
SingleTells s = (q t : ℕ) → q < (now s).history.attributes → Between s t → Told s q t (step (single t q) (now s)).1

-- A full question says so of every attribute, in quark order, in the answer's first bytes, if these are enough.
pub record AllTold (s : Sequence) (t : ℕ) (a : Answer) (b : List ℕ) : Type 0 where
  pub accepted : a.refusal ≡ Nothing
  pub intervals : List Interval
  pub written : b ≡ sets (now s).answer 0 (spread entry_bytes (map entry_of intervals))
  pub quarks : map (λ x. x.quark) intervals ≡ upto (story s).attributes
  pub values : map (λ x. x.state) intervals ≡ all_said (taken s) t (story s).attributes

abbrev pub FullTells : Sequence → Type 0
FullTells s = (t : ℕ) → Between s t → entry_size * (now s).history.attributes ≤ length (now s).answer
    → let x = step (full t) (now s) in AllTold s t x.1 x.0.answer

-- "For the page server": on the numbers and the nodes that a finished history left, the exported questions say the same, and write the nodes entered, then the entries.
abbrev pub numbers : Sequence → View
numbers s = let h = (now s).history in
    P.finished_view h.start h.latest h.attributes h.shape.k h.shape.c h.shape.n h.used (place_at h.branch h.top) h.top

abbrev pub ExportedTells : Sequence → Type 0
ExportedTells s = (q t : ℕ) (b : List ℕ) → (now s).history.finished ≡ true → q < (now s).history.attributes → Between s t → 40 ≤ length b
    → let a = (step (single t q) (now s)).1 in
    Told s q t a
    × (number_of (P.single_refusal (numbers s) t q (now s).nodes (length b)) ≡ 0)
    × (P.single_written (numbers s) t q (now s).nodes b ≡ sets b 0 (le 8 a.nodes ++ entry_bytes a.entry))

abbrev pub ExportedTellsAll : Sequence → Type 0
ExportedTellsAll s = (t : ℕ) (b : List ℕ) → (now s).history.finished ≡ true → Between s t → 8 + entry_size * (now s).history.attributes ≤ length b
    → (number_of (P.full_refusal (numbers s) t (now s).nodes (length b)) ≡ 0)
    × (P.full_written (numbers s) t (now s).nodes b
    ≡ sets b 0 (le 8 (tally t (afresh s)) ++ spread entry_bytes (map entry_of (scans (story s) t (story s).attributes))))

-- Every run, of any calls in any order: nothing was opened and nothing has changed, or what it left is what the sequence left that its last accepted opening began.
pub record LastOpening (cs : List Call) (σ : State) : Type 0 where
  pub earlier : List Call
  pub sequence : Sequence
  pub before : sequence.before ≡ run earlier σ
  pub split : cs ≡ earlier ++ opening sequence.start sequence.attributes sequence.shape ∷ sequence.calls
  pub left : now sequence ≡ run cs σ

abbrev pub EveryRun : Type 0
EveryRun = (cs : List Call) (σ : State) → σ.begun ≡ false → AllFit cs → (run cs σ ≡ σ) ⊎ LastOpening cs σ

pub record Demand2 : Type 0 where
  pub numbers : (s : Sequence) → NumbersSaid s
  pub single : (s : Sequence) → SingleTells s
  pub full : (s : Sequence) → FullTells s
  pub exported : (s : Sequence) → ExportedTells s
  pub exported_all : (s : Sequence) → ExportedTellsAll s
  pub every : EveryRun

-- ═══════ Demand 3 ═══════
-- "Take any sequence of calls on one history from its opening, each given the record the last one returned, with nobody else writing to its buffers. After each call
-- the used nodes are exactly those the build rule makes afresh from the accepted calls. No byte of a node closed before the call differs. Each accepted question
-- answers as a scan over all intervals does. The nodes entered are as many as have bounds holding t, or none where a single question is answered by an ongoing state."

-- "After each call": what a sequence had done after some of its calls was a sequence too, so what is said of all sequences is said after each call.
abbrev pub EachCall : Type 0
EachCall = (s : Sequence) (done rest : List Call) → s.calls ≡ done ++ rest → (r : Sequence) × (first r ≡ first s) × (r.calls ≡ done)

-- "the used nodes are exactly those the build rule makes afresh from the accepted calls"
pub record Rebuilt (s : Sequence) : Type 0 where
  pub used : (now s).history.used ≡ length (afresh s)
  pub rest : List ℕ
  pub bytes : (now s).nodes ≡ bytes_of s.shape (afresh s) ++ rest

-- the bytes of the i-th node
abbrev pub node_at : Sequence → ℕ → List ℕ → List ℕ
node_at s i b = take (node_size s.shape) (drop (i * node_size s.shape) b)

-- "No byte of a node closed before the call differs": closed is what its header says, "state u8 (1 open, 2 closed)"
abbrev pub ClosedKept : Sequence → Type 0
ClosedKept s = (c : Call) → begins c (now s) ≡ false → Fits c → (i : ℕ) → i < (now s).history.used
    → (read_header (now s).nodes (i * node_size s.shape)).state ≡ 2 → node_at s i (step c (now s)).0.nodes ≡ node_at s i (now s).nodes

-- "Each accepted question answers as a scan over all intervals does. The nodes entered are as many as have bounds holding t, or none where a single question is
-- answered by an ongoing state."
pub record SingleScanned (s : Sequence) (q t : ℕ) (a : Answer) : Type 0 where
  pub entry : a.entry ∷ [] ≡ map entry_of (scan (story s) q t)
  pub nodes : a.nodes ≡ cond (ongoing (story s) q t) 0 (tally t (afresh s))

abbrev pub SingleScans : Sequence → Type 0
SingleScans s = (q t : ℕ) → let a = (step (single t q) (now s)).1 in a.refusal ≡ Nothing → SingleScanned s q t a

pub record FullScanned (s : Sequence) (t : ℕ) (a : Answer) (b : List ℕ) : Type 0 where
  pub entries : b ≡ sets (now s).answer 0 (spread entry_bytes (map entry_of (scans (story s) t (story s).attributes)))
  pub nodes : a.nodes ≡ tally t (afresh s)

abbrev pub FullScans : Sequence → Type 0
FullScans s = (t : ℕ) → let x = step (full t) (now s) in x.1.refusal ≡ Nothing → FullScanned s t x.1 x.0.answer

pub record Demand3 : Type 0 where
  pub each : EachCall
  pub rebuilt : (s : Sequence) → Rebuilt s
  pub closed : (s : Sequence) → ClosedKept s
  pub single : (s : Sequence) → SingleScans s
  pub full : (s : Sequence) → FullScans s
