-- A feed as a run: its records are the run's calls.
use Rattle.std.specs.Prelude.{ℕ, zero, suc, ◌≤◌, ◌≡◌, List, [], ◌∷◌, map, length, Option, Some, None, Result, Ok, Err}
use Rattle.layout.specs.Layout.{spread}
use Rattle.record.specs.declared.Refusal.{Refusal}
use Rattle.feed.specs.declared.Record.{Record}
use Rattle.feed.specs.declared.Record.TheVariants.{Open, Set, Remove, Increment, Add, Finish, Single, Full}
use Rattle.feed.specs.declared.Reading.{Reading}
use Rattle.feed.specs.Feed.{longest, reading_at, record_bytes, RecordFits}
use Rattle.demands.specs.Runs.{Call, opening, set, remove, increment, add, finish, single, full}
use Rattle.demands.specs.Sequences.{AllFit}

-- the call that a record asks for
abbrev pub call_of : Record → Call
call_of (Open start attributes k c n) = opening start attributes (record { k = k; c = c; n = n })
call_of (Set t q v) = set t q.0 v
call_of (Remove t q) = remove t q.0
call_of (Increment t q) = increment t q.0
call_of Add = add
call_of (Finish t) = finish t
call_of (Single t q) = single t q.0
call_of (Full t) = full t

-- what was read, before other records: a refused record is "passed over"
abbrev pub before : Result Record Refusal → List Record → List Record
before (Ok r) rs = r ∷ rs
before (Err n) rs = rs

-- what is read at a place, and then what follows from the next
abbrev pub go_on : Option Reading → (ℕ → List Record) → List Record
go_on None next = []
go_on (Some x) next = before x.what (next x.next)

-- the records from place p on, in no more than n readings
unfoldable pub records_from : ℕ → List ℕ → ℕ → List Record
records_from zero l p = []
records_from (suc n) l p = go_on (reading_at l p) (records_from n l)

-- the calls of a feed: a reading takes at least a byte
unfoldable pub calls_of : List ℕ → List Call
calls_of l = map call_of (records_from (length l) l 0)

-- ═══ What is said of them ═══

-- records as a feed
abbrev pub feed_of : List Record → List ℕ
feed_of rs = spread record_bytes rs

abbrev pub AllRecordsFit : List Record → Type 0
AllRecordsFit [] = Unit {0}
AllRecordsFit (r ∷ rs) = RecordFits r × AllRecordsFit rs

-- Of records whose numbers fit their fields, in a feed that is not over-long: the calls are theirs, in their order, and no other.
abbrev pub FeedRead : Type 0
FeedRead = (rs : List Record) → AllRecordsFit rs → length (feed_of rs) ≤ longest → calls_of (feed_of rs) ≡ map call_of rs

-- Of any bytes: every value that a feed sets is an i64, so that all that is said of runs and sequences is said of what any feed does.
abbrev pub FeedFits : Type 0
FeedFits = (l : List ℕ) → AllFit (calls_of l)
