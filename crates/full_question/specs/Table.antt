-- How the full question goes about it: one table for all quarks along one walk. The promise does not speak of it: a law ties it to what is found for each quark.
use Rattle.std.specs.Prelude.{ℕ, zero, suc, ◌+◌, ◌-◌, ◌≤◌, ◌<◌, ◌≡◌, Bool, cond, not, List, [], ◌++◌, leb, eqb, length, get_or, set}
use Rattle.layout.specs.declared.Entry.{Entry}
use Rattle.layout.specs.declared.Header.{Header}
use Rattle.layout.specs.Layout.{entry_size, entry_at, entry_bytes, read_header, read_entry}
use Rattle.transient.specs.Transient.{table_at, ongoing_at}
use Rattle.walk.specs.declared.View.{View}
use Rattle.walk.specs.Standing.{Walk}
use Rattle.walk.specs.Rules.{broken, kept, covers}
use Rattle.walk.specs.Walk.{place_of, step, root_of}
use Rattle.questions.specs.Found.{many, more}
use Rattle.questions.specs.Single.{table_entry}
use Rattle.full_question.specs.Full.{every_quark}

-- what is noted for a quark whose ongoing state answers: as `many`, no p + 1 comes near it
abbrev pub ongoing : ℕ
ongoing = 4294967294

-- ═══ The ongoing states ═══

unfoldable pub begun : ℕ → ℕ → ℕ → List ℕ → List ℕ
begun q start t xs = cond (leb start t) (set xs q ongoing) xs

-- those of n quarks from q on
unfoldable pub begun_from : List ℕ → ℕ → ℕ → ℕ → List ℕ → List ℕ
begun_from table t q zero xs = xs
begun_from table t q (suc n) xs = begun_from table t (q + 1) n (begun q (ongoing_at table q).start t xs)

unfoldable pub all_begun : View → ℕ → List ℕ → List ℕ → List ℕ
all_begun v t table xs = cond v.finished xs (begun_from table t 0 v.attributes xs)

-- ═══ The walk ═══

-- an entry at byte p is noted for its quark, if at all
unfoldable pub note_if : Bool → ℕ → Entry → List ℕ → List ℕ
note_if b p e xs = cond b (set xs e.quark.0 (more (get_or xs e.quark.0 0) p)) xs

unfoldable pub note : ℕ → ℕ → Entry → List ℕ → List ℕ
note t p e xs = note_if (covers t e) p e xs

-- the n entries from byte p on
unfoldable pub note_all : List ℕ → ℕ → ℕ → ℕ → List ℕ → List ℕ
note_all l t p zero xs = xs
note_all l t p (suc n) xs = note_all l t (p + entry_size) n (note t p (read_entry l p) xs)

-- the node with header h at byte p
unfoldable pub note_in : List ℕ → View → ℕ → ℕ → Header → ℕ → Walk → List ℕ → List ℕ
note_in l v t level h p w xs = cond (kept (broken v w level h)) (note_all l t (p + entry_at v.shape 0) h.intervals xs) xs

unfoldable pub note_at : List ℕ → View → ℕ → ℕ → Walk → List ℕ → List ℕ
note_at l v t level w xs = note_in l v t level (read_header l (place_of v w.place)) (place_of v w.place) w xs

-- along the nodes that the walk enters
unfoldable pub found_from : List ℕ → View → ℕ → ℕ → Walk → List ℕ → List ℕ
found_from l v t zero w xs = xs
found_from l v t (suc n) w xs = cond w.go (found_from l v t n (step l v t n w) (note_at l v t n w xs)) xs

unfoldable pub found_all : List ℕ → View → ℕ → List ℕ → List ℕ
found_all l v t xs = found_from l v t (v.level + 1) (root_of v) xs

-- nothing was found more than once for a quark below n
unfoldable pub once : ℕ → List ℕ → Bool
once n xs = every_quark (λ q. not (eqb (get_or xs q 0) many)) n

-- ═══ The entries ═══

-- what answers for quark q, of which s was found
unfoldable pub entry_for : List ℕ → List ℕ → ℕ → ℕ → Entry
entry_for nodes table q s = cond (eqb s ongoing) (table_entry q table) (read_entry nodes (s - 1))

-- it can be read
pub record Readable (nodes table : List ℕ) (q s : ℕ) : Type 0 where
  pub in_table : s ≡ ongoing → table_at q + entry_size ≤ length table
  pub in_nodes : (s ≡ ongoing → ⊥) → (0 < s) × (s + 31 ≤ length nodes)

-- n entries from quark q on
unfoldable pub entries_from : List ℕ → List ℕ → List ℕ → ℕ → ℕ → List ℕ
entries_from nodes table xs q zero = []
entries_from nodes table xs q (suc n) = entry_bytes (entry_for nodes table q (get_or xs q 0)) ++ entries_from nodes table xs (q + 1) n
