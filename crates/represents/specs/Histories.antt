-- When a record, a node buffer and an ongoing table stand for a history of the model, finished or not: what every call finds and leaves.
use Rattle.std.specs.Prelude.{ℕ, ◌+◌, ◌*◌, ◌/◌, ◌≤◌, ◌<◌, true, false, ◌≡◌, List, [], ◌∷◌, ◌++◌, length, drop}
use Rattle.layout.specs.declared.Shape.{Shape}
use Rattle.layout.specs.Layout.{node_size, entry_size}
use Rattle.record.specs.declared.Branch.{Branch}
use Rattle.record.specs.declared.History.{History}
use Rattle.record.specs.Levels.{place_at}
use Rattle.record.specs.Sound.{last_time, shape_allowed}
use Rattle.transient.specs.declared.Ongoing.{Ongoing}
use Rattle.transient.specs.Transient.{ongoing_at}
use Rattle.build.specs.Moves.{held}
use Rattle.model.specs.State.{kind_of, value_of}
use Rattle.model.specs.Transient as M
use Rattle.model.specs.Transient.{Call}
use Rattle.model.specs.Build.{Open, Tree}
use Rattle.model.specs.Nodes.{nodes, close_all, placed, tree_of}
use Rattle.model.specs.Theorems.{Run, left, Calls64}
use Rattle.represents.specs.Represents.{shape_of, bytes_of, Represents}

-- ═══ One history ═══

-- "Every attribute has an ongoing kind, value and start in a lent table."
abbrev pub ongoing_of : M.Ongoing → Ongoing
ongoing_of o = record { kind = kind_of o.state; value = value_of o.state; start = o.start }

-- level l and its place are those of the root, the last of the open branch
abbrev pub Rooted : Branch → ℕ → List Open → Type 0
Rooted b l [] = ⊥
Rooted b l (f ∷ []) = (l ≡ f.head.level) × (place_at b l ≡ placed f.head.seq)
Rooted b l (f ∷ p ∷ above) = Rooted b l (p ∷ above)

-- Until finish: record and nodes represent the tree as it stands while it is open; the table has an entry for every attribute, and each is the ongoing one.
pub record Until (s : Shape) (l : M.History) (h : History) (b table : List ℕ) : Type 0 where
  pub tree : Represents s (tree_of (shape_of s) l) (held h b)
  pub long : l.attributes ≤ length table / entry_size
  pub entries : (q : ℕ) → q < l.attributes → ongoing_at table q ≡ ongoing_of (l.table q)

-- Once finished, of the tree t: the nodes are closed with the latest time, T, with anything behind them; no level is open; and the record keeps how many nodes are
-- used, the largest end stored, and the root's level and place. Of the table nothing is said: it "is not read again".
pub record After (s : Shape) (T : ℕ) (t : Tree) (h : History) (b : List ℕ) : Type 0 where
  pub used : h.used ≡ t.used
  pub largest : h.largest_end ≡ t.largest
  pub within : t.used ≤ s.n
  pub low : h.low ≡ h.top + 1
  pub shallow : h.top < 16
  pub root : Rooted h.branch h.top t.branch
  pub bytes : b ≡ bytes_of s (nodes (close_all T t.branch)) ++ drop (t.used * node_size s) b

-- The record h, the node buffer b and the table show the history l, in nodes of the shape s: the numbers agree, the shape is allowed, there are at most 4,096
-- attributes, the buffer has room for N nodes, and tree and table are there as above.
pub record Shows (s : Shape) (l : M.History) (h : History) (b table : List ℕ) : Type 0 where
  pub shape : h.shape ≡ s
  pub start : h.start ≡ l.start
  pub latest : h.latest ≡ l.latest
  pub attributes : h.attributes ≡ l.attributes
  pub finished : h.finished ≡ l.finished
  pub allowed : shape_allowed s ≡ true
  pub few : l.attributes ≤ 4096
  pub room : s.n * node_size s ≤ length b
  pub until : l.finished ≡ false → Until s l h b table
  pub after : l.finished ≡ true → After s l.latest (tree_of (shape_of s) l) h b

-- ═══ A run of calls ═══

-- With what a history was opened: the numbers of the call, and how many entries the lent table has.
pub record Opening : Type 0 where
  pub shape : Shape
  pub start : ℕ
  pub attributes : ℕ
  pub entries : ℕ

-- "any sequence of calls on one history from its opening", refused ones among them, the latest first
abbrev pub run_of : Opening → List Call → Run
run_of p cs = record { shape = shape_of p.shape; room = p.shape.n; entries = p.entries; start = p.start; attributes = p.attributes; calls = cs }

-- Record and buffers stand for the history that the calls leave: they show it; the opening was an allowed one; the table has, until finish, the entries that it had
-- then; and every value that a call set is an i64.
pub record Stands (p : Opening) (cs : List Call) (h : History) (b table : List ℕ) : Type 0 where
  pub shows : Shows p.shape (left (run_of p cs)) h b table
  pub begins : p.start ≤ last_time
  pub entries : (left (run_of p cs)).finished ≡ false → length table / entry_size ≡ p.entries
  pub values : Calls64 cs
