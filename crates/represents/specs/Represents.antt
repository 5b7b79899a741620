-- When a record and a node buffer stand for a tree of the model: the numbers agree, and the used stretch of the buffer is the encoding of the model's nodes.
use Rattle.std.specs.Prelude.{ℕ, ◌+◌, ◌*◌, ◌≤◌, ◌<◌, ◌≡◌, List, [], ◌∷◌, ◌++◌, map, length, drop}
use Rattle.std.proofs.Math.Option.{Option, none, some}
use Rattle.layout.specs.declared.Shape.{Shape}
use Rattle.layout.specs.declared.Header.{Header}
use Rattle.layout.specs.declared.Child.{Child}
use Rattle.layout.specs.declared.Entry.{Entry}
use Rattle.layout.specs.Layout as L
use Rattle.layout.specs.Layout.{node_size, encode_all}
use Rattle.record.specs.declared.Branch.{Branch}
use Rattle.record.specs.declared.History.{History}
use Rattle.record.specs.Levels.{place_at, start_at, intervals_at, children_at, last_end_at}
use Rattle.record.specs.Firm.{Long}
use Rattle.build.specs.Moves.{Held}
use Rattle.model.specs.State.{kind_of, value_of}
use Rattle.model.specs.Transient.{Interval}
use Rattle.model.specs.Build as M
use Rattle.model.specs.Build.{Subtrees, childless, also, many, Open, Tree}
use Rattle.model.specs.Nodes.{∞, state_of, Node, nodes, placed, close_all}
use Rattle.model.specs.Invariant.{Shaped, Some}
use Rattle.model.proofs.Ready.{Ready}

-- ═══ A node of the model as a node of the layout ═══

-- the model's shape: it has no N
abbrev pub shape_of : Shape → M.Shape
shape_of s = record { K = s.k; C = s.c }

-- "parent u32 (2^32-1 for none)"
abbrev pub parent_of : Option ℕ → ℕ
parent_of none = 4294967295
parent_of (some p) = placed p

-- "start u64; end u64 (2^64-1 while open); sequence u32; parent u32; intervals u16; children u16; level u8; state u8 (1 open, 2 closed)"
abbrev pub header_of : Node → Header
header_of n = record {
  start = n.start;
  end = n.end;
  sequence = record { 0 = placed n.seq };
  parent = record { 0 = parent_of n.parent };
  intervals = length n.held;
  children = length n.children;
  level = n.level;
  state = state_of n.end;
}

-- "child entries of sequence u32 and start u64"
abbrev pub child_of : ℕ × ℕ → Child
child_of c = record { sequence = record { 0 = placed c.0 }; start = c.1 }

-- "quark u32, kind u8, .. start u64, end u64, value i64 (0 for null)"
abbrev pub entry_of : Interval → Entry
entry_of x = record { quark = record { 0 = x.quark }; kind = kind_of x.state; start = x.start; end = x.end; value = value_of x.state }

abbrev pub node_of : Node → L.Node
node_of n = record { header = header_of n; children = map child_of n.children; entries = map entry_of n.held }

-- the bytes of the model's nodes, in the order of their places
abbrev pub bytes_of : Shape → List Node → List ℕ
bytes_of s ns = encode_all s (map node_of ns)

-- ═══ The open branch ═══

-- The entries of level l are those of the open node f; c is 1 if f has an open child, which the record counts and the model's closed children do not.
abbrev pub Line : Branch → ℕ → ℕ → Open → Type 0
Line b c l f =
    (f.head.level ≡ l) × (place_at b l ≡ placed f.head.seq) × (start_at b l ≡ f.head.start)
    × (intervals_at b l ≡ length f.head.held) × (children_at b l ≡ c + many f.closed)

-- so from level l up
abbrev pub Lines : Branch → ℕ → ℕ → List Open → Type 0
Lines b c l [] = Unit {0}
Lines b c l (f ∷ above) = Line b c l f × Lines b 1 (l + 1) above

-- x is the last child's end, if there is a closed child
abbrev pub Ended : ℕ → Subtrees → Type 0
Ended x childless = Unit {0}
Ended x (also ks h e k) = x ≡ e

-- so the last end of the lowest level, which has no open child
abbrev pub Last : Branch → ℕ → List Open → Type 0
Last b l [] = Unit {0}
Last b l (f ∷ above) = Ended (last_end_at b l) f.closed

-- The record's numbers are those of the open branch fs: o is the history's start, S the largest end stored, q the nodes used.
pub record Numbers (s : Shape) (o S q : ℕ) (fs : List Open) (h : History) : Type 0 where
  pub shape : h.shape ≡ s
  pub start : h.start ≡ o
  pub largest : h.largest_end ≡ S
  pub used : h.used ≡ q
  pub top : h.top + 1 ≡ h.low + length fs
  pub shallow : h.top < 16
  pub lines : Lines h.branch 0 h.low fs
  pub last : Last h.branch h.low fs
  pub long : Long h.branch

-- ═══ The relation ═══

-- The numbers agree; the used stretch is the encoding of the nodes, as the tree stands while it is open, with anything behind it; the buffer has room for N
-- nodes, of which the tree uses no more; and the shape is allowed and the tree is one that inserts make.
pub record Represents (s : Shape) (t : Tree) (σ : Held) : Type 0 where
  pub numbers : Numbers s t.start t.largest t.used t.branch σ.history
  pub bytes : σ.nodes ≡ bytes_of s (nodes (close_all ∞ t.branch)) ++ drop (t.used * node_size s) σ.nodes
  pub room : s.n * node_size s ≤ length σ.nodes
  pub within : t.used ≤ s.n
  pub shaped : Shaped (shape_of s)
  pub ready : Ready (shape_of s) t.start t.largest t.used t.branch
  pub some : Some t.branch
  pub small : t.largest < ∞
