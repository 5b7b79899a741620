-- When the nodes of a list can be read from a buffer, and pass the tests of a question: what a walk on the bytes needs to be the model's walk.
use Rattle.std.specs.Prelude.{ℕ, ◌*◌, ◌^◌, ◌≤◌, ◌<◌, ◌≡◌, List, [], ◌∷◌, ◌++◌, length, get_or}
use Rattle.std.specs.Int.{w64}
use Rattle.std.proofs.Common.{SFits}
use Rattle.layout.specs.Layout.{node_size}
use Rattle.walk.specs.declared.View.{View}
use Rattle.model.specs.State.{value_of}
use Rattle.model.specs.Transient.{Interval}
use Rattle.model.specs.Nodes.{Node, blank, placed, intervals}
use Rattle.model.specs.Rules.{Sits, Known}
use Rattle.represents.specs.Represents.{shape_of, parent_of, bytes_of}

-- ═══ Numbers that fit the fields of a node ═══

-- "child entries of sequence u32 and start u64"
abbrev pub ChildrenFit : List (ℕ × ℕ) → Type 0
ChildrenFit [] = Unit {0}
ChildrenFit (c ∷ cs) = (placed c.0 < 2 ^ 32) × (c.1 < 2 ^ 64) × ChildrenFit cs

-- "quark u32, .. start u64, end u64, value i64"
abbrev pub IntervalsFit : List Interval → Type 0
IntervalsFit [] = Unit {0}
IntervalsFit (x ∷ xs) = (x.quark < 2 ^ 32) × (x.start < 2 ^ 64) × (x.end < 2 ^ 64) × SFits w64 (value_of x.state) × IntervalsFit xs

-- "start u64; end u64; sequence u32; parent u32; intervals u16; children u16; level u8"
pub record NodeFits (m : Node) : Type 0 where
  pub start : m.start < 2 ^ 64
  pub end : m.end < 2 ^ 64
  pub sequence : placed m.seq < 2 ^ 32
  pub parent : parent_of m.parent < 2 ^ 32
  pub intervals : length m.held < 2 ^ 16
  pub children : length m.children < 2 ^ 16
  pub level : m.level < 2 ^ 8
  pub below : ChildrenFit m.children
  pub held : IntervalsFit m.held

-- ═══ Nodes in a buffer ═══

-- The buffer l begins with the bytes of the nodes ns, whose numbers fit their fields and which pass R1 to R6, in no more than 2^32 bytes; and the view v has their shape
-- and number, a number of attributes that knows their quarks, and the place and the level of one of them as its root's.
pub record Readable (v : View) (l : List ℕ) (ns : List Node) : Type 0 where
  pub rest : List ℕ
  pub bytes : l ≡ bytes_of v.shape ns ++ rest
  pub used : v.used ≡ length ns
  pub small : length ns * node_size v.shape ≤ 2 ^ 32
  pub fits : (i : ℕ) → i < length ns → NodeFits (get_or ns (placed i) blank)
  pub sits : (i : ℕ) → i < length ns → ((get_or ns (placed i) blank).seq ≡ i) × Sits (shape_of v.shape) ns (get_or ns (placed i) blank)
  pub known : Known v.attributes (intervals ns)
  pub root : v.root.0 < length ns
  pub level : (get_or ns v.root.0 blank).level ≡ v.level
