-- A node's bytes. Document 01, "Node layout (little-endian)".
use Rattle.std.specs.Prelude.{ℕ, ◌+◌, ◌*◌, ◌^◌, ◌<◌, List, [], ◌∷◌, ◌++◌, take, replicate, Option, option_to_list}
use Rattle.std.specs.Int.{w64}
use Rattle.std.proofs.Common.{to_z, of_z, SFits}
use Rattle.words.specs.Words.{le, num}
use Rattle.layout.specs.declared.Shape.{Shape}
use Rattle.layout.specs.declared.Header.{Header}
use Rattle.layout.specs.declared.Child.{Child}
use Rattle.layout.specs.declared.Entry.{Entry}

-- ═══ Where things stand ═══

-- "Header, 32 bytes"
abbrev pub header_size : ℕ
header_size = 32

-- "C child entries of sequence u32 and start u64"
abbrev pub child_size : ℕ
child_size = 12

-- "K interval entries of 32 bytes"
abbrev pub entry_size : ℕ
entry_size = 32

-- "Node size 32 + 12C + 32K"
unfoldable pub node_size : Shape → ℕ
node_size s = header_size + child_size * s.c + entry_size * s.k

-- where the i-th child entry stands in its node
unfoldable pub child_at : ℕ → ℕ
child_at i = header_size + child_size * i

-- where the i-th interval entry stands in its node
unfoldable pub entry_at : Shape → ℕ → ℕ
entry_at s i = header_size + child_size * s.c + entry_size * i

-- ═══ The parts as bytes ═══

-- "Header, 32 bytes: start u64; end u64 (2^64-1 while open); sequence u32; parent u32 (2^32-1 for none);"
unfoldable pub bounds : Header → List ℕ
bounds h = le 8 h.start ++ (le 8 h.end ++ (le 4 h.sequence.0 ++ le 4 h.parent.0))

-- "intervals u16; children u16; level u8; state u8 (1 open, 2 closed); two zero bytes."
unfoldable pub counts : Header → List ℕ
counts h = le 2 h.intervals ++ (le 2 h.children ++ (le 1 h.level ++ (le 1 h.state ++ le 2 0)))

unfoldable pub header_bytes : Header → List ℕ
header_bytes h = bounds h ++ counts h

-- "child entries of sequence u32 and start u64"
unfoldable pub child_bytes : Child → List ℕ
child_bytes c = le 4 c.sequence.0 ++ le 8 c.start

-- "quark u32, kind u8, three zero bytes, start u64, end u64, value i64 (0 for null)"
unfoldable pub entry_bytes : Entry → List ℕ
entry_bytes e = le 4 e.quark.0 ++ (le 1 e.kind ++ (le 3 0 ++ (le 8 e.start ++ (le 8 e.end ++ le 8 (of_z w64 e.value)))))

-- its quark and kind as one number, the quark in the lowest 32 bits
abbrev pub entry_name : Entry → ℕ
entry_name e = e.quark.0 + 4294967296 * e.kind

-- ═══ The parts read, from index p of any bytes ═══

abbrev pub read_header : List ℕ → ℕ → Header
read_header l p = record {
  start = num l p 8;
  end = num l (p + 8) 8;
  sequence = record { 0 = num l (p + 16) 4 };
  parent = record { 0 = num l (p + 20) 4 };
  intervals = num l (p + 24) 2;
  children = num l (p + 26) 2;
  level = num l (p + 28) 1;
  state = num l (p + 29) 1;
}

abbrev pub read_child : List ℕ → ℕ → Child
read_child l p = record { sequence = record { 0 = num l p 4 }; start = num l (p + 4) 8 }

abbrev pub read_entry : List ℕ → ℕ → Entry
read_entry l p = record {
  quark = record { 0 = num l p 4 };
  kind = num l (p + 4) 1;
  start = num l (p + 8) 8;
  end = num l (p + 16) 8;
  value = to_z w64 (num l (p + 24) 8);
}

-- ═══ A whole node ═══

-- A node as a value: the numbers of its header, its child entries and its interval entries, in order.
pub record Node : Type 0 where
  pub header : Header
  pub children : List Child
  pub entries : List Entry

-- a node with another header, with one more child entry, with one more interval entry
abbrev pub with_header : Node → Header → Node
with_header n h = record { header = h; children = n.children; entries = n.entries }

abbrev pub with_child : Node → Child → Node
with_child n c = record { header = n.header; children = n.children ++ c ∷ []; entries = n.entries }

abbrev pub with_entry : Node → Entry → Node
with_entry n e = record { header = n.header; children = n.children; entries = n.entries ++ e ∷ [] }

-- entries one after the other
module _ {A : Type 0} where
  abbrev pub spread : (A → List ℕ) → List A → List ℕ
  spread f [] = []
  spread f (x ∷ xs) = f x ++ spread f xs

-- "Unused entries are zero." Cut at n, so that every node has its size, whatever it holds.
unfoldable pub padded : ℕ → List ℕ → List ℕ
padded n xs = take n (xs ++ replicate n 0)

-- "Then C child entries", "Then K interval entries"
unfoldable pub body : Shape → List Child → List Entry → List ℕ
body s cs xs = padded (child_size * s.c) (spread child_bytes cs) ++ padded (entry_size * s.k) (spread entry_bytes xs)

unfoldable pub encode : Shape → Node → List ℕ
encode s n = header_bytes n.header ++ body s n.children n.entries

-- "Node i stands at i times the node size": the bytes of nodes in the order of their places
unfoldable pub encode_all : Shape → List Node → List ℕ
encode_all s ns = spread (encode s) ns

-- what a new node holds besides its header: a new root has its first child, any other nothing
unfoldable pub new_node : Header → Option Child → Node
new_node h first = record { header = h; children = option_to_list first; entries = [] }

-- ═══ Values that fit their fields, and so are read back as they were written ═══

pub record HeaderFits (h : Header) : Type 0 where
  pub start : h.start < 2 ^ 64
  pub end : h.end < 2 ^ 64
  pub sequence : h.sequence.0 < 2 ^ 32
  pub parent : h.parent.0 < 2 ^ 32
  pub intervals : h.intervals < 2 ^ 16
  pub children : h.children < 2 ^ 16
  pub level : h.level < 2 ^ 8
  pub state : h.state < 2 ^ 8

pub record ChildFits (c : Child) : Type 0 where
  pub sequence : c.sequence.0 < 2 ^ 32
  pub start : c.start < 2 ^ 64

pub record EntryFits (e : Entry) : Type 0 where
  pub quark : e.quark.0 < 2 ^ 32
  pub kind : e.kind < 2 ^ 8
  pub start : e.start < 2 ^ 64
  pub end : e.end < 2 ^ 64
  pub value : SFits w64 e.value
