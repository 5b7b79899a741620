-- Where the parts of a node stand: what lies in a node that lies in the buffer. Assumes nothing.
use Rattle.std.proofs.Common.{ℕ, ◌+◌, ◌*◌, ◌/◌, ◌<◌, ◌≤◌, List, length, arith}
use Rattle.layout.specs.declared.Seq.{Seq}
use Rattle.layout.specs.declared.Shape.{Shape}
use Rattle.layout.specs.Layout.{header_size, child_size, entry_size, node_size, child_at, entry_at}
use Rattle.record.proofs.Room.{node_in_buffer, nodes_room, node_inside}
use Rattle.transient.specs.Transient.{table_at}
use Rattle.walk.specs.declared.View.{View}
use Rattle.walk.specs.View.{Roomy}
use Rattle.walk.specs.Walk.{place_of}

module _ (s : Shape) where
  pub header_room : header_size ≤ node_size s
  unfolding node_size
  header_room = omega arith

  -- the first n child entries, and the i-th
  pub children_room : (n : ℕ) → n ≤ s.c → child_at 0 + child_size * n ≤ node_size s
  unfolding node_size child_at
  children_room n h = omega arith

  pub child_room : (i : ℕ) → i < s.c → child_at i + child_size ≤ node_size s
  unfolding node_size child_at
  child_room i h = omega arith

  -- the first n interval entries
  pub entries_room : (n : ℕ) → n ≤ s.k → entry_at s 0 + entry_size * n ≤ node_size s
  unfolding node_size entry_at
  entries_room n h = omega arith

-- the entry of a known quark lies in a table that is long enough
pub table_in : (q n m : ℕ) → q < n → n ≤ m / entry_size → table_at q + entry_size ≤ m
table_in q n m h k = omega arith

-- all nodes lie in the first 2^32 bytes
pub nodes_small : (v : View) (l : List ℕ) → Roomy v l → v.shape.n * node_size v.shape ≤ 4294967296
nodes_small v l roomy = nodes_room v.shape.n (node_size v.shape) roomy.shaped.nodes roomy.shaped.size

-- a node that lies in the first n of them lies in the buffer, and in its first 2^32 bytes
pub node_lies : (v : View) (l : List ℕ) → Roomy v l → (at : ℕ) → at + node_size v.shape ≤ v.shape.n * node_size v.shape
    → (at + node_size v.shape ≤ length l) × (at + node_size v.shape ≤ 4294967296)
node_lies v l roomy at inside = (omega (arith, roomy.room), omega (arith, nodes_small v l roomy))

-- a used place's node lies in the buffer, and in its first 2^32 bytes
module _ (v : View) (l : List ℕ) (roomy : Roomy v l) (place : Seq) (h : place.0 < v.used) where
  pub place_room : place_of v place + node_size v.shape ≤ length l
  place_room = node_in_buffer place.0 v.shape.n (node_size v.shape) (length l) (omega (arith, roomy.used)) roomy.room

  pub place_small : place_of v place + node_size v.shape ≤ 4294967296
  place_small = omega (arith, node_inside place.0 v.shape.n (node_size v.shape) (omega (arith, roomy.used)), nodes_small v l roomy)
