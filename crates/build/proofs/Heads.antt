-- Where headers and entries are written, and that what the four moves leave is what their definitions say. Assumes nothing.
use Prim.Native.Nat.{ℕ, ◌+◌, ◌*◌, ◌≤◌, ◌<◌}
use mathlib.Core.Path.{◌≡◌, refl, ap, ◌∙◌}
use mathlib.Core.List.{List}
use native.Mathlib.Omega.{arith}
use lib.ListN.{length}
use lib.Seq.{sets}
use Rattle.std.specs.Prelude.{Some, None}
use Rattle.layout.specs.declared.Entry.{Entry}
use Rattle.layout.specs.Layout.{header_size, child_size, entry_size, node_size, child_at, entry_at, child_bytes, entry_bytes}
use Rattle.layout.proofs.Parts.{header_room, child_room, entry_room}
use Rattle.record.specs.declared.History.{History}
use Rattle.record.specs.Levels.{seq_at, start_at, intervals_at, children_at}
use Rattle.record.specs.Firm.{Firm}
use Rattle.record.specs.Moves.{raised, made, stored}
use Rattle.record.proofs.Room.{nodes_room}
use Rattle.build.specs.Moves.{held, open_end, stands_at, Standing, Room, put_head, put_new, with_child, raise, make, added, store}
use Rattle.build.proofs.Stands.{length_head, child_stands}

-- ---- within the node at `at`, which is within the buffer

module _ (h : History) (l : ℕ) (b : List ℕ) (s : Standing h l b) (at : ℕ) (room : at + node_size h.shape ≤ h.shape.n * node_size h.shape) where
  pub head_inside : at + header_size ≤ length b
  head_inside = omega (arith, header_room h.shape, s.room)

-- ---- the moves: `h` and `b` are the record and the buffer before, `g` is the record after

pub raise_done : (h g : History) (b c d : List ℕ) → g ≡ raised h → c ≡ put_head g h.top h.largest_end 2 b
    → d ≡ put_new g (h.top + 1) (Some (record { sequence = seq_at h.branch h.top; start = start_at h.branch h.top })) c → held g d ≡ raise (held h b)
unfolding raise
raise_done h g b c d e i j = rw (j, i, e) refl

module _ (h : History) (b : List ℕ) (f : Firm h) (space : Room h b) (at slot : ℕ) (room : at + node_size h.shape ≤ h.shape.n * node_size h.shape) where
  module _ (a l : ℕ) (low : h.low ≡ l + 1) (fewer : children_at h.branch (l + 1) < h.shape.c) (more : h.used < h.shape.n) (is : slot ≡ child_at (children_at h.branch (l + 1))) where
    child_ends : at + slot + child_size ≤ h.shape.n * node_size h.shape
    child_ends = omega (arith, child_room h.shape (children_at h.branch (l + 1)) fewer)

    pub child_small : at + slot ≤ 4294967296
    child_small = omega (arith, child_ends, nodes_room h.shape.n (node_size h.shape) f.shaped.nodes f.shaped.size)

    module _ (g : History) (c : List ℕ) (put : c ≡ put_head g (l + 1) open_end 1 b) where
      pub child_inside : at + slot + child_size ≤ length c
      child_inside = omega (arith, child_ends, space, ap length put ∙ length_head g (l + 1) b open_end 1)

      module _ (d : List ℕ) (stands : at ≡ stands_at h (l + 1)) (e : g ≡ made h a l) (with : d ≡ sets c (at + slot) (child_bytes (record { sequence = record { 0 = h.used }; start = a }))) where
        child_put : d ≡ with_child h g a (l + 1) b
        unfolding with_child
        child_put = with ∙ rw (put, stands, is) refl

        pub new_stands : Standing g l d
        new_stands = child_stands h b f space a l low fewer more g d e child_put

        pub make_done : (t : List ℕ) → t ≡ put_new g l None d → held g t ≡ make a l (held h b)
        unfolding make
        make_done t new = rw (new, child_put, e) refl

  module _ (l : ℕ) (fewer : intervals_at h.branch l < h.shape.k) (is : slot ≡ entry_at h.shape (intervals_at h.branch l)) where
    entry_ends : at + slot + entry_size ≤ h.shape.n * node_size h.shape
    entry_ends = omega (arith, entry_room h.shape (intervals_at h.branch l) fewer)

    pub entry_small : at + slot ≤ 4294967296
    entry_small = omega (arith, entry_ends, nodes_room h.shape.n (node_size h.shape) f.shaped.nodes f.shaped.size)

    -- without the header
    pub entry_alone : at + slot + entry_size ≤ length b
    entry_alone = omega (arith, entry_ends, space)

    pub add_done : (g : History) (x : Entry) (d : List ℕ) → at ≡ stands_at h l → g ≡ stored h l → d ≡ sets b (at + slot) (entry_bytes x) → held g d ≡ added x l (held h b)
    unfolding added
    add_done g x d stands e with = rw (with, stands, is, e) refl

    module _ (g : History) (c : List ℕ) (put : c ≡ put_head g l open_end 1 b) where
      pub store_done : (x : Entry) (d : List ℕ) → at ≡ stands_at h l → g ≡ stored h l → d ≡ sets c (at + slot) (entry_bytes x) → held g d ≡ store x l (held h b)
      unfolding store
      store_done x d stands e with = rw (with, put, stands, is, e) refl
