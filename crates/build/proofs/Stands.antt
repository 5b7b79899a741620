-- Open levels stand in the node buffer, before a move and after it. Assumes nothing.
use Prim.Native.Nat.{ℕ, ◌+◌, ◌≤◌, ◌<◌}
use mathlib.Core.Path.{◌≡◌, refl, ap, ◌∙◌}
use mathlib.Core.List.{List}
use native.Mathlib.Omega.{arith}
use lib.ListN.{length}
use lib.Seq.{length-sets}
use Rattle.std.specs.Prelude.{Option}
use Rattle.layout.specs.declared.Child.{Child}
use Rattle.layout.specs.Layout.{child_at, header_bytes, child_bytes, encode, new_node}
use Rattle.record.specs.declared.History.{History}
use Rattle.record.specs.Levels.{place_at, intervals_at, children_at}
use Rattle.record.specs.Firm.{Shaped, Firm}
use Rattle.record.specs.Moves.{with_branch, raised, made, stored}
use Rattle.record.proofs.Effects.{raised_other}
use Rattle.record.proofs.Kept.{firm_raised, firm_made, firm_stored}
use Rattle.build.specs.Moves.{Room, Standing, open_end, stands_at, slot, head_of, put_head, put_new, with_child}

-- ---- lengths

module _ (h : History) (l : ℕ) (b : List ℕ) where
  pub length_head : (e s : ℕ) → length (put_head h l e s b) ≡ length b
  unfolding put_head
  length_head e s = length-sets b (stands_at h l) (header_bytes (head_of h l e s))

  pub length_new : (first : Option Child) → length (put_new h l first b) ≡ length b
  unfolding put_new
  length_new first = length-sets b (stands_at h l) (encode h.shape (new_node (head_of h l open_end 1) first))

pub length_child : (h g : History) (a l : ℕ) (b : List ℕ) → length (with_child h g a l b) ≡ length b
unfolding with_child
length_child h g a l b =
    length-sets (put_head g l open_end 1 b) (stands_at h l + child_at (slot h l)) (child_bytes (record { sequence = record { 0 = h.used }; start = a })) ∙ length_head g l b open_end 1

-- ---- the record's own levels

pub open_stands : (h : History) (l : ℕ) (b : List ℕ) → Firm h → Room h b → h.low ≤ l → l ≤ h.top → Standing h l b
open_stands h l b f room x y = record {
  shaped = f.shaped;
  fitting = record {
    level = omega (arith, f.top);
    top = omega (arith, f.top);
    place = omega (arith, f.placed l x y, f.used, f.shaped.nodes);
    intervals = omega (arith, f.intervals l x y, f.shaped.small);
    children = omega (arith, f.children l x y, f.shaped.fifty);
    parent = λ lt. omega (arith, f.placed (l + 1) (omega arith) (omega arith), f.used, f.shaped.nodes);
  };
  place = omega (arith, f.placed l x y, f.used);
  room = room;
}

-- ---- those of the record after a move

module _ (h : History) (b : List ℕ) (f : Firm h) (room : Room h b) where
  module _ (lt : h.top < 15) (more : h.used < h.shape.n) where
    -- the old root, which is no longer open, is as it was
    old_stands : Standing (raised h) h.top b
    unfolding raised with_branch
    old_stands =
        let o = raised_other h h.top (λ e. omega arith) in
        let s = open_stands h h.top b f room f.ordered (omega arith) in
        let new = (firm_raised h f lt more).placed (h.top + 1) (omega arith) (omega arith) in
        record {
          shaped = f.shaped;
          fitting = record {
            level = omega arith;
            top = omega arith;
            place = omega (arith, o.at_place, s.fitting.place);
            intervals = omega (arith, o.at_intervals, s.fitting.intervals);
            children = omega (arith, o.at_children, s.fitting.children);
            parent = λ x. omega (arith, new, f.shaped.nodes);
          };
          place = omega (arith, o.at_place, s.place);
          room = room;
        }

    pub root_stands : (g : History) → g ≡ raised h → Standing g h.top b
    root_stands g e = rw e old_stands

    above_stands : (c : List ℕ) → length c ≡ length b → Standing (raised h) (h.top + 1) c
    unfolding raised with_branch
    above_stands c e = open_stands (raised h) (h.top + 1) c (firm_raised h f lt more) (omega (arith, room)) (omega arith) (omega arith)

    pub new_root_stands : (g k : History) (c : List ℕ) (l e s : ℕ) → g ≡ raised h → c ≡ put_head k l e s b → Standing g (h.top + 1) c
    new_root_stands g k c l e s i j = rw i (above_stands c (ap length j ∙ length_head k l b e s))

  module _ (a l : ℕ) (is : h.low ≡ l + 1) (fewer : children_at h.branch (l + 1) < h.shape.c) (more : h.used < h.shape.n) where
    made_stands : (m : ℕ) (c : List ℕ) → length c ≡ length b → l ≤ m → m ≤ h.top → Standing (made h a l) m c
    unfolding made with_branch
    made_stands m c e x y = open_stands (made h a l) m c (firm_made h f a l is fewer more) (omega (arith, room)) x y

    pub parent_stands : (g : History) → g ≡ made h a l → Standing g (l + 1) b
    parent_stands g e = rw e (made_stands (l + 1) b refl (omega arith) (omega (arith, f.ordered)))

    pub child_stands : (g : History) (c : List ℕ) → g ≡ made h a l → c ≡ with_child h g a (l + 1) b → Standing g l c
    child_stands g c i j = rw i (made_stands l c (ap length j ∙ length_child h g a (l + 1) b) (omega arith) (omega (arith, f.ordered)))

  module _ (l : ℕ) (low : h.low ≤ l) (top : l ≤ h.top) where
    keeper_stands : intervals_at h.branch l < h.shape.k → Standing (stored h l) l b
    unfolding stored with_branch
    keeper_stands fewer = open_stands (stored h l) l b (firm_stored h f l fewer) room low top

    pub stored_stands : (g : History) → g ≡ stored h l → intervals_at h.branch l < h.shape.k → Standing g l b
    stored_stands g e fewer = rw e (keeper_stands fewer)

    pub has_place : (l < 16) × (place_at h.branch l < h.shape.n) × Shaped h.shape
    has_place = let s = open_stands h l b f room low top in (s.fitting.level, s.place, s.shaped)
