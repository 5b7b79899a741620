-- The descent of a plan on the record: a chain of new nodes below a level, down to one that is empty, and the record stays firm. Assumes nothing.
use Prim.Native.Nat.{ℕ, zero, suc, ◌+◌, ◌-◌, ◌≤◌, ◌<◌}
use mathlib.Core.Path.{◌≡◌, refl}
use native.Mathlib.Numerals.{add-one}
use native.Mathlib.Omega.{arith}
use lib.ListN.{set}
use Rattle.record.specs.declared.History.{History}
use Rattle.record.specs.Levels.{intervals_at, children_at}
use Rattle.record.specs.Moves.{level_new, level_child, with_branch, made, stored}
use Rattle.record.specs.Firm.{Firm, Long}
use Rattle.record.proofs.Kept.{firm_made, firm_stored}
use Rattle.record.proofs.Effects.{made_long}
use Rattle.build.specs.Trial.{descend_on}
use Rattle.build.specs.Carried.{Alike, Descending, Hanging}
use Rattle.build.proofs.Climbs.{set_most, alike_over}

module _ (h : History) (a n : ℕ) (d : Descending h (suc n)) where
  pub make_needs : (n < 15) × (h.used < h.shape.n) × (h.used < 4294967295) × (children_at h.branch (n + 1) < h.shape.c) × (children_at h.branch (n + 1) < 65535)
  make_needs =
      let f = d.firm in
      let fewer : children_at h.branch (n + 1) < h.shape.c = rw add-one (d.fewer (omega arith)) in
      (omega (arith, d.low, f.ordered, f.top), omega (arith, d.room), omega (arith, d.room, f.shaped.nodes), fewer, omega (arith, fewer, f.shaped.fifty))

  pub make_descending : Descending (made h a n) n
  unfolding made with_branch level_new level_child
  make_descending =
      let k = make_needs in
      record {
        firm = firm_made h d.firm a n (omega (arith, d.low)) k.3 k.1;
        low = refl;
        fewer = λ x. omega (arith, set_most (set h.branch.children (n + 1) (children_at h.branch (n + 1) + 1)) n 0, d.firm.shaped.two);
        room = omega (arith, d.room);
      }

module _ (h : History) (a l : ℕ) where
  pub make_alike : Alike h (made h a l)
  unfolding made with_branch
  make_alike = record { shape = refl; start = refl; latest = refl; attributes = refl; finished = refl }

  make_empty : intervals_at (made h a l).branch l ≤ 0
  unfolding made with_branch level_new level_child
  make_empty = set_most h.branch.intervals l 0

module _ (a : ℕ) where
  pub descend_ends : (n : ℕ) (h : History) → Descending h n → Descending (descend_on a n h) 0
  unfolding descend_on
  descend_ends zero h d = d
  descend_ends (suc n) h d = descend_ends n (made h a n) (make_descending h a n d)

  pub descend_alike : (n : ℕ) (h : History) → Alike h (descend_on a n h)
  unfolding descend_on
  descend_alike zero h = record { shape = refl; start = refl; latest = refl; attributes = refl; finished = refl }
  descend_alike (suc n) h = alike_over h (made h a n) (descend_on a n (made h a n)) (make_alike h a n) (descend_alike n (made h a n))

  pub descend_long : (n : ℕ) (h : History) → Long h.branch → Long (descend_on a n h).branch
  unfolding descend_on
  descend_long zero h g = g
  descend_long (suc n) h g = descend_long n (made h a n) (made_long h n a g)

  -- the lowest node of a chain is empty
  descend_empty : (n : ℕ) (h : History) → intervals_at (descend_on a (suc n) h).branch 0 ≡ 0
  unfolding descend_on
  descend_empty zero h = omega (arith, make_empty h a 0)
  descend_empty (suc n) h = descend_empty n (made h a (suc n))

module _ (h : History) (a n : ℕ) (g : Hanging h n) where
  -- and takes an interval
  pub chain_empty : intervals_at (descend_on a n h).branch 0 ≡ 0
  chain_empty = let e : n ≡ suc (n - 1) = omega (arith, g.some) in rw e (descend_empty a (n - 1) h)

  pub chain_keeps : intervals_at (descend_on a n h).branch 0 < (descend_on a n h).shape.k
  chain_keeps = omega (arith, chain_empty, (descend_ends a n h g.down).firm.shaped.some)

  pub chain_firm : Firm (stored (descend_on a n h) 0)
  chain_firm = firm_stored (descend_on a n h) (descend_ends a n h g.down).firm 0 chain_keeps
