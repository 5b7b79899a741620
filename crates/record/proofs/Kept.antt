-- A firm record stays firm, move by move. Assumes nothing.
use Prim.Native.Nat.{ℕ, zero, suc, ◌+◌, ◌≤◌, ◌<◌}
use mathlib.Core.Path.{◌≡◌, refl}
use mathlib.Core.Bool.{Bool, true, false}
use mathlib.Core.List.{List, [], ◌∷◌}
use native.Mathlib.Nat.{max-le}
use native.Mathlib.Omega.{arith}
use lib.Dec.{eqb}
use lib.ListN.{get_or, set}
use lib.Seq.{get_or-set_other}
use borrow.Author.Tests.{eqb-true, eqb-false}
use Rattle.record.specs.declared.History.{History}
use Rattle.record.specs.Levels.{intervals_at, children_at}
use Rattle.record.specs.Moves.{level_new, level_child, level_stored, level_closed, with_branch, with_largest, closed, raised, made, stored, stretched, at_time, with_attribute}
use Rattle.record.specs.Sound.{last_time}
use Rattle.record.specs.Firm.{Firm}

-- ---- an entry that was set is at most what it was set to, in a list of any length

set_most : (xs : List ℕ) (i v : ℕ) → get_or (set xs i v) i 0 ≤ v
set_most [] i v = omega arith
set_most (x ∷ xs) zero v = omega arith
set_most (x ∷ xs) (suc i) v = set_most xs i v

-- what holds at l and at every other level holds at m
either : (m l : ℕ) (P : ℕ → Type 0) → P l → ((m ≡ l → ⊥) → P m) → P m
either m l P same other = go (eqb m l) refl
  where
    go : (t : Bool) → eqb m l ≡ t → P m
    go true e = rw (eqb-true m l e) same
    go false e = other (eqb-false m l e)

-- one more at i, where there was room
one_more : (xs : List ℕ) (i j k : ℕ) → get_or xs i 0 < k → get_or xs j 0 ≤ k → get_or (set xs i (get_or xs i 0 + 1)) j 0 ≤ k
one_more xs i j k room g =
    either j i (λ m. get_or (set xs i (get_or xs i 0 + 1)) m 0 ≤ k)
    (omega (arith, set_most xs i (get_or xs i 0 + 1)))
    (λ ne. rw (get_or-set_other xs i j (get_or xs i 0 + 1) 0 ne) g)

module _ (h : History) (f : Firm h) where
  -- the lowest level closes, under an open one
  pub firm_closed : h.low < h.top → Firm (closed h)
  unfolding closed with_branch level_closed
  firm_closed lt = record {
    shaped = f.shaped;
    used = f.used;
    ordered = omega arith;
    top = f.top;
    placed = λ l x y. f.placed l (omega arith) y;
    intervals = λ l x y. f.intervals l (omega arith) y;
    children = λ l x y. f.children l (omega arith) y;
    largest = f.largest;
    last = λ p. omega (arith, f.largest, set_most h.branch.last_ends (h.low + 1) h.largest_end);
  }

  -- a new root above the old one
  pub firm_raised : h.top < 15 → h.used < h.shape.n → Firm (raised h)
  unfolding raised with_branch level_new
  firm_raised lt room = record {
    shaped = f.shaped;
    used = omega arith;
    ordered = omega arith;
    top = omega arith;
    placed = λ l x y. let e : l ≡ h.top + 1 = omega arith in rw e (omega (arith, set_most h.branch.places (h.top + 1) h.used));
    intervals = λ l x y. let e : l ≡ h.top + 1 = omega arith in rw e (omega (arith, set_most h.branch.intervals (h.top + 1) 0));
    children = λ l x y. let e : l ≡ h.top + 1 = omega arith in rw e (omega (arith, f.shaped.two, set_most h.branch.children (h.top + 1) 1));
    largest = f.largest;
    last = λ p. omega (arith, f.largest, set_most h.branch.last_ends (h.top + 1) h.largest_end);
  }

  -- a new node under the lowest
  pub firm_made : (a l : ℕ) → h.low ≡ l + 1 → children_at h.branch (l + 1) < h.shape.c → h.used < h.shape.n → Firm (made h a l)
  unfolding made with_branch level_new level_child
  firm_made a l is fewer room = record {
    shaped = f.shaped;
    used = omega arith;
    ordered = omega (arith, f.ordered);
    top = f.top;
    placed = λ m x y.
        either m l (λ k. get_or (set h.branch.places l h.used) k 0 < h.used + 1)
        (omega (arith, set_most h.branch.places l h.used))
        (λ ne. rw (get_or-set_other h.branch.places l m h.used 0 ne) (omega (arith, f.placed m (omega arith) y)));
    intervals = λ m x y.
        either m l (λ k. get_or (set h.branch.intervals l 0) k 0 ≤ h.shape.k)
        (omega (arith, set_most h.branch.intervals l 0))
        (λ ne. rw (get_or-set_other h.branch.intervals l m 0 0 ne) (f.intervals m (omega arith) y));
    children = λ m x y.
        either m l (λ k. get_or (set (set h.branch.children (l + 1) (children_at h.branch (l + 1) + 1)) l 0) k 0 ≤ h.shape.c)
        (omega (arith, set_most (set h.branch.children (l + 1) (children_at h.branch (l + 1) + 1)) l 0))
        (λ ne. rw (get_or-set_other (set h.branch.children (l + 1) (children_at h.branch (l + 1) + 1)) l m 0 0 ne)
        (one_more h.branch.children (l + 1) m h.shape.c fewer (f.children m (omega arith) y)));
    largest = f.largest;
    last = λ p. omega (arith, set_most h.branch.last_ends l 0);
  }

  -- an open level takes an interval
  pub firm_stored : (l : ℕ) → intervals_at h.branch l < h.shape.k → Firm (stored h l)
  unfolding stored with_branch level_stored
  firm_stored l fewer = record {
    shaped = f.shaped;
    used = f.used;
    ordered = f.ordered;
    top = f.top;
    placed = f.placed;
    intervals = λ m x y. one_more h.branch.intervals l m h.shape.k fewer (f.intervals m x y);
    children = f.children;
    largest = f.largest;
    last = f.last;
  }

  -- S grows
  pub firm_stretched : (e : ℕ) → e ≤ last_time → Firm (stretched h e)
  unfolding stretched with_largest
  firm_stretched e le = record {
    shaped = f.shaped;
    used = f.used;
    ordered = f.ordered;
    top = f.top;
    placed = f.placed;
    intervals = f.intervals;
    children = f.children;
    largest = max-le f.largest le;
    last = f.last;
  }

  -- the latest time and the count of attributes do not matter
  pub firm_at_time : (t : ℕ) → Firm (at_time h t)
  unfolding at_time
  firm_at_time t = record {
    shaped = f.shaped;
    used = f.used;
    ordered = f.ordered;
    top = f.top;
    placed = f.placed;
    intervals = f.intervals;
    children = f.children;
    largest = f.largest;
    last = f.last;
  }

  pub firm_with_attribute : Firm (with_attribute h)
  unfolding with_attribute
  firm_with_attribute = record {
    shaped = f.shaped;
    used = f.used;
    ordered = f.ordered;
    top = f.top;
    placed = f.placed;
    intervals = f.intervals;
    children = f.children;
    largest = f.largest;
    last = f.last;
  }
