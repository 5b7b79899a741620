-- The place that a reading goes on at: past the last, and in the feed. Assumes nothing.
use Prim.Native.Nat.{ℕ, ◌+◌, ◌≤◌, ◌<◌}
use mathlib.Core.Path.{◌≡◌, refl, subst}
use mathlib.Core.Bool.{Bool, true, false, cond}
use mathlib.Core.List.{List}
use native.Mathlib.Omega.{arith}
use lib.ListN.{length}
use lib.Dec.{leb, ltb}
use borrow.Author.Tests.{leb-true, leb-false, ltb-false}
use Rattle.std.specs.Prelude.{Option, Some, None, Err}
use Rattle.record.specs.declared.Refusal.TheVariants.{Cut, LongFeed}
use Rattle.feed.specs.declared.Reading.{Reading}
use Rattle.feed.specs.Feed.{longest, tag_at, size_at, whole_at, reading, reading_at}

-- a place q to go on at, after a record at p: "passed over"
pub record Ahead (l : List ℕ) (p q : ℕ) : Type 0 where
  pub past : p < q
  pub inside : q ≤ length l

abbrev Goes : List ℕ → ℕ → Option Reading → Type 0
Goes l p None = length l ≤ p
Goes l p (Some r) = Ahead l p r.next

goes : (l : List ℕ) (p : ℕ) → Goes l p (reading_at l p)
unfolding reading_at
goes l p = go (leb (length l) p) refl (ltb longest (length l)) (ltb (length l) (p + 3 + size_at l p)) refl
  where
    go : (a : Bool) → leb (length l) p ≡ a → (b d : Bool) → ltb (length l) (p + 3 + size_at l p) ≡ d
        → Goes l p (cond a None (cond b (reading (Err LongFeed) (length l)) (cond d (reading (Err Cut) (length l)) (reading (whole_at l (tag_at l p) (p + 3) (size_at l p)) (p + 3 + size_at l p)))))
    go true h b d g = leb-true (length l) p h
    go false h true d g = record { past = leb-false (length l) p h; inside = omega arith }
    go false h false true g = record { past = leb-false (length l) p h; inside = omega arith }
    go false h false false g = record { past = omega arith; inside = ltb-false (length l) (p + 3 + size_at l p) g }

module _ (l : List ℕ) (p : ℕ) where
  pub none_left : reading_at l p ≡ None → length l ≤ p
  none_left e = subst (Goes l p) e (goes l p)

  pub goes_ahead : (r : Reading) → reading_at l p ≡ Some r → Ahead l p r.next
  goes_ahead r e = subst (Goes l p) e (goes l p)
