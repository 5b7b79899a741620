-- The turns of the loops over levels: what is left from the level reached is the whole. Assumes nothing.
use Prim.Native.Nat.{ℕ, suc, ◌+◌, ◌-◌, ◌≤◌, ◌<◌}
use mathlib.Core.Path.{◌≡◌, refl, sym, ◌∙◌}
use mathlib.Core.Bool.{Bool, true, false, not}
use native.Mathlib.Omega.{arith}
use lib.Dec.{eqb}
use borrow.Author.Tests.{le-leb, lt-leb, eq-eqb, ne_eqb, not-true, not-false}
use Rattle.layout.specs.declared.Shape.{Shape}
use Rattle.record.specs.declared.Branch.{Branch}
use Rattle.record.specs.Levels.{place_at, start_at}
use Rattle.record.specs.Sound.{all, level_sound, apart, levels_sound, starts_fall}

module _ (p : ℕ → Bool) (i n : ℕ) where
  pub all_none : n ≡ 0 → all p i n ≡ true
  unfolding all
  all_none e = rw e

  pub all_fails : (m : ℕ) → n ≡ suc m → p i ≡ false → all p i n ≡ false
  unfolding all
  all_fails m e f = rw e (simp f)

  pub all_turn : (j m : ℕ) → j ≡ i + 1 → n ≡ suc m → p i ≡ true → all p i n ≡ all p j m
  unfolding all
  all_turn j m e f g = rw (f, e) (simp g)

-- ---- starts

module _ (b : Branch) (low top level : ℕ) (so_far : starts_fall b level top ≡ starts_fall b low top) where
  pub starts_fail : level < top → start_at b level < start_at b (level + 1) → false ≡ starts_fall b low top
  unfolding starts_fall
  starts_fail lt f = sym (all_fails _ level (top - level) (top - (level + 1)) (omega arith) (simp (lt-leb _ _ f))) ∙ so_far

  pub starts_turn : level < top → start_at b (level + 1) ≤ start_at b level → starts_fall b (level + 1) top ≡ starts_fall b low top
  unfolding starts_fall
  starts_turn lt f = sym (all_turn _ level (top - level) (level + 1) (top - (level + 1)) refl (omega arith) (simp (le-leb _ _ f))) ∙ so_far

  pub starts_end : top ≤ level → true ≡ starts_fall b low top
  unfolding starts_fall
  starts_end le = sym (all_none _ level (top - level) (omega arith)) ∙ so_far

-- ---- places that differ

-- what is left of the levels above l, from level j on
abbrev pub apart_from : Branch → ℕ → ℕ → ℕ → Bool
apart_from b l top j = all (λ k. not (eqb (place_at b k) (place_at b l))) j (top + 1 - j)

pub apart_begin : (b : Branch) (l top : ℕ) → apart_from b l top (l + 1) ≡ apart b l (top - l)
unfolding apart
apart_begin b l top = let e : top + 1 - (l + 1) ≡ top - l = omega arith in rw e

module _ (b : Branch) (l top j : ℕ) (so_far : apart_from b l top j ≡ apart b l (top - l)) where
  pub apart_fail : j ≤ top → place_at b j ≡ place_at b l → false ≡ apart b l (top - l)
  apart_fail le e = sym (all_fails _ j (top + 1 - j) (top + 1 - (j + 1)) (omega arith) (simp (eq-eqb _ _ e))) ∙ so_far

  pub apart_turn : j ≤ top → (place_at b j ≡ place_at b l → ⊥) → apart_from b l top (j + 1) ≡ apart b l (top - l)
  apart_turn le e = sym (all_turn _ j (top + 1 - j) (j + 1) (top + 1 - (j + 1)) refl (omega arith) (simp (ne_eqb _ _ e))) ∙ so_far

  pub apart_end : top < j → true ≡ apart b l (top - l)
  apart_end lt = sym (all_none _ j (top + 1 - j) (omega arith)) ∙ so_far

-- ---- levels

module _ (b : Branch) (s : Shape) (used low top level : ℕ) (so_far : levels_sound b s used level top ≡ levels_sound b s used low top) where
  pub levels_end : top < level → true ≡ levels_sound b s used low top
  unfolding levels_sound
  levels_end lt = sym (all_none _ level (top + 1 - level) (omega arith)) ∙ so_far

  module _ (le : level ≤ top) (x : Bool) (one : x ≡ level_sound b s used level) where
    pub level_fails : not x ≡ true → false ≡ levels_sound b s used low top
    unfolding levels_sound
    level_fails n =
        sym (all_fails _ level (top + 1 - level) (top + 1 - (level + 1)) (omega arith) (simp (← one, not-true x n))) ∙ so_far

    module _ (m : not x ≡ false) (y : Bool) (places : y ≡ apart b level (top - level)) where
      pub places_fail : not y ≡ true → false ≡ levels_sound b s used low top
      unfolding levels_sound
      places_fail n =
          sym (all_fails _ level (top + 1 - level) (top + 1 - (level + 1)) (omega arith) (simp (← one, not-false x m, ← places, not-true y n)))
          ∙ so_far

      pub levels_turn : not y ≡ false → levels_sound b s used (level + 1) top ≡ levels_sound b s used low top
      unfolding levels_sound
      levels_turn n =
          sym (all_turn _ level (top + 1 - level) (level + 1) (top + 1 - (level + 1)) refl (omega arith) (simp (← one, not-false x m, ← places, not-false y n)))
          ∙ so_far
