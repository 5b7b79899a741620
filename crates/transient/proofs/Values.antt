-- Laws of i64 values: equal by their bits, and one more. Assumes nothing.
use Rattle.std.proofs.Common.{◌≡◌, zero, suc, true, false, ℤ, pos, negsuc, ◌+ℤ◌, sym, ap, ◌∙◌, subst, arith, to_z-of_z, w64, SFits, to_z, of_z, eq-eqb, ne_eqb, eqb-true}
use borrow.Author.Tests.{eqb-false}
use lib.IntN.{suc_ℤ, +ℤ_one}
use Rattle.transient.specs.Transient.{same_value}

-- ---- two i64 with the same bits are the same

pub same_value_lem : (v w : ℤ) → SFits w64 v → SFits w64 w → same_value v w ≡ true → v ≡ w
same_value_lem v w f g e = sym (to_z-of_z f) ∙ ap (to_z w64) (eqb-true (of_z w64 v) (of_z w64 w) e) ∙ to_z-of_z g

pub value_same : (v w : ℤ) → v ≡ w → same_value v w ≡ true
value_same v w e = eq-eqb (of_z w64 v) (of_z w64 w) (ap (of_z w64) e)

pub other_value : (v w : ℤ) → SFits w64 v → SFits w64 w → (v ≡ w → ⊥) → same_value v w ≡ false
other_value v w f g n = ne_eqb (of_z w64 v) (of_z w64 w) (λ e. n (sym (to_z-of_z f) ∙ ap (to_z w64) e ∙ to_z-of_z g))

pub value_other : (v w : ℤ) → same_value v w ≡ false → v ≡ w → ⊥
value_other v w h e = eqb-false (of_z w64 v) (of_z w64 w) h (ap (of_z w64) e)

-- the bits 2^63-1 are those of 2^63-1 alone
pub top_value : (v : ℤ) → SFits w64 v → of_z w64 v ≡ 9223372036854775807 → v ≡ pos 9223372036854775807
top_value v f e = sym (to_z-of_z f) ∙ ap (to_z w64) e

-- ---- one more

plus_one : (v : ℤ) → SFits w64 v → (of_z w64 v ≡ 9223372036854775807 → ⊥) → SFits w64 (v +ℤ pos 1)
plus_one (pos n) f e = omega arith
plus_one (negsuc zero) f e = record { sfits = omega arith }
plus_one (negsuc (suc n)) f e = rw (+ℤ_one (negsuc (suc n))) (omega arith)

-- below 2^63-1 the next value fits
pub fits_one : (v : ℤ) → SFits w64 v → (of_z w64 v ≡ 9223372036854775807 → ⊥) → SFits w64 (suc_ℤ v)
fits_one v f e = subst (SFits w64) (+ℤ_one v) (plus_one v f e)
