-- A signed number and its bits, by its sign. Assumes nothing.
use Prim.Native.Nat.{ℕ, zero, suc, ◌-◌, ◌^◌, ◌<◌}
use mathlib.Core.Path.{◌≡◌, refl, sym, ap, subst, ◌∙◌}
use mathlib.Core.Bool.{true, false}
use native.Mathlib.Nat.{zero-add}
use native.Mathlib.Omega.{arith}
use lib.Dec.{T}
use borrow.Author.Tests.{le-ltb, le-leb}
use lib.IntN.{ℤ, pos, negsuc, nat_abs, ◌-ℤ◌}
use lib.Signed.{mag, le_z, non_neg}
use mir.Syntax.{w64}
use mir.Val.{Fits, SFits, to_z, of_z}
use mir.Facts.{to_z_pos}

minus : (m : ℕ) → negsuc 0 -ℤ pos m ≡ negsuc m
minus zero = refl
minus (suc k) = ap (λ (j : ℕ). negsuc (suc j)) (zero-add k)

-- the bits m, below half, taken from -1
pub turned : (m : ℕ) → m < 2 ^ 63 → negsuc 0 -ℤ to_z w64 m ≡ negsuc m
turned m h = ap (λ (z : ℤ). negsuc 0 -ℤ z) (to_z_pos w64 h) ∙ minus m

-- ---- a number v that is read back from its bits as z

pub not_below : (v z : ℤ) → z ≡ v → SFits w64 v → le_z (pos 0) z ≡ true → T (non_neg z) × Fits w64 (nat_abs z) × (nat_abs z ≡ of_z w64 v)
not_below v z e f t = subst (λ (k : ℤ). T (non_neg k) × Fits w64 (nat_abs k) × (nat_abs k ≡ of_z w64 v)) (sym e) (go v f (subst (λ (k : ℤ). le_z (pos 0) k ≡ true) e t))
  where
    go : (v : ℤ) → SFits w64 v → le_z (pos 0) v ≡ true → T (non_neg v) × Fits w64 (nat_abs v) × (nat_abs v ≡ of_z w64 v)
    go (pos n) f t = (tt, record { fits = let h : n < 2 ^ 63 = f.sfits in omega arith }, refl)
    go (negsuc n) f t = absurd (subst T (sym t) tt)

from : (n : ℕ) → negsuc 0 -ℤ negsuc n ≡ pos n
from n = rw (le-ltb (suc n) 1 (omega arith)) (ap pos (let e : suc n - 1 ≡ n = omega arith in e))

-- below 0, -1 - z is the number of what lies below -1
pub is_below : (v z : ℤ) → z ≡ v → le_z (pos 0) z ≡ false → (negsuc 0 -ℤ z ≡ pos (mag v)) × (of_z w64 v ≡ 2 ^ 64 - suc (mag v))
is_below v z e t = subst (λ (k : ℤ). (negsuc 0 -ℤ k ≡ pos (mag v)) × (of_z w64 v ≡ 2 ^ 64 - suc (mag v))) (sym e) (go v (subst (λ (k : ℤ). le_z (pos 0) k ≡ false) e t))
  where
    go : (v : ℤ) → le_z (pos 0) v ≡ false → (negsuc 0 -ℤ v ≡ pos (mag v)) × (of_z w64 v ≡ 2 ^ 64 - suc (mag v))
    go (pos n) t = absurd (subst T (sym (le-leb 0 n (omega arith)) ∙ t) tt)
    go (negsuc n) t = (from n, refl)
