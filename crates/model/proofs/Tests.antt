-- What the outcome of a test tells.
use Prim.Native.Nat.{ℕ, zero, suc}
use mathlib.Core.Bool.{Bool, true, false, cond, not, ◌&&◌}
use mathlib.Core.Path.{◌≡◌, refl}
use native.Mathlib.Omega.{arith}
use Rattle.model.specs.Refusals.{sooner}

pub and_both : (a b : Bool) → (a && b) ≡ true → (a ≡ true) × (b ≡ true)
and_both true b e = (refl, e)
and_both false b e = (cc, cc)

pub not_false : (b : Bool) → not b ≡ false → b ≡ true
not_false true e = refl
not_false false e = cc

-- a list of refusals that answers 0: the first test fails, and the others answer 0 too
pub first_passed : (b : Bool) (k r : ℕ) → cond b (suc k) r ≡ 0 → (b ≡ false) × (r ≡ 0)
first_passed true k r e = absurd (omega arith)
first_passed false k r e = (refl, e)

pub sooner_passed : (a b : ℕ) → sooner a b ≡ 0 → (a ≡ 0) × (b ≡ 0)
sooner_passed zero b e = (refl, e)
sooner_passed (suc a) b e = absurd (omega arith)
