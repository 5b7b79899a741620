-- The paper's numbers of a list of refusals, and what the number 0 tells. Assumes nothing.
use Prim.Native.Nat.{ℕ}
use mathlib.Core.Bool.{Bool, true, false, cond}
use mathlib.Core.Path.{◌≡◌, refl, ap, ◌∙◌}
use Rattle.record.specs.Refusals.{Reply, Nothing, Finished, Early, Outside, NoQuark, TableFull, Top, number_of}
use Rattle.model.specs.Refusals.{sooner}

-- ---- a change's 6, 5 and 9, a finish's 6 and 5: what follows decides if none of them holds

pub then_9 : (a b x : Bool) (r : Reply) (n : ℕ) → (a ≡ false → b ≡ false → x ≡ false → number_of r ≡ n)
    → number_of (cond a Outside (cond b Early (cond x Top r))) ≡ sooner (cond a 6 (cond b 5 (cond x 9 0))) n
unfolding number_of
then_9 true b x r n e = refl
then_9 false true x r n e = refl
then_9 false false true r n e = refl
then_9 false false false r n e = e refl refl refl

pub then_5 : (a b : Bool) (r : Reply) (n : ℕ) → (a ≡ false → b ≡ false → number_of r ≡ n)
    → number_of (cond a Outside (cond b Early r)) ≡ sooner (cond a 6 (cond b 5 0)) n
unfolding number_of
then_5 true b r n e = refl
then_5 false true r n e = refl
then_5 false false r n e = e refl refl

pub then_7 : (f x : Bool) (r : Reply) (k n : ℕ) → (f ≡ false → x ≡ false → number_of r ≡ sooner k n)
    → number_of (cond f Finished (cond x NoQuark r)) ≡ sooner (cond f 4 (cond x 7 k)) n
unfolding number_of
then_7 true x r k n e = refl
then_7 false true r k n e = refl
then_7 false false r k n e = e refl refl

pub then_8 : (f x y : Bool) → (f ≡ false → x ≡ y) → number_of (cond f Finished (cond x TableFull Nothing)) ≡ sooner (cond f 4 (cond y 8 0)) 0
unfolding number_of
then_8 true x y e = refl
then_8 false x y e = ap (λ (z : Bool). number_of (cond z TableFull Nothing)) (e refl) ∙ go y
  where
    go : (y : Bool) → number_of (cond y TableFull Nothing) ≡ sooner (cond y 8 0) 0
    go true = refl
    go false = refl

pub then_4 : (f : Bool) (r : Reply) (k n : ℕ) → (f ≡ false → number_of r ≡ sooner k n) → number_of (cond f Finished r) ≡ sooner (cond f 4 k) n
unfolding number_of
then_4 true r k n e = refl
then_4 false r k n e = e refl
