-- What a call said: what a `?` hands on of it; refusals in order, a list's head before what follows it; and that 0 is said where it is accepted and only there. Assumes nothing.
use Prim.Native.Nat.{ℕ}
use mathlib.Core.Path.{◌≡◌, refl, sym, ap, ◌∙◌}
use mathlib.Core.Bool.{Bool, true, false, cond, not, false≢true}
use mathlib.Core.List.{[], ◌∷◌}
use native.Mathlib.Omega.{arith}
use Rattle.std.specs.Prelude.{Result, Ok, Err}
use Rattle.std.specs.Result.{IsErrAnd}
use Rattle.std.proofs.lemmas.Result.{err_from_is_err_and}
use Rattle.record.specs.declared.Refusal.{Refusal}
use Rattle.record.specs.declared.Refusal.TheVariants as R
use Rattle.record.specs.declared.History.{History}
use Rattle.record.specs.Refusals.{Reply, Nothing, Damaged, Short, accepted, first_else, number_of}
use Rattle.record.specs.Sound.{sound, long_enough, admitted}

pub errs : {A : Type 0} (r : Result A Refusal) (e : Refusal) → IsErrAnd r (λ y. y ≡ e) → r ≡ Err e
errs r e gives = let p = err_from_is_err_and r gives in p.1 ∙ ap Err p.2

pub handed_on : (r s : Reply) (e : Refusal) → s ≡ Err e → IsErrAnd r (λ y. y ≡ e) → r ≡ s
handed_on r s e is gives = errs r e gives ∙ sym is

-- which is not 0
pub refused : (s : Reply) (e : Refusal) → s ≡ Err e → accepted s ≡ false
refused s e is = ap accepted is

-- ---- a part of a list and what follows it

pub on_false : {A : Type 0} (b : Bool) (x y : A) → b ≡ false → cond b x y ≡ y
on_false true x y e = absurd (false≢true (sym e))
on_false false x y e = refl

-- a part that refuses decides
pub refuses : (r s : Reply) → accepted r ≡ false → cond (accepted r) s r ≡ r
refuses r s e = on_false (accepted r) s r e

-- one that does not leaves it to what follows
pub passes : (r s : Reply) → r ≡ Nothing → cond (accepted r) s r ≡ s
passes r s e = ap (λ (x : Reply). cond (accepted x) s x) e

-- where neither refuses, what follows does not
pub then_nothing : (r s : Reply) → cond (accepted r) s r ≡ Nothing → s ≡ Nothing
then_nothing r s e = go (accepted r) refl e
  where
    go : (b : Bool) → accepted r ≡ b → cond b s r ≡ Nothing → s ≡ Nothing
    go true a k = k
    go false a k = absurd (false≢true (sym a ∙ ap accepted k))

-- "3 record, 2": the head of every list but that of opening
module _ (h : History) (nodes table : ℕ) (rest : Reply) where
  pub headed : first_else ((not (sound h), Damaged) ∷ (not (long_enough h nodes table), Short) ∷ []) rest ≡ cond (accepted (admitted h nodes table)) rest (admitted h nodes table)
  unfolding admitted
  headed = go (sound h) (long_enough h nodes table)
    where
      go : (x y : Bool) → cond (not x) Damaged (cond (not y) Short rest) ≡ cond (accepted (cond (not x) Damaged (cond (not y) Short Nothing))) rest (cond (not x) Damaged (cond (not y) Short Nothing))
      go true true = refl
      go true false = refl
      go false y = refl

  module _ (r : Reply) (said : r ≡ admitted h nodes table) where
    pub unadmitted : accepted r ≡ false → r ≡ first_else ((not (sound h), Damaged) ∷ (not (long_enough h nodes table), Short) ∷ []) rest
    unadmitted e = sym (headed ∙ ap (λ (x : Reply). cond (accepted x) rest x) (sym said) ∙ refuses r rest e)

    pub after_head : r ≡ Nothing → rest ≡ first_else ((not (sound h), Damaged) ∷ (not (long_enough h nodes table), Short) ∷ []) rest
    after_head e = sym (headed ∙ ap (λ (x : Reply). cond (accepted x) rest x) (sym said) ∙ passes r rest e)

-- ---- 0

pub accepted_nothing : (r : Reply) → accepted r ≡ true → r ≡ Nothing
accepted_nothing (Ok u) e = refl
accepted_nothing (Err r) e = absurd (false≢true e)

pub zero_nothing : (r : Reply) → number_of r ≡ 0 → r ≡ Nothing
unfolding number_of
zero_nothing (Ok u) e = refl
zero_nothing (Err R.Numbers) e = absurd (omega arith)
zero_nothing (Err R.Short) e = absurd (omega arith)
zero_nothing (Err R.Damaged) e = absurd (omega arith)
zero_nothing (Err R.Finished) e = absurd (omega arith)
zero_nothing (Err R.Early) e = absurd (omega arith)
zero_nothing (Err R.Outside) e = absurd (omega arith)
zero_nothing (Err R.NoQuark) e = absurd (omega arith)
zero_nothing (Err R.TableFull) e = absurd (omega arith)
zero_nothing (Err R.Top) e = absurd (omega arith)
zero_nothing (Err R.Deep) e = absurd (omega arith)
zero_nothing (Err R.NoRoom) e = absurd (omega arith)
zero_nothing (Err R.NoTag) e = absurd (omega arith)
zero_nothing (Err R.WrongLength) e = absurd (omega arith)
zero_nothing (Err R.Cut) e = absurd (omega arith)
zero_nothing (Err R.NotOpen) e = absurd (omega arith)
zero_nothing (Err R.LongFeed) e = absurd (omega arith)
