-- A full question gives one interval for each attribute, in quark order, each with the state that was said last.
use Prim.Native.Nat.{ℕ, zero, suc, ◌≤◌}
use mathlib.Core.Bool.{Bool, true, false, cond}
use mathlib.Core.Path.{◌≡◌, refl, sym, ap, ◌∙◌}
use mathlib.Core.List.{List, [], ◌∷◌, ◌++◌, map, map-append, head-eq_of_cons-eq}
use native.Mathlib.Omega.{arith}
use lib.Dec.{eqb}
use borrow.Author.Tests.{eqb-true}
use Rattle.model.specs.Transient.{Interval, Call, History, history}
use Rattle.model.specs.Nodes.{∞, upto}
use Rattle.model.specs.Questions.{only, covers, ongoing, scan, scans}
use Rattle.model.specs.Theorems.{all_said}
use Rattle.model.proofs.Tests.{and_both}
use Rattle.model.proofs.Legal.{Legal}
use Rattle.model.proofs.Told.{told}

-- the first element that passes a test passes it
only_first : {A : Type 0} (p : A → Bool) (xs : List A) (x : A) (r : List A) → only p xs ≡ x ∷ r → p x ≡ true
only_first p [] x r e = cc
only_first p (y ∷ xs) x r e = go (p y) refl e (only_first p xs x r)
  where
    go : (b : Bool) → p y ≡ b → cond b (y ∷ only p xs) (only p xs) ≡ x ∷ r → (only p xs ≡ x ∷ r → p x ≡ true) → p x ≡ true
    go true w f i = ap p (sym (head-eq_of_cons-eq f)) ∙ w
    go false w f i = i f

scan_quark : (l : History) (q t : ℕ) (x : Interval) → scan l q t ≡ x ∷ [] → x.quark ≡ q
unfolding scan
scan_quark l q t x e = go (ongoing l q t) e
  where
    y : Interval
    y = record { quark = q; state = (l.table q).state; start = (l.table q).start; end = ∞ }

    go : (b : Bool) → cond b (y ∷ []) [] ++ only (covers q t) l.stored ≡ x ∷ [] → x.quark ≡ q
    go true f = ap (λ z. z.quark) (sym (head-eq_of_cons-eq f))
    go false f = eqb-true x.quark q (and_both (eqb x.quark q) _ (only_first (covers q t) l.stored x [] f)).0

pub scans_said : (s n : ℕ) (cs : List Call) (t m : ℕ) → Legal s n cs → m ≤ (history s n cs).attributes → (history s n cs).start ≤ t → t ≤ (history s n cs).latest
    → (map (λ x. x.quark) (scans (history s n cs) t m) ≡ upto m) × (map (λ x. x.state) (scans (history s n cs) t m) ≡ all_said cs t m)
scans_said s n cs t zero k h i j = (refl, refl)
scans_said s n cs t (suc m) k h i j =
    let l = history s n cs in
    let r = told s n cs m t k (omega arith) i j in
    let w = scans_said s n cs t m k (omega arith) i j in
    let one : scans l t (suc m) ≡ scans l t m ++ r.0 ∷ [] = ap (λ z. scans l t m ++ z) r.1 in (
      ap (map (λ x. x.quark)) one ∙ (map-append _ (scans l t m) (r.0 ∷ []) ∙ rw (w.0, scan_quark l m t r.0 r.1)),
      ap (map (λ x. x.state)) one ∙ (map-append _ (scans l t m) (r.0 ∷ []) ∙ rw (w.1, r.2)),
    )
