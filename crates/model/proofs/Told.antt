-- Of each attribute exactly one interval, stored or ongoing, covers t, and its state is what was said last.
use Prim.Native.Nat.{ℕ, zero, suc, ◌≤◌, ◌<◌}
use mathlib.Core.Bool.{Bool, true, false}
use mathlib.Core.Path.{◌≡◌, refl, sym, ap, ◌∙◌, subst}
use mathlib.Core.List.{List, [], ◌∷◌, ◌++◌}
use native.Mathlib.Omega.{arith}
use lib.Dec.{leb, eqb}
use borrow.Author.Tests.{leb-true, leb-false, eqb-true, eqb-false, ne_eqb}
use Rattle.model.specs.Transient.{Interval, Call, change, add, finish, Ongoing, History, last_intervals, stores, step, history}
use Rattle.model.specs.Nodes.{∞}
use Rattle.model.specs.Questions.{only, covers, current, scan, said}
use Rattle.model.proofs.Attribute.{Fine, other, late, covering}
use Rattle.model.proofs.Legal.{Legal}
use Rattle.model.proofs.Lists.{only_append}
use Rattle.model.proofs.Running.{Running, running}

abbrev pub Told : List Call → History → ℕ → ℕ → Type 0
Told cs l q t = (x : Interval) × (scan l q t ≡ x ∷ []) × (x.state ≡ said cs q t)

entry : History → ℕ → Interval
entry l q = record { quark = q; state = (l.table q).state; start = (l.table q).start; end = ∞ }

current_on : (l : History) (q t : ℕ) → l.finished ≡ false → leb (l.table q).start t ≡ true → current l q t ≡ entry l q ∷ []
unfolding entry
current_on l q t d e = rw (d, e)

current_off : (l : History) (q t : ℕ) → l.finished ≡ false → leb (l.table q).start t ≡ false → current l q t ≡ []
current_off l q t d e = rw (d, e)

told_running : (cs : List Call) (l : History) (q t : ℕ) → Running cs l → l.finished ≡ false → l.start ≤ t → Told cs l q t
unfolding scan entry
told_running cs l q t run d h = go (leb (l.table q).start t) refl
  where
    f : Fine l.start l.latest cs l.stored q (l.table q)
    f = run.each q

    go : (b : Bool) → leb (l.table q).start t ≡ b → (x : Interval) × (current l q t ++ only (covers q t) l.stored ≡ x ∷ []) × (x.state ≡ said cs q t)
    go true e =
        let i = leb-true (l.table q).start t e in
        (entry l q, ap (λ z. z ++ only (covers q t) l.stored) (current_on l q t d e) ∙ ap (λ z. entry l q ∷ z) (f.clear t i), f.now t i)
    go false e =
        let p = f.past t h (leb-false (l.table q).start t e) in
        (p.0, ap (λ z. z ++ only (covers q t) l.stored) (current_off l q t d e) ∙ p.1, p.2)

final : (ℕ → Ongoing) → ℕ → ℕ → Interval
final f T n = record { quark = n; state = (f n).state; start = (f n).start; end = T }

module _ (f : ℕ → Ongoing) (T q t : ℕ) where
  last_intervals_none : (n : ℕ) → n ≤ q → only (covers q t) (last_intervals f T n) ≡ []
  unfolding final
  last_intervals_none zero h = refl
  last_intervals_none (suc n) h = other q t (final f T n) (last_intervals f T n) (ne_eqb n q (λ e. omega arith)) ∙ last_intervals_none n (omega arith)

  last_intervals_late : (n : ℕ) → t < (f q).start → only (covers q t) (last_intervals f T n) ≡ []
  unfolding final
  last_intervals_late zero h = refl
  last_intervals_late (suc n) h = go (eqb n q) refl ∙ last_intervals_late n h
    where
      go : (b : Bool) → eqb n q ≡ b → only (covers q t) (final f T n ∷ last_intervals f T n) ≡ only (covers q t) (last_intervals f T n)
      go true e = late q t (final f T n) (last_intervals f T n) (subst (λ (z : ℕ). t < (f z).start) (sym (eqb-true n q e)) h)
      go false e = other q t (final f T n) (last_intervals f T n) e

  last_intervals_one : (n : ℕ) → q < n → (f q).start ≤ t → t ≤ T → only (covers q t) (last_intervals f T n) ≡ final f T q ∷ []
  unfolding final
  last_intervals_one zero h i j = absurd (omega arith)
  last_intervals_one (suc n) h i j = go (eqb n q) refl (last_intervals_one n)
    where
      go : (b : Bool) → eqb n q ≡ b → (q < n → (f q).start ≤ t → t ≤ T → only (covers q t) (last_intervals f T n) ≡ final f T q ∷ [])
          → only (covers q t) (final f T n ∷ last_intervals f T n) ≡ final f T q ∷ []
      go true e ih = let k = eqb-true n q e in subst (λ (z : ℕ). only (covers q t) (final f T z ∷ last_intervals f T n) ≡ final f T q ∷ []) (sym k)
          (covering q t (final f T q) (last_intervals f T n) refl i j ∙ ap (λ z. final f T q ∷ z) (last_intervals_none n (omega arith)))
      go false e ih = let k = eqb-false n q e in other q t (final f T n) (last_intervals f T n) e ∙ ih (omega arith) i j

told_done : (cs : List Call) (l : History) (T q t : ℕ) → Running cs l → q < l.attributes → l.start ≤ t → t ≤ T
    → Told (finish T ∷ cs) (step (finish T) l) q t
unfolding scan step stores said final
told_done cs l T q t run k h j = go (leb (l.table q).start t) refl
  where
    f : Fine l.start l.latest cs l.stored q (l.table q)
    f = run.each q

    C : List Interval
    C = last_intervals l.table T l.attributes

    go : (b : Bool) → leb (l.table q).start t ≡ b
        → (x : Interval) × (only (covers q t) (last_intervals l.table T l.attributes ++ l.stored) ≡ x ∷ []) × (x.state ≡ said cs q t)
    go true e = let i = leb-true (l.table q).start t e in
        (final l.table T q, only_append (covers q t) C l.stored ∙ rw (last_intervals_one l.table T q t l.attributes k i j, f.clear t i), f.now t i)
    go false e = let i = leb-false (l.table q).start t e in let p = f.past t h i in
        let none = last_intervals_late l.table T q t l.attributes i in
        (p.0, only_append (covers q t) C l.stored ∙ (ap (λ z. z ++ only (covers q t) l.stored) none ∙ p.1), p.2)

pub told : (s n : ℕ) (cs : List Call) (q t : ℕ) → Legal s n cs → q < (history s n cs).attributes → (history s n cs).start ≤ t
    → t ≤ (history s n cs).latest → Told cs (history s n cs) q t
unfolding history Legal step
told s n [] q t k h i j = told_running [] (history s n []) q t (running s n [] k refl) refl i
told s n (change τ x c ∷ cs) q t k h i j =
    told_running (change τ x c ∷ cs) (history s n (change τ x c ∷ cs)) q t (running s n (change τ x c ∷ cs) k k.0) k.0 i
told s n (add ∷ cs) q t k h i j = told_running (add ∷ cs) (history s n (add ∷ cs)) q t (running s n (add ∷ cs) k k.0) k.0 i
told s n (finish τ ∷ cs) q t k h i j = told_done cs (history s n cs) τ q t (running s n cs k.3 k.0) h i j
