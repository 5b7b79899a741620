-- What is known of a history that is not finished: every attribute is as it should be, and what is stored may be stored.
use Prim.Native.Nat.{ℕ, ◌≤◌, ◌<◌}
use mathlib.Core.Bool.{Bool, true, false, cond}
use mathlib.Core.Path.{◌≡◌, refl, subst}
use mathlib.Core.List.{List, [], ◌∷◌, ◌++◌}
use native.Mathlib.Omega.{arith}
use lib.Dec.{eqb}
use borrow.Author.Tests.{eqb-true, eqb-false, ne_eqb}
use Rattle.model.specs.State.{same}
use Rattle.model.specs.Transient.{Interval, Change, Call, change, add, finish, becomes, Ongoing, History, unset, opened, Effect, stays, replaced, ended, effect, after, to_store, stores, step, history}
use Rattle.model.specs.Questions.{said}
use Rattle.model.proofs.Attribute.{same_eq, Fine, fine_other, fine_more, fine_same, fine_replaced, fine_stored}
use Rattle.model.proofs.Legal.{Sanes, Legal}

-- no interval ends after e
abbrev pub Capped : ℕ → List Interval → Type 0
Capped e [] = Unit {0}
Capped e (x ∷ xs) = (x.end ≤ e) × Capped e xs

pub capped_mono : (e e' : ℕ) (xs : List Interval) → e ≤ e' → Capped e xs → Capped e' xs
capped_mono e e' [] h c = tt
capped_mono e e' (x ∷ xs) h c = (omega arith, capped_mono e e' xs h c.1)

-- What is known of a history that is not finished.
pub record Running (cs : List Call) (l : History) : Type 0 where
  pub each : (q : ℕ) → Fine l.start l.latest cs l.stored q (l.table q)
  pub sane : Sanes l.start l.stored
  pub capped : Capped l.latest l.stored
  pub low : l.start ≤ l.latest
  pub untouched : (q : ℕ) → l.attributes ≤ q → l.table q ≡ unset l.start

module _ (τ x : ℕ) (c : Change) (cs : List Call) (l : History) (known : x < l.attributes) (later : l.latest ≤ τ) (run : Running cs l) where
  changed_here : (b b' : Bool) → same (becomes c (l.table x).state) (l.table x).state ≡ b → eqb (l.table x).start τ ≡ b'
      → let e = cond b stays (cond b' replaced ended) in
      Fine l.start τ (change τ x c ∷ cs) (to_store e x (l.table x) τ ++ l.stored) x (after e (l.table x) (becomes c (l.table x).state) τ)
  changed_here true b' e e' = fine_same τ x c cs l.start l.latest l.stored later (l.table x) (run.each x) (same_eq _ (l.table x).state e)
  changed_here false true e e' =
      fine_replaced τ x c cs l.start l.latest l.stored later (l.table x) (run.each x) (eqb-true (l.table x).start τ e')
  changed_here false false e e' =
      fine_stored τ x c cs l.start l.latest l.stored later (l.table x) (run.each x) (eqb-false (l.table x).start τ e')

  changed_there : (q : ℕ) (e : Effect) → eqb x q ≡ false → Fine l.start τ (change τ x c ∷ cs) (to_store e x (l.table x) τ ++ l.stored) q (l.table q)
  changed_there q stays n = fine_other τ x c cs l.start l.latest l.stored later q (l.table q) n (run.each q)
  changed_there q replaced n = fine_other τ x c cs l.start l.latest l.stored later q (l.table q) n (run.each q)
  changed_there q ended n = fine_more τ x c cs l.start l.latest l.stored later (change τ x c ∷ cs) _ q (l.table q) n
      (fine_other τ x c cs l.start l.latest l.stored later q (l.table q) n (run.each q))

  stored_sane : (b b' : Bool) → eqb (l.table x).start τ ≡ b' → let e = cond b stays (cond b' replaced ended) in
      Sanes l.start (to_store e x (l.table x) τ ++ l.stored) × Capped τ (to_store e x (l.table x) τ ++ l.stored)
  stored_sane true b' e = (run.sane, capped_mono l.latest τ l.stored later run.capped)
  stored_sane false true e = (run.sane, capped_mono l.latest τ l.stored later run.capped)
  stored_sane false false e = let f = run.each x in let n = eqb-false (l.table x).start τ e in
      (((f.begun, omega (arith, f.upto)), run.sane), (omega arith, capped_mono l.latest τ l.stored later run.capped))

  run_change : Running (change τ x c ∷ cs) (step (change τ x c) l)
  unfolding step stores
  run_change = let w = stored_sane (same (becomes c (l.table x).state) (l.table x).state) (eqb (l.table x).start τ) refl in
      record {
        each = λ q. go q (eqb x q) refl;
        sane = w.0;
        capped = w.1;
        low = omega (arith, run.low);
        untouched = λ q h. rw (ne_eqb x q (λ e. omega arith)) (run.untouched q h);
      }
    where
      E : Effect
      E = effect (becomes c (l.table x).state) (l.table x) τ

      N : Ongoing
      N = after E (l.table x) (becomes c (l.table x).state) τ

      go : (q : ℕ) (b : Bool) → eqb x q ≡ b → Fine l.start τ (change τ x c ∷ cs) (to_store E x (l.table x) τ ++ l.stored) q (cond b N (l.table q))
      go q true e =
          subst (λ (z : ℕ). Fine l.start τ (change τ x c ∷ cs) (to_store E x (l.table x) τ ++ l.stored) z N) (eqb-true x q e) (changed_here _ _ refl refl)
      go q false e = changed_there q E e

fine_add : (s latest : ℕ) (cs : List Call) (r : List Interval) (q : ℕ) (o : Ongoing) → Fine s latest cs r q o → Fine s latest (add ∷ cs) r q o
unfolding said
fine_add s latest cs r q o f = record { begun = f.begun; upto = f.upto; now = f.now; past = f.past; clear = f.clear }

run_add : (cs : List Call) (l : History) → Running cs l → Running (add ∷ cs) (step add l)
unfolding step
run_add cs l run = record {
  each = λ q. go q (eqb l.attributes q) refl;
  sane = run.sane;
  capped = run.capped;
  low = run.low;
  untouched = λ q h. rw (ne_eqb l.attributes q (λ e. omega arith)) (run.untouched q (omega arith));
}
  where
    go : (q : ℕ) (b : Bool) → eqb l.attributes q ≡ b → Fine l.start l.latest (add ∷ cs) l.stored q (cond b (unset l.start) (l.table q))
    go q true e = let i = eqb-true l.attributes q e in
        subst (λ o. Fine l.start l.latest (add ∷ cs) l.stored q o) (run.untouched q (omega arith))
        (fine_add l.start l.latest cs l.stored q (l.table q) (run.each q))
    go q false e = fine_add l.start l.latest cs l.stored q (l.table q) (run.each q)

run_opened : (s n : ℕ) → Running [] (opened s n)
unfolding said
run_opened s n = record {
  each = λ q. record { begun = omega arith; upto = omega arith; now = λ t h. refl; past = λ t h i. absurd (omega arith); clear = λ t h. refl };
  sane = tt;
  capped = tt;
  low = omega arith;
  untouched = λ q h. refl;
}

pub running : (s n : ℕ) (cs : List Call) → Legal s n cs → (history s n cs).finished ≡ false → Running cs (history s n cs)
unfolding history Legal step
running s n [] k d = run_opened s n
running s n (change τ x c ∷ cs) k d = run_change τ x c cs (history s n cs) k.1 k.2 (running s n cs k.4 k.0)
running s n (add ∷ cs) k d = run_add cs (history s n cs) (running s n cs k.1 k.0)
running s n (finish τ ∷ cs) k d = let z : ◌≡◌ {A = ℕ} 0 1 = cc in absurd (omega arith)
