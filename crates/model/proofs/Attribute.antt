-- What is known of one attribute while calls are made: where its ongoing state began, that it is what was said last, and that its past is covered once.
use Prim.Native.Nat.{ℕ, ◌-◌, ◌≤◌, ◌<◌}
use mathlib.Core.Bool.{Bool, true, false, and-false}
use mathlib.Core.Path.{◌≡◌, refl, sym, ap, ◌∙◌}
use mathlib.Core.List.{List, [], ◌∷◌}
use native.Mathlib.Omega.{arith}
use lib.Dec.{leb, eqb}
use lib.IntN.{ℤ, pos, negsuc}
use borrow.Author.Tests.{leb-true, leb-false, le-leb, lt-leb, eqb-true, eq-eqb}
use Rattle.model.specs.State.{State, null, int, same, sameℤ}
use Rattle.model.specs.Transient.{Interval, Change, Call, change, becomes, Ongoing}
use Rattle.model.specs.Questions.{only, covers, said}

sameℤ_eq : (a b : ℤ) → sameℤ a b ≡ true → a ≡ b
sameℤ_eq (pos m) (pos n) e = ap pos (eqb-true m n e)
sameℤ_eq (pos m) (negsuc n) e = cc
sameℤ_eq (negsuc m) (pos n) e = cc
sameℤ_eq (negsuc m) (negsuc n) e = ap negsuc (eqb-true m n e)

pub same_eq : (a b : State) → same a b ≡ true → a ≡ b
same_eq null null e = refl
same_eq null (int b) e = cc
same_eq (int a) null e = cc
same_eq (int a) (int b) e = ap int (sameℤ_eq a b e)

abbrev pub Found : List Call → List Interval → ℕ → ℕ → Type 0
Found cs r q t = (x : Interval) × (only (covers q t) r ≡ x ∷ []) × (x.state ≡ said cs q t)

-- What is known of an attribute q with the ongoing entry o.
pub record Fine (s latest : ℕ) (cs : List Call) (r : List Interval) (q : ℕ) (o : Ongoing) : Type 0 where
  pub begun : s ≤ o.start
  pub upto : o.start ≤ latest
  pub now : (t : ℕ) → o.start ≤ t → o.state ≡ said cs q t
  pub past : (t : ℕ) → s ≤ t → t < o.start → Found cs r q t
  pub clear : (t : ℕ) → o.start ≤ t → only (covers q t) r ≡ []

-- an interval that does not cover t, and one that does
pub other : (q t : ℕ) (x : Interval) (r : List Interval) → eqb x.quark q ≡ false → only (covers q t) (x ∷ r) ≡ only (covers q t) r
other q t x r e = rw e

pub late : (q t : ℕ) (x : Interval) (r : List Interval) → t < x.start → only (covers q t) (x ∷ r) ≡ only (covers q t) r
late q t x r h = rw (lt-leb x.start t h, and-false (eqb x.quark q))

pub early : (q t : ℕ) (x : Interval) (r : List Interval) → x.end < t → only (covers q t) (x ∷ r) ≡ only (covers q t) r
early q t x r h = rw (lt-leb t x.end h, and-false (leb x.start t), and-false (eqb x.quark q))

pub covering : (q t : ℕ) (x : Interval) (r : List Interval) → x.quark ≡ q → x.start ≤ t → t ≤ x.end
    → only (covers q t) (x ∷ r) ≡ x ∷ only (covers q t) r
covering q t x r e h i = rw (eq-eqb x.quark q e, le-leb x.start t h, le-leb t x.end i)

module _ (τ x : ℕ) (c : Change) (cs : List Call) where
  pub said_other : (q t : ℕ) → eqb x q ≡ false → said (change τ x c ∷ cs) q t ≡ said cs q t
  unfolding said
  said_other q t e = rw e

  pub said_before : (q t : ℕ) → t < τ → said (change τ x c ∷ cs) q t ≡ said cs q t
  unfolding said
  said_before q t h = rw (lt-leb τ t h, and-false (eqb x q))

  pub said_now : (t : ℕ) → τ ≤ t → said (change τ x c ∷ cs) x t ≡ becomes c (said cs x t)
  unfolding said
  said_now t h = rw (eq-eqb x x refl, le-leb τ t h)

  module _ (s latest : ℕ) (r : List Interval) (later : latest ≤ τ) where
    -- another attribute
    pub fine_other : (q : ℕ) (o : Ongoing) → eqb x q ≡ false → Fine s latest cs r q o → Fine s τ (change τ x c ∷ cs) r q o
    fine_other q o e f = record {
      begun = f.begun;
      upto = omega (arith, f.upto);
      now = λ t h. f.now t h ∙ sym (said_other q t e);
      past = λ t h i. let p = f.past t h i in (p.0, p.1, p.2 ∙ sym (said_other q t e));
      clear = f.clear;
    }

    -- one more interval, of another attribute
    pub fine_more : (cs' : List Call) (y : Interval) (q : ℕ) (o : Ongoing) → eqb y.quark q ≡ false → Fine s τ cs' r q o → Fine s τ cs' (y ∷ r) q o
    fine_more cs' y q o e f = record {
      begun = f.begun;
      upto = f.upto;
      now = f.now;
      past = λ t h i. let p = f.past t h i in (p.0, other q t y r e ∙ p.1, p.2);
      clear = λ t h. other q t y r e ∙ f.clear t h;
    }

    module _ (o : Ongoing) (f : Fine s latest cs r x o) where
      value : (t : ℕ) → τ ≤ t → becomes c o.state ≡ said (change τ x c ∷ cs) x t
      value t h = ap (becomes c) (f.now t (omega (arith, f.upto))) ∙ sym (said_now t h)

      before : (t : ℕ) → s ≤ t → t < o.start → Found (change τ x c ∷ cs) r x t
      before t h i = let p = f.past t h i in (p.0, p.1, p.2 ∙ sym (said_before x t (omega (arith, f.upto))))

      -- "If kind and value equal the ongoing ones, nothing else happens."
      pub fine_same : becomes c o.state ≡ o.state → Fine s τ (change τ x c ∷ cs) r x o
      fine_same e = record { begun = f.begun; upto = omega (arith, f.upto); now = λ t h. go t h (leb τ t) refl; past = before; clear = f.clear }
        where
          go : (t : ℕ) → o.start ≤ t → (b : Bool) → leb τ t ≡ b → o.state ≡ said (change τ x c ∷ cs) x t
          go t h true b = sym e ∙ value t (leb-true τ t b)
          go t h false b = f.now t h ∙ sym (said_before x t (leb-false τ t b))

      -- "If the ongoing start is t, the value is replaced and nothing is stored."
      pub fine_replaced : o.start ≡ τ → Fine s τ (change τ x c ∷ cs) r x (record { state = becomes c o.state; start = τ })
      fine_replaced e =
          record {
            begun = omega (arith, f.begun);
            upto = omega arith;
            now = value;
            past = λ t h i. before t h (omega arith);
            clear = λ t h. f.clear t (omega arith);
          }

      -- "Otherwise the interval from the ongoing start to t-1, ends included, is stored and the new state is ongoing from t."
      pub fine_stored : (o.start ≡ τ → ⊥)
          → let y : Interval = record { quark = x; state = o.state; start = o.start; end = τ - 1 } in
          Fine s τ (change τ x c ∷ cs) (y ∷ r) x (record { state = becomes c o.state; start = τ })
      fine_stored e = record {
        begun = omega (arith, f.begun, f.upto);
        upto = omega arith;
        now = value;
        past = λ t h i. go t h i (leb o.start t) refl;
        clear = λ t h. early x t y r (omega (arith, f.upto)) ∙ f.clear t (omega (arith, f.upto));
      }
        where
          y : Interval
          y = record { quark = x; state = o.state; start = o.start; end = τ - 1 }

          go : (t : ℕ) → s ≤ t → t < τ → (b : Bool) → leb o.start t ≡ b → Found (change τ x c ∷ cs) (y ∷ r) x t
          go t h i true b =
              let k = leb-true o.start t b in
              (y, covering x t y r refl k (omega arith) ∙ ap (λ z. y ∷ z) (f.clear t k), f.now t k ∙ sym (said_before x t i))
          go t h i false b = let k = leb-false o.start t b in let p = before t h k in (p.0, late x t y r k ∙ p.1, p.2)
