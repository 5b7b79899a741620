-- The moves one after the other: levels closing up to the root or past it, S growing, a chain. Assumes nothing.
use Prim.Native.Nat.{ℕ, zero, suc, ◌+◌, ◌-◌, ◌≤◌, ◌<◌, max}
use mathlib.Core.Bool.{Bool, true, false, cond}
use mathlib.Core.Path.{◌≡◌, refl, sym, ap, ◌∙◌, subst}
use mathlib.Core.List.{List, [], ◌∷◌}
use native.Mathlib.Omega.{arith}
use lib.Dec.{ltb}
use borrow.Author.Tests.{lt-ltb, le-ltb}
use Rattle.layout.specs.declared.Shape.{Shape}
use Rattle.record.specs.Moves.{with_branch, with_largest, made, stretched}
use Rattle.build.specs.Moves.{Held, close, raise, make, store}
use Rattle.build.specs.Write.{rise, climb, descend, stretch}
use Rattle.model.specs.Transient.{Interval}
use Rattle.model.specs.Build.{Open, many, adopt, new_root, chain}
use Rattle.model.specs.Nodes.{∞}
use Rattle.model.specs.Invariant.{Shaped}
use Rattle.model.proofs.Places.{Root}
use Rattle.represents.specs.Represents.{shape_of, entry_of}
use Rattle.represents.proofs.Lines.{child}
use Rattle.represents.proofs.Moves.{StandsFor, stands_close, stands_raise, stands_make, stands_store}

-- ---- closing, one level more

climb_more : (n : ℕ) (σ : Held) → climb (suc n) σ ≡ rise (climb n σ)
unfolding climb
climb_more zero σ = refl
climb_more (suc n) σ = climb_more n (rise σ)

pub climb_last : (l low : ℕ) (σ : Held) → low ≤ l → climb (l + 1 - low) σ ≡ rise (climb (l - low) σ)
climb_last l low σ le =
    let m : l + 1 - low ≡ suc (l - low) = omega arith in
    ap (λ (z : ℕ). climb z σ) m ∙ climb_more (l - low) σ

module _ {s : Shape} {b : List ℕ} {o S q : ℕ} where
  pub rise_close : {f p : Open} {above : List Open} (σ : Held) → StandsFor s b o S q (f ∷ p ∷ above) σ → StandsFor s b o S q (adopt S f p ∷ above) (rise σ)
  unfolding rise
  rise_close {f} {p} {above} σ w =
      let e : ltb σ.history.low σ.history.top ≡ true = lt-ltb σ.history.low σ.history.top (omega (arith, w.numbers.top)) in
      subst (λ (z : Bool). StandsFor s b o S q (adopt S f p ∷ above) (cond z (close σ) (raise σ))) (sym e) (stands_close σ w)

  pub rise_raise : {f : Open} (σ : Held) → σ.history.top < 15 → q < s.n → StandsFor s b o S q (f ∷ []) σ → StandsFor s b o S (suc q) (new_root o S q f ∷ []) (rise σ)
  unfolding rise
  rise_raise {f} σ deep more w =
      let e : ltb σ.history.low σ.history.top ≡ false = le-ltb σ.history.low σ.history.top (omega (arith, w.numbers.top)) in
      subst (λ (z : Bool). StandsFor s b o S (suc q) (new_root o S q f ∷ []) (cond z (close σ) (raise σ))) (sym e) (stands_raise σ deep more w)

  -- ---- S grows

  pub stands_stretch : {fs : List Open} (e : ℕ) (σ : Held) → e < ∞ → StandsFor s b o S q fs σ → StandsFor s b o (max S e) q fs (stretch e σ)
  unfolding stretch stretched with_largest
  stands_stretch e σ lt w =
      let n = w.numbers in
      record {
        numbers = record {
          shape = n.shape;
          start = n.start;
          largest = ap (λ (z : ℕ). max z e) n.largest;
          used = n.used;
          top = n.top;
          shallow = n.shallow;
          lines = n.lines;
          last = n.last;
          long = n.long;
        };
        bytes = w.bytes;
        room = w.room;
        counted = w.counted;
        small = omega (arith, w.small);
      }

-- ---- a chain, and the interval in its lowest node

module _ {s : Shape} {b : List ℕ} {o S : ℕ} where
  pub stands_chain : (x : Interval) (a n q : ℕ) (f : Open) (above : List Open) (σ : Held) → Shaped (shape_of s) → σ.history.low ≡ suc n → many f.closed < s.c
      → q + suc n ≤ s.n → Root f above → StandsFor s b o S q (f ∷ above) σ
      → StandsFor s b o S (q + suc n) (chain (suc n) q a x (f ∷ above)) (store (entry_of x) 0 (descend a (suc n) σ))
  unfolding descend make made with_branch
  stands_chain x a zero q f above σ d low kids room root w =
      let e : suc q ≡ q + 1 = omega arith in
      subst (λ (z : ℕ). StandsFor s b o S z (chain 1 q a x (f ∷ above)) (store (entry_of x) 0 (make a 0 σ))) e
      (stands_store x 0 [] (child 0 q a) (f ∷ above) (make a 0 σ) refl d.intervals (stands_make a 0 f above σ (omega arith) kids (omega arith) root w))
  stands_chain x a (suc n) q f above σ d low kids room root w =
      let e : suc q + suc n ≡ q + suc (suc n) = omega arith in
      subst (λ (z : ℕ). StandsFor s b o S z (chain (suc (suc n)) q a x (f ∷ above)) (store (entry_of x) 0 (descend a (suc n) (make a (suc n) σ)))) e
      (stands_chain x a n (suc q) (child (suc n) q a) (f ∷ above) (make a (suc n) σ) d refl (omega (arith, d.children)) (omega arith) root
      (stands_make a (suc n) f above σ (omega arith) kids (omega arith) root w))
