-- What is found more than once for a quark stays so, and R7 fails of it: the full question may end there. Assumes nothing.
use Prim.Native.Nat.{ℕ, ◌+◌, ◌-◌, ◌≤◌, ◌<◌}
use mathlib.Core.Path.{◌≡◌, refl, sym, ap, ◌∙◌}
use mathlib.Core.Bool.{Bool, true, false, cond, not, ◌&&◌}
use mathlib.Core.List.{List}
use native.Mathlib.Omega.{arith}
use lib.Dec.{eqb}
use lib.ListN.{length, get_or, set}
use lib.Seq.{get_or-set_same, get_or-set_other}
use borrow.Author.Tests.{eqb-true, eqb-false, eq-eqb, ne_eqb, not-true, not-false}
use Rattle.layout.specs.declared.Entry.{Entry}
use Rattle.layout.specs.Layout.{entry_size, read_entry}
use Rattle.walk.specs.declared.View.{View}
use Rattle.walk.specs.Standing.{Walk}
use Rattle.walk.specs.View.{Roomy}
use Rattle.walk.specs.Rules.{covers}
use Rattle.questions.specs.Found.{many, more, look, found, shown}
use Rattle.questions.specs.Single.{from_table}
use Rattle.full_question.specs.Full.{every_quark}
use Rattle.full_question.specs.Table.{ongoing, all_begun, note_if, note, note_all, found_from, found_all, once}
use Rattle.walk.proofs.Broken.{and_left, and_right, and_no}
use Rattle.full_question.proofs.After.{many_more, look_after, found_after}
use Rattle.full_question.proofs.Tables.{length_note, all_turn, all_at, found_all_at}
use Rattle.full_question.proofs.Fulls.{every_at, every_false, every_true, every_same, begun_slot}

-- ---- what `once` says

module _ (n : ℕ) (xs : List ℕ) where
  once_at : (q : ℕ) → once n xs ≡ true → q < n → get_or xs q 0 ≡ many → ⊥
  unfolding once
  once_at q e h = eqb-false (get_or xs q 0) many (not-true (eqb (get_or xs q 0) many) (every_at (λ k. not (eqb (get_or xs k 0) many)) n q e h))

  once_made : ((q : ℕ) → q < n → get_or xs q 0 ≡ many → ⊥) → once n xs ≡ true
  unfolding once
  once_made h =
      every_same (λ k. not (eqb (get_or xs k 0) many)) (λ k. true) n (λ q lt. ap not (ne_eqb (get_or xs q 0) many (h q lt)))
      ∙ every_true (λ k. true) n (λ q. refl)

  once_not : (q : ℕ) → q < n → get_or xs q 0 ≡ many → once n xs ≡ false
  unfolding once
  once_not q h e = every_false (λ k. not (eqb (get_or xs k 0) many)) n q h (ap not (eq-eqb (get_or xs q 0) many e))

  -- then R7 is that something was found
  pub once_shown : (q : ℕ) → once n xs ≡ true → q < n → not (eqb (get_or xs q 0) 0) ≡ shown (get_or xs q 0)
  unfolding shown
  once_shown q e h = rw (ne_eqb (get_or xs q 0) many (once_at q e h)) (go (not (eqb (get_or xs q 0) 0)))
    where
      go : (b : Bool) → b ≡ (b && true)
      go true = refl
      go false = refl

  -- and without it R7 fails
  pub once_needed : once n xs ≡ false → false ≡ every_quark (λ q. shown (get_or xs q 0)) n
  unfolding shown
  once_needed e = go (every_quark (λ q. shown (get_or xs q 0)) n) refl
    where
      go : (b : Bool) → every_quark (λ q. shown (get_or xs q 0)) n ≡ b → false ≡ b
      go false g = refl
      go true g =
          sym e
          ∙ once_made (λ q h. eqb-false (get_or xs q 0) many (not-true (eqb (get_or xs q 0) many) (and_right (not (eqb (get_or xs q 0) 0)) (not (eqb (get_or xs q 0) many)) (every_at (λ k. shown (get_or xs k 0)) n q g h))))

-- ---- what was found more than once stays so

once_lost : (n : ℕ) (xs ys : List ℕ) → ((q : ℕ) → q < n → get_or xs q 0 ≡ many → get_or ys q 0 ≡ many) → once n xs ≡ false → once n ys ≡ false
once_lost n xs ys stays e = go (once n ys) refl
  where
    go : (b : Bool) → once n ys ≡ b → b ≡ false
    go false g = refl
    go true g = sym (once_made n xs (λ q h m. once_at n ys q g h (stays q h m))) ∙ e

module _ (l : List ℕ) (t : ℕ) where
  all_lost : (a p n : ℕ) (xs : List ℕ) → a ≤ length xs → once a xs ≡ false → once a (note_all l t p n xs) ≡ false
  all_lost a p n xs long e = once_lost a xs (note_all l t p n xs) (λ q h m. all_at l q t p n xs (omega arith) ∙ ap (look l q t p n) m ∙ many_more (look l q t p n) (look_after l q t p n)) e

  pub from_lost : (v : View) (a n : ℕ) (w : Walk) (xs : List ℕ) → a ≤ length xs → once a xs ≡ false → once a (found_from l v t n w xs) ≡ false
  from_lost v a n w xs long e = once_lost a xs (found_from l v t n w xs) (λ q h m. found_all_at l v t q n w xs (omega arith) ∙ ap (found l v q t n w) m ∙ many_more (found l v q t n w) (found_after l v q t n w)) e

-- ---- an entry is noted: r tells whether it is the first for its quark

module _ (a k : ℕ) (xs : List ℕ) (known : k < a) (long : a ≤ length xs) where
  set_once : (x : ℕ) → once a xs ≡ true → (x ≡ many → ⊥) → once a (set xs k x) ≡ true
  set_once x ones one = once_made a (set xs k x) (λ q h. go q h (eqb k q) refl)
    where
      go : (q : ℕ) → q < a → (b : Bool) → eqb k q ≡ b → get_or (set xs k x) q 0 ≡ many → ⊥
      go q h true g m = one (sym (get_or-set_same xs k x 0 (omega arith)) ∙ ap (λ (j : ℕ). get_or (set xs k x) j 0) (eqb-true k q g) ∙ m)
      go q h false g m = once_at a xs q ones h (sym (get_or-set_other xs k q x 0 (λ z. eqb-false k q g (sym z))) ∙ m)

  set_many : once a (set xs k many) ≡ false
  set_many = once_not a (set xs k many) k known (get_or-set_same xs k many 0 (omega arith))

module _ (a t p : ℕ) (e : Entry) (xs : List ℕ) (ones : once a xs ≡ true) (known : e.quark.0 < a) (long : a ≤ length xs) (low : p + entry_size ≤ 4294967296) where
  once_note : once a (note t p e xs) ≡ not (covers t e && not (eqb (get_or xs e.quark.0 0) 0))
  unfolding note note_if more
  once_note = go (covers t e) (eqb (get_or xs e.quark.0 0) 0)
    where
      go : (c z : Bool) → once a (cond c (set xs e.quark.0 (cond z (p + 1) many)) xs) ≡ not (c && not z)
      go true true = set_once a e.quark.0 xs known long (p + 1) ones (λ z. omega arith)
      go true false = set_many a e.quark.0 xs known long
      go false z = ones

  module _ (c r : Bool) (is : c ≡ covers t e) (tells : r ≡ not (c && not (eqb (get_or xs e.quark.0 0) 0))) where
    once_told : once a (note t p e xs) ≡ r
    once_told = once_note ∙ ap (λ (b : Bool). not (b && not (eqb (get_or xs e.quark.0 0) 0))) (sym is) ∙ sym tells

    pub once_first : (ys : List ℕ) → not r ≡ false → ys ≡ note t p e xs → once a ys ≡ true
    once_first ys m gives = ap (once a) gives ∙ once_told ∙ not-false r m

    pub once_second : (l : List ℕ) (n i : ℕ) → e ≡ read_entry l p → i < n → not r ≡ true → once a (note_all l t p (n - i) xs) ≡ false
    once_second l n i reads lt m =
        ap (once a) (all_turn l t p n i xs e (note t p e xs) reads refl lt (p + entry_size) refl)
        ∙ all_lost l t a (p + entry_size) (n - (i + 1)) (note t p e xs) (omega (arith, length_note t p e xs)) (once_told ∙ not-true r m)

-- ---- R6 and that nothing was found twice, both told by b

module _ (s o : Bool) where
  pub both_first : s ≡ false → false ≡ (s && o)
  both_first e = sym (ap (λ (x : Bool). x && o) e)

  pub both_second : o ≡ false → false ≡ (s && o)
  both_second e = sym (and_no s o e)

  pub both_done : (b : Bool) → s ≡ b → o ≡ true → b ≡ (s && o)
  both_done true e f = rw (e, f)
  both_done false e f = rw e

module _ (b s : Bool) (a : ℕ) (ys : List ℕ) (tells : b ≡ (s && once a ys)) (m : not b ≡ false) where
  holds : (s && once a ys) ≡ true
  holds = sym tells ∙ not-false b m

  pub both_sound : b ≡ s
  both_sound = not-false b m ∙ sym (and_left s (once a ys) holds)

  pub both_once : (xs : List ℕ) → (b ≡ true → xs ≡ ys) → once a xs ≡ true
  both_once xs notes = ap (once a) (notes (not-false b m)) ∙ and_right s (once a ys) holds

pub second_found : (b s : Bool) (a : ℕ) (ys : List ℕ) → b ≡ (s && once a ys) → not b ≡ true → s ≡ true → once a ys ≡ false
second_found b s a ys tells m e = ap (λ (x : Bool). x && once a ys) (sym e) ∙ sym tells ∙ not-true b m

-- ---- before the walk nothing is found, in zs, and the ongoing states are noted in ys

pub begun_once : (v : View) (t : ℕ) (l table : List ℕ) (roomy : Roomy v l) (zs : List ℕ) (long : v.attributes ≤ length zs) (blank : (q : ℕ) → q < v.attributes → get_or zs q 0 ≡ 0)
    (ys : List ℕ) (x : Bool) (begins : x ≡ true → ys ≡ all_begun v t table zs) (y : not x ≡ false) (a : ℕ) → a ≡ v.attributes → once a ys ≡ true
begun_once v t l table roomy zs long blank ys x begins y a same =
    ap (λ (k : ℕ). once k ys) same
    ∙ ap (once v.attributes) (begins (not-false x y))
    ∙ once_made v.attributes (all_begun v t table zs) (λ q h m. none (from_table v t q table) (sym (begun_slot v t l table roomy zs long blank (found_all l v t (all_begun v t table zs)) refl q h) ∙ m))
  where
    none : (b : Bool) → cond b ongoing 0 ≡ many → ⊥
    none true e = omega arith
    none false e = omega arith
