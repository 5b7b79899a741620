-- The full question's head: each way through its refusals before the walk. Assumes nothing.
use Prim.Native.Nat.{ℕ, ◌/◌, ◌≤◌, ◌<◌}
use mathlib.Core.Path.{◌≡◌, refl, sym, ap, subst, ◌∙◌}
use mathlib.Core.Bool.{Bool, true, false, not, ◌||◌}
use mathlib.Core.List.{List, [], ◌∷◌}
use native.Mathlib.Omega.{arith}
use lib.Dec.{T}
use lib.ListN.{length}
use borrow.Author.Tests.{lt-ltb, le-ltb, not-true, not-false}
use Rattle.std.specs.Prelude.{Result, Err}
use Rattle.std.specs.Result.{IsErrAnd}
use Rattle.layout.specs.Layout.{entry_size}
use Rattle.record.specs.declared.History.{History}
use Rattle.record.specs.declared.Refusal.{Refusal}
use Rattle.record.specs.Refusals.{Reply, Nothing, Short, Damaged, Outside, accepted, first_of, first_else}
use Rattle.record.specs.Sound.{sound, long_enough, admitted}
use Rattle.record.proofs.Facts.{admitted_both}
use Rattle.record.proofs.Said.{errs}
use Rattle.walk.specs.declared.View.{View}
use Rattle.walk.specs.View.{view_of, asked}
use Rattle.full_question.specs.Full.{Full, refused_full, said_all, walked_refusal, walked_full, walked_written, full_refusal, full_of, full_written}

abbrev Answered : History → ℕ → List ℕ → List ℕ → List ℕ → Full → List ℕ → Type 0
Answered h t l table b r c = (r ≡ full_of h t l table (length b)) × (c ≡ full_written h t l table b)

module _ (h : History) (t : ℕ) (l table b : List ℕ) (r : Full) where
  refused : (x : Reply) → accepted x ≡ false → full_refusal h t l table (length b) ≡ x → r ≡ refused_full x → Answered h t l table b r b
  unfolding full_of full_written refused_full
  refused x n d e = (rw (d, n) e, rw (d, n))

  module _ (is : admitted h (length l) (length table) ≡ Nothing) (v : View) (views : v ≡ view_of h) where
    few : h.attributes ≡ v.attributes
    unfolding view_of
    few = sym (ap (λ (x : View). x.attributes) views)

    sound_long : (sound h ≡ true) × (long_enough h (length l) (length table) ≡ true)
    sound_long = admitted_both h (length l) (length table) is

    pub full_2 : length b / entry_size < v.attributes → r ≡ refused_full Short → Answered h t l table b r b
    unfolding full_refusal
    full_2 m e = refused Short refl (rw (sound_long.0, sound_long.1, lt-ltb (length b / entry_size) h.attributes (omega (arith, few)))) e

    module _ (m : v.attributes ≤ length b / entry_size) (a : Bool) (asks : a ≡ asked v t) where
      is_asked : asked (view_of h) t ≡ a
      is_asked = ap (λ (x : View). asked x t) (sym views) ∙ sym asks

      pub full_6 : not a ≡ true → r ≡ refused_full Outside → Answered h t l table b r b
      unfolding full_refusal
      full_6 x e = refused Outside refl (rw (sound_long.0, sound_long.1, le-ltb (length b / entry_size) h.attributes (omega (arith, few)), is_asked, not-true a x)) e

      same_refusal : not a ≡ false → full_refusal h t l table (length b) ≡ walked_refusal (view_of h) t l table
      unfolding full_refusal walked_refusal
      same_refusal x = rw (sound_long.0, sound_long.1, le-ltb (length b / entry_size) h.attributes (omega (arith, few)), is_asked, not-false a x)

      pub full_view : (c : List ℕ) → not a ≡ false → r ≡ walked_full v t l table → c ≡ walked_written v t l table 0 b → Answered h t l table b r c
      unfolding full_of full_written walked_full walked_written view_of
      full_view c x e g =
          let f : r ≡ walked_full (view_of h) t l table = e ∙ ap (λ (y : View). walked_full y t l table) views in
          let w : c ≡ walked_written (view_of h) t l table 0 b = g ∙ ap (λ (y : View). walked_written y t l table 0 b) views in
          let d = same_refusal x in
          (rw d f, rw d w)

-- what the head of every call refuses, a question refuses
pub full_head : (h : History) (t : ℕ) (l table b : List ℕ) (x : Result ℕ Refusal) (e : Refusal) → admitted h (length l) (length table) ≡ Err e → IsErrAnd x (λ y. y ≡ e) → Answered h t l table b (said_all x) b
unfolding said_all full_refusal admitted
full_head h t l table b x e is gives = refused h t l table b (said_all x) (Err e) refl (go (sound h) (long_enough h (length l) (length table)) _ _ is) (ap said_all (errs x e gives))
  where
    go : (m n o : Bool) (rest : Reply) → first_of ((not m, Damaged) ∷ (not n, Short) ∷ []) ≡ Err e → first_else ((not m, Damaged) ∷ (not n || o, Short) ∷ []) rest ≡ Err e
    go true true o rest z = absurd (subst T (ap accepted z) tt)
    go true false o rest z = z
    go false n o rest z = z
