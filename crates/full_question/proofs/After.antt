-- What is found after something was found already: that alone if nothing more is found, else many. Assumes nothing.
use Prim.Native.Nat.{ℕ, zero, suc, ◌+◌}
use mathlib.Core.Path.{◌≡◌, refl, sym, ap, ◌∙◌}
use mathlib.Core.Bool.{Bool, true, false, cond, ◌&&◌}
use mathlib.Core.List.{List}
use native.Mathlib.Omega.{arith}
use lib.Dec.{eqb}
use borrow.Author.Tests.{ne_eqb, eqb-true, eqb-false}
use Rattle.layout.specs.declared.Entry.{Entry}
use Rattle.layout.specs.Layout.{entry_size, entry_at, read_header, read_entry}
use Rattle.walk.specs.declared.View.{View}
use Rattle.walk.specs.Standing.{Walk}
use Rattle.walk.specs.Rules.{broken, kept, covers}
use Rattle.walk.specs.Walk.{place_of, step}
use Rattle.questions.specs.Found.{many, more, noted, look, look_in, look_at, found}

abbrev pub After : (ℕ → ℕ) → Type 0
After f = (s : ℕ) → (s ≡ 0 → ⊥) → f s ≡ cond (eqb (f 0) 0) s many

stays : After (λ s. s)
stays s h = refl

-- something found stays something
something : (f : ℕ → ℕ) → After f → (s : ℕ) → (s ≡ 0 → ⊥) → f s ≡ 0 → ⊥
something f a s h z = go (eqb (f 0) 0) (sym (a s h) ∙ z)
  where
    go : (b : Bool) → cond b s many ≡ 0 → ⊥
    go true e = h e
    go false e = omega arith

pub many_more : (f : ℕ → ℕ) → After f → f many ≡ many
many_more f a = a many (λ z. omega arith) ∙ go (eqb (f 0) 0)
  where
    go : (b : Bool) → cond b many many ≡ many
    go true = refl
    go false = refl

-- one after the other
then : (f g : ℕ → ℕ) → After f → After g → After (λ s. g (f s))
then f g a b s h = go (eqb (f 0) 0) refl
  where
    go : (x : Bool) → eqb (f 0) 0 ≡ x → g (f s) ≡ cond (eqb (g (f 0)) 0) s many
    go true e =
        let z : f s ≡ s = a s h ∙ ap (λ (y : Bool). cond y s many) e in
        let o : f 0 ≡ 0 = eqb-true (f 0) 0 e in
        ap g z ∙ b s h ∙ ap (λ (k : ℕ). cond (eqb (g k) 0) s many) (sym o)
    go false e =
        let z : f s ≡ many = a s h ∙ ap (λ (y : Bool). cond y s many) e in
        let o : g (f 0) ≡ 0 → ⊥ = something g b (f 0) (eqb-false (f 0) 0 e) in
        ap g z ∙ many_more g b ∙ sym (ap (λ (y : Bool). cond y s many) (ne_eqb (g (f 0)) 0 o))

noted_after : (q t p : ℕ) (e : Entry) → After (noted q t p e)
unfolding noted more
noted_after q t p e s h = go (eqb e.quark.0 q && covers t e)
  where
    go : (b : Bool) → cond b (cond (eqb s 0) (p + 1) many) s ≡ cond (eqb (cond b (p + 1) 0) 0) s many
    go true = ap (λ (y : Bool). cond y (p + 1) many) (ne_eqb s 0 h) ∙ sym (ap (λ (y : Bool). cond y s many) (ne_eqb (p + 1) 0 (λ z. omega arith)))
    go false = refl

pub look_after : (l : List ℕ) (q t p n : ℕ) → After (look l q t p n)
unfolding look
look_after l q t p zero = stays
look_after l q t p (suc n) = then (noted q t p (read_entry l p)) (look l q t (p + entry_size) n) (noted_after q t p (read_entry l p)) (look_after l q t (p + entry_size) n)

look_at_after : (l : List ℕ) (v : View) (q t level : ℕ) (w : Walk) → After (look_at l v q t level w)
unfolding look_at look_in
look_at_after l v q t level w s h = go (kept (broken v w level (read_header l (place_of v w.place))))
  where
    at : ℕ
    at = place_of v w.place + entry_at v.shape 0

    n : ℕ
    n = (read_header l (place_of v w.place)).intervals

    go : (b : Bool) → cond b (look l q t at n s) s ≡ cond (eqb (cond b (look l q t at n 0) 0) 0) s many
    go true = look_after l q t at n s h
    go false = refl

pub found_after : (l : List ℕ) (v : View) (q t n : ℕ) (w : Walk) → After (found l v q t n w)
unfolding found
found_after l v q t zero w s h = refl
found_after l v q t (suc n) w s h =
    go w.go (then (look_at l v q t n w) (found l v q t n (step l v t n w)) (look_at_after l v q t n w) (found_after l v q t n (step l v t n w)) s h)
  where
    go : (b : Bool) → found l v q t n (step l v t n w) (look_at l v q t n w s) ≡ cond (eqb (found l v q t n (step l v t n w) (look_at l v q t n w 0)) 0) s many
        → cond b (found l v q t n (step l v t n w) (look_at l v q t n w s)) s ≡ cond (eqb (cond b (found l v q t n (step l v t n w) (look_at l v q t n w 0)) 0) 0) s many
    go true e = e
    go false e = refl
