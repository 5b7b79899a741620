-- The elements that pass a test, and lists with the same elements in another order.
use mathlib.Core.Bool.{Bool, true, false, cond}
use mathlib.Core.Path.{◌≡◌, refl, ap, ◌∙◌, subst}
use mathlib.Core.Logic.{◌⊎◌, inl, inr}
use mathlib.Core.List.Memᴰ
use mathlib.Core.List.Permᴰ
use mathlib.Core.List.{List, [], ◌∷◌, ◌++◌, Memᴰ, Permᴰ, head-eq_of_cons-eq, tail-eq_of_cons-eq}
use Prim.Native.Nat.{suc}
use lib.ListN.{length}
use Rattle.model.specs.Questions.{only}

module _ {A : Type 0} where
  pub only_append : (p : A → Bool) (xs ys : List A) → only p (xs ++ ys) ≡ only p xs ++ only p ys
  only_append p [] ys = refl
  only_append p (x ∷ xs) ys = rw (only_append p xs ys) (go (p x) (only p xs) (only p ys))
    where
      go : (b : Bool) (u v : List A) → cond b (x ∷ u ++ v) (u ++ v) ≡ cond b (x ∷ u) u ++ v
      go true u v = refl
      go false u v = refl

  -- the elements that pass, of a list in another order
  pub perm_only : (p : A → Bool) {xs ys : List A} → Permᴰ xs ys → Permᴰ (only p xs) (only p ys)
  perm_only p Permᴰ.nil = Permᴰ.nil
  perm_only p (Permᴰ.cons {a = a} {b = b} {l₁ = xs} {l₂ = ys} e d) =
      subst (λ z. Permᴰ (only p (a ∷ xs)) (only p (z ∷ ys))) e (go (p a) (perm_only p d))
    where
      go : (u : Bool) → Permᴰ (only p xs) (only p ys) → Permᴰ (cond u (a ∷ only p xs) (only p xs)) (cond u (a ∷ only p ys) (only p ys))
      go true r = Permᴰ.cons refl r
      go false r = r
  perm_only p (Permᴰ.swap {a = a} {b = b} {a' = a'} {l = xs} e₁ e₂) =
      subst (λ z. Permᴰ (only p (a ∷ b ∷ xs)) (only p (a' ∷ z ∷ xs))) e₁
      (subst (λ z. Permᴰ (only p (a ∷ b ∷ xs)) (only p (z ∷ a ∷ xs))) e₂ (go (p a) (p b)))
    where
      r : List A
      r = only p xs

      go : (u v : Bool)
          → Permᴰ (cond u (a ∷ cond v (b ∷ r) r) (cond v (b ∷ r) r)) (cond v (b ∷ cond u (a ∷ r) r) (cond u (a ∷ r) r))
      go true true = Permᴰ.swap refl refl
      go true false = Permᴰ.refl _
      go false true = Permᴰ.refl _
      go false false = Permᴰ.refl _
  perm_only p (Permᴰ.trans d₁ d₂) = Permᴰ.trans (perm_only p d₁) (perm_only p d₂)

  -- no element, and one: there is no other order
  pub perm_none : {xs ys : List A} → Permᴰ xs ys → ys ≡ [] → xs ≡ []
  perm_none Permᴰ.nil e = refl
  perm_none (Permᴰ.cons c d) e = cc
  perm_none (Permᴰ.swap c d) e = cc
  perm_none (Permᴰ.trans c d) e = perm_none c (perm_none d e)

  pub perm_one : {xs ys : List A} {x : A} → Permᴰ xs ys → ys ≡ x ∷ [] → xs ≡ x ∷ []
  perm_one Permᴰ.nil e = cc
  perm_one (Permᴰ.cons c d) e = rw (c, head-eq_of_cons-eq e, perm_none d (tail-eq_of_cons-eq e))
  perm_one (Permᴰ.swap c d) e = let f = tail-eq_of_cons-eq e in cc f
  perm_one (Permᴰ.trans c d) e = perm_one c (perm_one d e)

  pub perm_mem : {m : A} {xs ys : List A} → Permᴰ xs ys → Memᴰ m xs → Memᴰ m ys
  perm_mem Permᴰ.nil i = i
  perm_mem {m = m} (Permᴰ.cons {a = a} {b = b} {l₁ = xs} {l₂ = ys} e d) i = go (Memᴰ.cases_cons i) (perm_mem d)
    where
      go : (m ≡ a) ⊎ Memᴰ m xs → (Memᴰ m xs → Memᴰ m ys) → Memᴰ m (b ∷ ys)
      go (inl x) r = Memᴰ.head (x ∙ e)
      go (inr x) r = Memᴰ.tail (r x)
  perm_mem {m = m} (Permᴰ.swap {a = a} {b = b} {a' = a'} {b' = b'} {l = xs} e₁ e₂) i = go (Memᴰ.cases_cons i)
    where
      on : (m ≡ b) ⊎ Memᴰ m xs → Memᴰ m (a' ∷ b' ∷ xs)
      on (inl x) = Memᴰ.head (x ∙ e₂)
      on (inr x) = Memᴰ.tail (Memᴰ.tail x)

      go : (m ≡ a) ⊎ Memᴰ m (b ∷ xs) → Memᴰ m (a' ∷ b' ∷ xs)
      go (inl x) = Memᴰ.tail (Memᴰ.head (x ∙ e₁))
      go (inr x) = on (Memᴰ.cases_cons x)
  perm_mem (Permᴰ.trans c d) i = perm_mem d (perm_mem c i)

  pub perm_length : {xs ys : List A} → Permᴰ xs ys → length xs ≡ length ys
  perm_length Permᴰ.nil = refl
  perm_length (Permᴰ.cons c d) = ap suc (perm_length d)
  perm_length (Permᴰ.swap c d) = refl
  perm_length (Permᴰ.trans c d) = perm_length c ∙ perm_length d
