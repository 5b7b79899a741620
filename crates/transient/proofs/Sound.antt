-- What a sound state is, in words. Assumes nothing.
use Rattle.std.proofs.Common.{◌≡◌, ℕ, zero, suc, ◌+◌, ◌-◌, ◌%◌, ◌^◌, ◌<◌, ◌≤◌, Bool, true, false, ◌&&◌, ◌||◌, T, eqb, leb, ◌⊎◌, ℤ, pos, sym, refl, ap, ◌∙◌, subst, inl, inr, mod-eq_of_lt, arith, lit<, w64, SFits, of_z, eq-eqb, ne_eqb, eqb-true, le-leb, leb-true}
use lib.Bits.{bit_and, and_zero_r, and_mask}
use mir.Facts.{sfits_lit}
use Rattle.transient.specs.declared.Ongoing.{Ongoing}
use Rattle.transient.specs.Transient.{same_value, state_sound, ongoing_sound, same_state, begins, OngoingFits}
use Rattle.transient.proofs.Values.{same_value_lem, value_same}

pub both : (x y : Bool) → x && y ≡ true → (x ≡ true) × (y ≡ true)
both true y e = (refl, e)
both false y e = absurd (subst T (sym e) tt)

one_of : (x y : Bool) → x || y ≡ true → (x ≡ true) ⊎ (y ≡ true)
one_of true y e = inl refl
one_of false y e = inr e

-- ---- a state: null with value 0, or a number

module _ (kind : ℕ) (value : ℤ) where
  pub state_is : SFits w64 value → state_sound kind value ≡ true → ((kind ≡ 0) × (value ≡ pos 0)) ⊎ (kind ≡ 1)
  unfolding state_sound
  state_is f e = go (one_of (eqb kind 0 && same_value value (pos 0)) (eqb kind 1) e)
    where
      go : ((eqb kind 0 && same_value value (pos 0)) ≡ true) ⊎ (eqb kind 1 ≡ true) → ((kind ≡ 0) × (value ≡ pos 0)) ⊎ (kind ≡ 1)
      go (inl h) = let p = both (eqb kind 0) (same_value value (pos 0)) h in inl (eqb-true kind 0 p.0, same_value_lem value (pos 0) f (sfits_lit tt) p.1)
      go (inr h) = inr (eqb-true kind 1 h)

  pub null_sound : kind ≡ 0 → value ≡ pos 0 → state_sound kind value ≡ true
  unfolding state_sound
  null_sound k v = simp (eq-eqb _ _ k, value_same _ _ v)

  pub number_sound : kind ≡ 1 → state_sound kind value ≡ true
  unfolding state_sound
  number_sound k = simp k

-- its value's bits under the mask that its kind makes: all of a null's, none of a number's
pub state_masked : (kind b m : ℕ) (v : ℤ) → b ≡ of_z w64 v → b < 2 ^ 64 → m < 2 ^ 64 → (m + 1) % 2 ^ 64 ≡ kind → kind ≤ 1 → eqb (bit_and b m) 0 ≡ state_sound kind v
unfolding state_sound
state_masked zero b m v is fits small wraps known =
    let ones : m ≡ 2 ^ 64 - 1 = omega arith in
    let whole : bit_and b m ≡ b = ap (bit_and b) ones ∙ and_mask b 64 ∙ mod-eq_of_lt fits in
    rw (whole, ← is) (go (eqb b 0))
  where
    go : (x : Bool) → x ≡ (x || false)
    go true = refl
    go false = refl
state_masked (suc zero) b m v is fits small wraps known =
    let none : m ≡ 0 = omega arith in
    ap (λ (x : ℕ). eqb (bit_and b x) 0) none ∙ rw and_zero_r
state_masked (suc (suc kind)) b m v is fits small wraps known = absurd (omega (arith, known))

pub kind_bad : (kind : ℕ) (v : ℤ) → 1 < kind → state_sound kind v ≡ false
unfolding state_sound
kind_bad kind v h = rw (ne_eqb kind 0 (λ z. omega (arith, z)), ne_eqb kind 1 (λ z. omega (arith, z)))

-- ---- an entry of the table

module _ (o : Ongoing) (start latest : ℕ) where
  pub ongoing_is : ongoing_sound o start latest ≡ true → (state_sound o.kind o.value ≡ true) × (start ≤ o.start) × (o.start ≤ latest)
  unfolding ongoing_sound
  ongoing_is e =
      let p = both (state_sound o.kind o.value && leb start o.start) (leb o.start latest) e in
      let q = both (state_sound o.kind o.value) (leb start o.start) p.0 in
      (q.0, leb-true start o.start q.1, leb-true o.start latest p.1)

  pub is_ongoing : state_sound o.kind o.value ≡ true → start ≤ o.start → o.start ≤ latest → ongoing_sound o start latest ≡ true
  unfolding ongoing_sound
  is_ongoing s a b = simp (s, le-leb _ _ a, le-leb _ _ b)

  -- it stays sound as the latest time goes on
  pub ongoing_later : (t : ℕ) → latest ≤ t → ongoing_sound o start latest ≡ true → ongoing_sound o start t ≡ true
  unfolding ongoing_sound
  ongoing_later t h e = let p = ongoing_is e in simp (p.0, le-leb _ _ p.1, le-leb o.start t (omega (arith, p.2)))

-- ---- the state that an attribute begins with

pub begins_sound : (start latest : ℕ) → start ≤ latest → ongoing_sound (begins start) start latest ≡ true
unfolding begins
begins_sound start latest h = is_ongoing (begins start) start latest (null_sound 0 (pos 0) refl refl) (omega arith) h

pub begins_fits : (start : ℕ) → start < 2 ^ 64 → OngoingFits (begins start)
unfolding begins
begins_fits start h = record { kind = lit< tt; value = sfits_lit tt; start = h }

-- ---- the same state: "kind and value equal the ongoing ones"

module _ (kind : ℕ) (value : ℤ) (o : Ongoing) where
  pub same_is : SFits w64 value → SFits w64 o.value → same_state kind value o ≡ true → (kind ≡ o.kind) × (value ≡ o.value)
  unfolding same_state
  same_is f g e = let p = both (eqb kind o.kind) (same_value value o.value) e in (eqb-true kind o.kind p.0, same_value_lem value o.value f g p.1)

  pub is_same : kind ≡ o.kind → value ≡ o.value → same_state kind value o ≡ true
  unfolding same_state
  is_same k v = simp (eq-eqb _ _ k, value_same _ _ v)

  pub not_same : SFits w64 value → SFits w64 o.value → (kind ≡ o.kind → value ≡ o.value → ⊥) → same_state kind value o ≡ false
  not_same f g n = go (same_state kind value o) refl
    where
      go : (b : Bool) → same_state kind value o ≡ b → same_state kind value o ≡ false
      go true e = let p = same_is f g e in absurd (n p.0 p.1)
      go false e = e

  pub differs : same_state kind value o ≡ false → kind ≡ o.kind → value ≡ o.value → ⊥
  differs e k v = subst T (sym (is_same k v) ∙ e) tt
