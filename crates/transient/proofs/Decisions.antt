-- What `decide` gives, case by case, and what the new state is. Assumes nothing.
use Rattle.std.specs.Prelude.{Option, Some, None}
use Rattle.std.proofs.Common.{◌≡◌, ℕ, ◌^◌, ◌<◌, ◌≤◌, Bool, true, false, cond, eqb, ℤ, pos, sym, refl, ap, ◌∙◌, subst, arith, w64, SFits, of_z, eqb-true}
use lib.IntN.{suc_ℤ}
use borrow.Author.Tests.{eqb-false}
use mir.Facts.{sfits_lit}
use Rattle.transient.specs.declared.Ongoing.{Ongoing}
use Rattle.transient.specs.declared.Change.{Change}
use Rattle.transient.specs.declared.Change.TheVariants.{Set, Remove, Increment}
use Rattle.transient.specs.declared.Decision.{Decision}
use Rattle.transient.specs.declared.Decision.TheVariants.{Top, Same, Replaced, Ended}
use Rattle.transient.specs.Transient.{state_sound, increased, becomes, same_state, decided, decide, ongoing_sound, OngoingFits, ChangeFits}
use Rattle.transient.proofs.Values.{top_value, fits_one}
use Rattle.transient.proofs.Changes.{null_one, at_top, raised, increments, to_top, to_same, to_replaced, to_ended}
use Rattle.transient.proofs.Sound.{null_sound, number_sound, is_ongoing, is_same, not_same, same_is}

no : {A : Type 0} → ◌≡◌ {A = ℕ} 0 1 → A
no e = absurd (omega arith)

-- what an increment leads to: 1 from null, one more, or nothing from 2^63-1 on
data Increase (kind : ℕ) (value : ℤ) (r : Option (ℕ × ℤ)) : Type 0 where
  first : kind ≡ 0 → r ≡ Some (1, pos 1) → Increase kind value r
  top : (kind ≡ 0 → ⊥) → of_z w64 value ≡ 9223372036854775807 → r ≡ None → Increase kind value r
  next : (kind ≡ 0 → ⊥) → (of_z w64 value ≡ 9223372036854775807 → ⊥) → r ≡ Some (1, suc_ℤ value) → Increase kind value r

increase : (kind : ℕ) (value : ℤ) → Increase kind value (increased kind value)
increase kind value = go (eqb kind 0) refl (eqb (of_z w64 value) 9223372036854775807) refl
  where
    go : (a : Bool) → eqb kind 0 ≡ a → (b : Bool) → eqb (of_z w64 value) 9223372036854775807 ≡ b → Increase kind value (increased kind value)
    go true k b v = let h = eqb-true kind 0 k in first h (sym (null_one kind value h))
    go false k true v = let h = eqb-false kind 0 k in let e = eqb-true (of_z w64 value) 9223372036854775807 v in top h e (sym (at_top kind value h e))
    go false k false v = let h = eqb-false kind 0 k in let e = eqb-false (of_z w64 value) 9223372036854775807 v in next h e (sym (raised kind value (suc_ℤ value) h e refl))

-- two states that are the same have the same kind and value
told : (k l : ℕ) (v w : ℤ) → ◌≡◌ {A = Option (ℕ × ℤ)} (Some (k, v)) (Some (l, w)) → (k ≡ l) × (v ≡ w)
told k l v w e = let p : ◌≡◌ {A = ℕ × ℤ} (k, v) (l, w) = cc in (ap (λ (x : ℕ × ℤ). x.0) p, ap (λ (x : ℕ × ℤ). x.1) p)

-- ---- what a change leads to

-- the new state is sound, whatever the old one was
pub becomes_sound : (change : Change) (kind : ℕ) (value : ℤ) (k : ℕ) (v : ℤ) → becomes change kind value ≡ Some (k, v) → state_sound k v ≡ true
unfolding becomes
becomes_sound (Set w) kind value k v e = number_sound k v (sym (told _ _ _ _ e).0)
becomes_sound Remove kind value k v e = let p = told _ _ _ _ e in null_sound k v (sym p.0) (sym p.1)
becomes_sound Increment kind value k v e = go (increase kind value)
  where
    go : Increase kind value (increased kind value) → state_sound k v ≡ true
    go (first h r) = number_sound k v (sym (told _ _ _ _ (sym r ∙ e)).0)
    go (top h t r) = no (cc)
    go (next h t r) = number_sound k v (sym (told _ _ _ _ (sym r ∙ e)).0)

-- and fits
pub becomes_fits : (change : Change) (kind : ℕ) (value : ℤ) (k : ℕ) (v : ℤ) → ChangeFits change → SFits w64 value → becomes change kind value ≡ Some (k, v) → (k < 2) × SFits w64 v
unfolding becomes
becomes_fits (Set w) kind value k v f g e = let p = told _ _ _ _ e in (omega (arith, p.0), subst (SFits w64) p.1 (f.value w refl))
becomes_fits Remove kind value k v f g e = let p = told _ _ _ _ e in (omega (arith, p.0), subst (SFits w64) p.1 (sfits_lit tt))
becomes_fits Increment kind value k v f g e = go (increase kind value)
  where
    go : Increase kind value (increased kind value) → (k < 2) × SFits w64 v
    go (first h r) = let p = told _ _ _ _ (sym r ∙ e) in (omega (arith, p.0), subst (SFits w64) p.1 (sfits_lit tt))
    go (top h t r) = no (cc)
    go (next h t r) = let p = told _ _ _ _ (sym r ∙ e) in (omega (arith, p.0), subst (SFits w64) p.1 (fits_one value g t))

-- nothing comes of a change only where it would pass 2^63-1
pub above_only : (change : Change) (kind : ℕ) (value : ℤ) → SFits w64 value → becomes change kind value ≡ None → (change ≡ Increment) × (kind ≡ 0 → ⊥) × (value ≡ pos 9223372036854775807)
unfolding becomes
above_only (Set w) kind value f e = no (cc)
above_only Remove kind value f e = no (cc)
above_only Increment kind value f e = go (increase kind value)
  where
    go : Increase kind value (increased kind value) → (Increment ≡ Increment) × (kind ≡ 0 → ⊥) × (value ≡ pos 9223372036854775807)
    go (first h r) = no (cc)
    go (top h t r) = (refl, h, top_value value f t)
    go (next h t r) = no (cc)

-- ---- the decision from what holds

module _ (o : Ongoing) (t : ℕ) (change : Change) where
  pub decides_top : change ≡ Increment → (o.kind ≡ 0 → ⊥) → o.value ≡ pos 9223372036854775807 → decide o t change ≡ Top
  decides_top c k v =
      let e : None ≡ becomes change o.kind o.value = increments change o.kind o.value None o.value refl c (at_top o.kind o.value k (ap (of_z w64) v)) in
      sym (to_top o t change None o.value refl e refl)

  module _ (kind : ℕ) (value : ℤ) (to : becomes change o.kind o.value ≡ Some (kind, value)) where
    pub decides_same : kind ≡ o.kind → value ≡ o.value → decide o t change ≡ Same
    decides_same k v = sym (to_same o t change (becomes change o.kind o.value) o.value refl refl kind value to (is_same kind value o k v))

    module _ (f : SFits w64 value) (g : SFits w64 o.value) (n : kind ≡ o.kind → value ≡ o.value → ⊥) where
      pub decides_replaced : o.start ≡ t → decide o t change ≡ Replaced (record { kind = kind; value = value; start = t })
      decides_replaced e = sym (to_replaced o t change (becomes change o.kind o.value) o.value refl refl kind value to value refl (not_same kind value o f g n) e)

      pub decides_ended : (o.start ≡ t → ⊥) → decide o t change ≡ Ended (record { kind = kind; value = value; start = t })
      decides_ended e = sym (to_ended o t change (becomes change o.kind o.value) o.value refl refl kind value to value refl (not_same kind value o f g n) e)

-- ---- what holds, from the decision

-- the four ways through `decide`
data Way (o : Ongoing) (t : ℕ) (r : Option (ℕ × ℤ)) (d : Decision) : Type 0 where
  tops : r ≡ None → d ≡ Top → Way o t r d
  stays : (kind : ℕ) (value : ℤ) → r ≡ Some (kind, value) → same_state kind value o ≡ true → d ≡ Same → Way o t r d
  moves : (kind : ℕ) (value : ℤ) → r ≡ Some (kind, value) → same_state kind value o ≡ false → o.start ≡ t → d ≡ Replaced (record { kind = kind; value = value; start = t }) → Way o t r d
  closes : (kind : ℕ) (value : ℤ) → r ≡ Some (kind, value) → same_state kind value o ≡ false → (o.start ≡ t → ⊥) → d ≡ Ended (record { kind = kind; value = value; start = t }) → Way o t r d

way : (o : Ongoing) (t : ℕ) (r : Option (ℕ × ℤ)) → Way o t r (decided r o t)
unfolding decided
way o t None = tops refl refl
way o t (Some (kind, value)) = go (same_state kind value o) refl (eqb o.start t) refl
  where
    n : Ongoing
    n = record { kind = kind; value = value; start = t }

    go : (a : Bool) → same_state kind value o ≡ a → (b : Bool) → eqb o.start t ≡ b → Way o t (Some (kind, value)) (cond (same_state kind value o) Same (cond (eqb o.start t) (Replaced n) (Ended n)))
    go true e b h = stays kind value refl e (rw e)
    go false e true h = moves kind value refl e (eqb-true o.start t h) (rw (e, h))
    go false e false h = closes kind value refl e (eqb-false o.start t h) (rw (e, h))

-- the new state n, if there is one: what the change makes of the old one, another state, from t on
pub record Follows (o : Ongoing) (t : ℕ) (change : Change) (n : Ongoing) : Type 0 where
  pub to : becomes change o.kind o.value ≡ Some (n.kind, n.value)
  pub other : same_state n.kind n.value o ≡ false
  pub start : n.start ≡ t

module _ (o : Ongoing) (t : ℕ) (change : Change) where
  ways : Way o t (becomes change o.kind o.value) (decide o t change)
  unfolding decide
  ways = way o t (becomes change o.kind o.value)

  pub top_only : SFits w64 o.value → decide o t change ≡ Top → (change ≡ Increment) × (o.kind ≡ 0 → ⊥) × (o.value ≡ pos 9223372036854775807)
  top_only f e = go ways
    where
      go : Way o t (becomes change o.kind o.value) (decide o t change) → (change ≡ Increment) × (o.kind ≡ 0 → ⊥) × (o.value ≡ pos 9223372036854775807)
      go (tops r d) = above_only change o.kind o.value f r
      go (stays k v r s d) = no (cc)
      go (moves k v r s h d) = no (cc)
      go (closes k v r s h d) = no (cc)

  pub same_only : ChangeFits change → SFits w64 o.value → decide o t change ≡ Same → becomes change o.kind o.value ≡ Some (o.kind, o.value)
  same_only f g e = go ways
    where
      go : Way o t (becomes change o.kind o.value) (decide o t change) → becomes change o.kind o.value ≡ Some (o.kind, o.value)
      go (tops r d) = no (cc)
      go (stays k v r s d) = let p = same_is k v o (becomes_fits change o.kind o.value k v f g r).1 g s in let a = p.0 in let b = p.1 in cc
      go (moves k v r s h d) = no (cc)
      go (closes k v r s h d) = no (cc)

  module _ (n : Ongoing) where
    follows : (k : ℕ) (v : ℤ) → becomes change o.kind o.value ≡ Some (k, v) → same_state k v o ≡ false → record { kind = k; value = v; start = t } ≡ n → Follows o t change n
    follows k v r s e = subst (Follows o t change) e (record { to = r; other = s; start = refl })

    pub replaced_only : decide o t change ≡ Replaced n → (o.start ≡ t) × Follows o t change n
    replaced_only e = go ways
      where
        go : Way o t (becomes change o.kind o.value) (decide o t change) → (o.start ≡ t) × Follows o t change n
        go (tops r d) = no (cc)
        go (stays k v r s d) = no (cc)
        go (moves k v r s h d) = (h, follows k v r s (cc))
        go (closes k v r s h d) = no (cc)

    pub ended_only : decide o t change ≡ Ended n → (o.start ≡ t → ⊥) × Follows o t change n
    ended_only e = go ways
      where
        go : Way o t (becomes change o.kind o.value) (decide o t change) → (o.start ≡ t → ⊥) × Follows o t change n
        go (tops r d) = no (cc)
        go (stays k v r s d) = no (cc)
        go (moves k v r s h d) = no (cc)
        go (closes k v r s h d) = (h, follows k v r s (cc))

    -- ---- the new state is sound and fits

    module _ (f : Follows o t change n) where
      pub next_state : state_sound n.kind n.value ≡ true
      next_state = becomes_sound change o.kind o.value n.kind n.value f.to

      pub next_sound : (start : ℕ) → start ≤ t → ongoing_sound n start t ≡ true
      next_sound start h = is_ongoing n start t next_state (omega (arith, f.start)) (omega (arith, f.start))

      pub next_fits : ChangeFits change → SFits w64 o.value → t < 2 ^ 64 → OngoingFits n
      next_fits c g h =
          let p = becomes_fits change o.kind o.value n.kind n.value c g f.to in
          record { kind = omega (arith, p.0); value = p.1; start = omega (arith, f.start) }
