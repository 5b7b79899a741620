-- What a change makes of a state, and what is decided then, way by way. Assumes nothing.
use Rattle.std.specs.Prelude.{Option, Some, None}
use Rattle.std.proofs.Common.{◌≡◌, ℕ, true, false, ℤ, pos, w64, of_z, eq-eqb, ne_eqb}
use lib.IntN.{suc_ℤ}
use Rattle.transient.specs.declared.Ongoing.{Ongoing}
use Rattle.transient.specs.declared.Change.{Change}
use Rattle.transient.specs.declared.Change.TheVariants.{Increment}
use Rattle.transient.specs.declared.Decision.TheVariants.{Top, Same, Replaced, Ended}
use Rattle.transient.specs.Transient.{increased, becomes, same_state, decided, decide}

-- ---- the three ways of an increment

module _ (kind : ℕ) (value : ℤ) where
  pub null_one : kind ≡ 0 → Some (1, pos 1) ≡ increased kind value
  unfolding increased
  null_one k = simp (eq-eqb _ _ k)

  pub at_top : (kind ≡ 0 → ⊥) → of_z w64 value ≡ 9223372036854775807 → None ≡ increased kind value
  unfolding increased
  at_top k v = simp (ne_eqb _ _ k, eq-eqb _ _ v)

  pub raised : (w : ℤ) → (kind ≡ 0 → ⊥) → (of_z w64 value ≡ 9223372036854775807 → ⊥) → w ≡ suc_ℤ value → Some (1, w) ≡ increased kind value
  unfolding increased
  raised w k v e = simp (ne_eqb _ _ k, ne_eqb _ _ v, e)

-- ---- the three changes

module _ (change : Change) (kind : ℕ) (value : ℤ) where
  pub increments : (r : Option (ℕ × ℤ)) (z : ℤ) → z ≡ value → change ≡ Increment → r ≡ increased kind z → r ≡ becomes change kind value
  unfolding becomes
  increments r z b c e = simp (c, e, b)

-- ---- the four decisions; z is the ongoing value read back from its bits, as code has it

module _ (o : Ongoing) (t : ℕ) (change : Change) (r : Option (ℕ × ℤ)) (z : ℤ) (back : z ≡ o.value) (is : r ≡ becomes change o.kind z) where
  pub to_top : r ≡ None → Top ≡ decide o t change
  unfolding decide decided
  to_top e = simp (← back, ← is, e)

  module _ (kind : ℕ) (value : ℤ) (to : r ≡ Some (kind, value)) where
    pub to_same : same_state kind value o ≡ true → Same ≡ decide o t change
    unfolding decide decided
    to_same s = simp (← back, ← is, to, s)

    module _ (w : ℤ) (again : w ≡ value) (s : same_state kind value o ≡ false) where
      pub to_replaced : o.start ≡ t → Replaced (record { kind = kind; value = w; start = t }) ≡ decide o t change
      unfolding decide decided
      to_replaced e = simp (← back, ← is, to, s, eq-eqb _ _ e, again)

      pub to_ended : (o.start ≡ t → ⊥) → Ended (record { kind = kind; value = w; start = t }) ≡ decide o t change
      unfolding decide decided
      to_ended e = simp (← back, ← is, to, s, ne_eqb _ _ e, again)
