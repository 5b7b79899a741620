-- What a change does to an ongoing state: the decision on the entry is the model's effect. Assumes nothing.
use Rattle.std.specs.Prelude.{Option, Some, None}
use Prim.Native.Nat.{ℕ, suc, ◌-◌, ◌^◌}
use mathlib.Core.Bool.{Bool, true, false, cond, ◌&&◌, true≢false}
use mathlib.Core.Path.{◌≡◌, refl, sym, ap, ◌∙◌, subst}
use native.Mathlib.Omega.{arith}
use lib.Dec.{eqb}
use lib.IntN.{ℤ, pos, negsuc, suc_ℤ}
use borrow.Author.Tests.{eq-eqb, ne_eqb}
use mir.Syntax.{w64}
use mir.Val.{SFits, of_z}
use Rattle.transient.specs.declared.Decision.{Decision}
use Rattle.transient.specs.declared.Decision.TheVariants.{Top, Same, Replaced, Ended}
use Rattle.transient.specs.Transient as T
use Rattle.transient.specs.Transient.{same_value, same_state, increased, decided, decide, ChangeFits}
use Rattle.transient.proofs.Values.{value_same, other_value}
use Rattle.transient.proofs.Decisions.{becomes_fits}
use Rattle.model.specs.State.{State, null, int, kind_of, value_of, same, sameℤ, is_top}
use Rattle.model.specs.Transient.{Change, set, remove, increment, becomes, Ongoing as OngoingM, Effect, stays, replaced, ended, effect}
use Rattle.model.specs.Refusals.{passes_top}
use Rattle.model.specs.Theorems.{Change64}
use Rattle.model.proofs.Attribute.{same_eq}
use Rattle.model.proofs.Bounded.{within_fits}
use Rattle.represents.specs.Histories.{ongoing_of}
use Rattle.represents.specs.Calls.{change_is}

-- ---- "If kind and value equal the ongoing ones"

same_itself : (a : ℤ) → sameℤ a a ≡ true
same_itself (pos n) = eq-eqb n n refl
same_itself (negsuc n) = eq-eqb n n refl

same_bits : (v w : State) → SFits w64 (value_of v) → SFits w64 (value_of w) → (eqb (kind_of v) (kind_of w) && same_value (value_of v) (value_of w)) ≡ same v w
same_bits null null f g = refl
same_bits null (int b) f g = refl
same_bits (int a) null f g = refl
same_bits (int a) (int b) f g = go (sameℤ a b) refl
  where
    go : (x : Bool) → sameℤ a b ≡ x → same_value a b ≡ x
    go true e = value_same a b (ap value_of (same_eq (int a) (int b) e))
    go false e = other_value a b f g (λ z. true≢false (sym (same_itself a) ∙ ap (sameℤ a) z ∙ e))

-- ---- what the state becomes

top_bits : (z : ℤ) → SFits w64 z → eqb (of_z w64 z) 9223372036854775807 ≡ is_top (int z)
top_bits (pos n) f = refl
top_bits (negsuc n) f = ne_eqb (2 ^ 64 - suc n) 9223372036854775807 (λ e. omega arith)

becomes_same : (c : Change) (w : State) → SFits w64 (value_of w)
    → T.becomes (change_is c) (kind_of w) (value_of w) ≡ cond (passes_top c w) None (Some (kind_of (becomes c w), value_of (becomes c w)))
unfolding T.becomes increased
becomes_same (set v) w f = refl
becomes_same remove w f = refl
becomes_same increment null f = refl
becomes_same increment (int z) f = ap (λ (b : Bool). cond b None (Some (1, suc_ℤ z))) (top_bits z f)

change_fits : (c : Change) → Change64 c → ChangeFits (change_is c)
change_fits (set v) a = record { value = λ w e. subst (SFits w64) (cc) (within_fits v a) }
change_fits remove a = record { value = λ w e. let z : ◌≡◌ {A = ℕ} 0 1 = cc in absurd (omega arith) }
change_fits increment a = record { value = λ w e. let z : ◌≡◌ {A = ℕ} 0 1 = cc in absurd (omega arith) }

-- a value that comes of an accepted change is an i64
pub becomes_within : (c : Change) (w : State) → Change64 c → SFits w64 (value_of w) → passes_top c w ≡ false → SFits w64 (value_of (becomes c w))
becomes_within c w a f e =
    (becomes_fits (change_is c) (kind_of w) (value_of w) (kind_of (becomes c w)) (value_of (becomes c w)) (change_fits c a) f
    (becomes_same c w f ∙ ap (λ (b : Bool). cond b None (Some (kind_of (becomes c w), value_of (becomes c w)))) e)).1

-- ---- the decision

-- what an effect decides, where n is the new entry
abbrev pub decision_of : Effect → OngoingM → Decision
decision_of stays n = Same
decision_of replaced n = Replaced (ongoing_of n)
decision_of ended n = Ended (ongoing_of n)

chosen : (n : OngoingM) (x y : Bool) → cond x Same (cond y (Replaced (ongoing_of n)) (Ended (ongoing_of n))) ≡ decision_of (cond x stays (cond y replaced ended)) n
chosen n true y = refl
chosen n false true = refl
chosen n false false = refl

to_decision : (v : State) (o : OngoingM) (t : ℕ) → SFits w64 (value_of v) → SFits w64 (value_of o.state)
    → decided (Some (kind_of v, value_of v)) (ongoing_of o) t ≡ decision_of (effect v o t) (record { state = v; start = t })
unfolding decided same_state
to_decision v o t f g =
    let n : OngoingM = record { state = v; start = t } in
    ap (λ (x : Bool). cond x Same (cond (eqb o.start t) (Replaced (ongoing_of n)) (Ended (ongoing_of n)))) (same_bits v o.state f g)
    ∙ chosen n (same v o.state) (eqb o.start t)

module _ (o : OngoingM) (t : ℕ) (c : Change) (a : Change64 c) (f : SFits w64 (value_of o.state)) where
  decide_by : decide (ongoing_of o) t (change_is c) ≡ decided (cond (passes_top c o.state) None (Some (kind_of (becomes c o.state), value_of (becomes c o.state)))) (ongoing_of o) t
  unfolding decide
  decide_by = ap (λ (r : Option (ℕ × ℤ)). decided r (ongoing_of o) t) (becomes_same c o.state f)

  -- an increment of 2^63-1
  pub decides_top : passes_top c o.state ≡ true → decide (ongoing_of o) t (change_is c) ≡ Top
  unfolding decided
  decides_top e = decide_by ∙ ap (λ (b : Bool). decided (cond b None (Some (kind_of (becomes c o.state), value_of (becomes c o.state)))) (ongoing_of o) t) e

  -- any other change
  pub decides : passes_top c o.state ≡ false
      → decide (ongoing_of o) t (change_is c) ≡ decision_of (effect (becomes c o.state) o t) (record { state = becomes c o.state; start = t })
  decides e =
      decide_by
      ∙ ap (λ (b : Bool). decided (cond b None (Some (kind_of (becomes c o.state), value_of (becomes c o.state)))) (ongoing_of o) t) e
      ∙ to_decision (becomes c o.state) o t (becomes_within c o.state a f e) f
