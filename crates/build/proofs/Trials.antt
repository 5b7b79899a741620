-- What a trial comes to, and what it keeps. Assumes nothing.
use Prim.Native.Nat.{ℕ, ◌≤◌}
use mathlib.Core.Path.{◌≡◌, refl, sym, ◌∙◌}
use mathlib.Core.Bool.{Bool, true, false, cond}
use Rattle.std.specs.Prelude.{Ok, Err}
use Rattle.record.specs.declared.History.{History}
use Rattle.record.specs.Refusals.{Reply, Nothing, accepted}
use Rattle.record.specs.Sound.{last_time}
use Rattle.record.specs.Firm.{Firm, Long}
use Rattle.settle.specs.declared.Plan.{Plan}
use Rattle.settle.specs.Settle.{settle, plan_refusal}
use Rattle.build.specs.Feasible.{Feasible}
use Rattle.build.specs.Trial.{Tried, planned, tried}
use Rattle.build.specs.Carried.{Alike}
use Rattle.build.proofs.Carried.{planned_firm, planned_alike, planned_long}
use Rattle.build.proofs.Plans.{feasible, then_nothing}

-- a plan that is not refused can be carried out
pub plan_can : (h : History) (s : ℕ) (p : Plan) (r : Reply) → p ≡ settle h s → r ≡ plan_refusal h p → Firm h → r ≡ Nothing → Feasible h p
plan_can h s p r settled is f x = let y : plan_refusal h (settle h s) ≡ Nothing = rw settled at (sym is ∙ x) in rw settled (feasible h s f y)

-- a plan that is refused leaves the record as it came
pub refused : (r : Reply) → (r ≡ Nothing → ⊥) → accepted r ≡ false
refused (Ok u) never = absurd (never refl)
refused (Err n) never = refl

pub tried_refused : (h : History) (s e : ℕ) (p : Plan) (r : Reply) → p ≡ settle h s → r ≡ plan_refusal h p → (r ≡ Nothing → ⊥) → (r ≡ (tried h s e).refusal) × (h ≡ (tried h s e).history)
unfolding tried
tried_refused h s e p r settled is k = (simp (← settled, ← is, refused r k), simp (← settled, ← is, refused r k))

-- ═══ What a trial keeps ═══

module _ (h : History) (s e : ℕ) where
  -- what holds of both ways holds of a trial
  pub tried_either : (P : Tried → Type 0) → (plan_refusal h (settle h s) ≡ Nothing → P (record { refusal = Nothing; history = planned (settle h s) e h }))
      → (accepted (plan_refusal h (settle h s)) ≡ false → P (record { refusal = plan_refusal h (settle h s); history = h })) → P (tried h s e)
  unfolding tried
  tried_either P a b = go (accepted (plan_refusal h (settle h s))) refl
    where
      go : (t : Bool) → accepted (plan_refusal h (settle h s)) ≡ t
          → P (cond t (record { refusal = Nothing; history = planned (settle h s) e h }) (record { refusal = plan_refusal h (settle h s); history = h }))
      go true x = a (then_nothing h (settle h s) x)
      go false x = b x

  pub tried_refusal : (tried h s e).refusal ≡ plan_refusal h (settle h s)
  tried_refusal = tried_either (λ t. t.refusal ≡ plan_refusal h (settle h s)) (λ x. sym x) (λ x. refl)

  pub tried_firm : Firm h → e ≤ last_time → Firm (tried h s e).history
  tried_firm f le = tried_either (λ t. Firm t.history) (λ x. planned_firm (settle h s) h e f (feasible h s f x) le) (λ x. f)

  pub tried_alike : Alike h (tried h s e).history
  tried_alike =
      tried_either (λ t. Alike h t.history) (λ x. planned_alike (settle h s) h e)
      (λ x. record { shape = refl; start = refl; latest = refl; attributes = refl; finished = refl })

  pub tried_long : Long h.branch → Long (tried h s e).history.branch
  tried_long g = tried_either (λ t. Long t.history.branch) (λ x. planned_long (settle h s) h e g) (λ x. g)
