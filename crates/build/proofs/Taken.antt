-- An interval that rule 2 has stored in an open node as it is: the plan is no more than that, and is never refused. Assumes nothing.
use Prim.Native.Nat.{ℕ, zero, suc, ◌-◌, ◌≤◌, ◌<◌, zero-le}
use mathlib.Core.Path.{◌≡◌, refl, sym}
use mathlib.Core.Bool.{Bool, true, false, cond, not, ◌&&◌, true≢false}
use native.Mathlib.Nat.{le_trans}
use lib.Dec.{ltb}
use borrow.Author.Tests.{ltb-true, le-ltb}
use Rattle.record.specs.declared.History.{History}
use Rattle.record.specs.Refusals.{Nothing}
use Rattle.record.specs.Levels.{intervals_at, last_end_at}
use Rattle.settle.specs.declared.Verdict.TheVariants.{Here}
use Rattle.settle.specs.Settle.{fits, room, ruled, plan, followed, ask_up, lowest, taken, settle, needed, plan_refusal}

-- both halves of the test
due_not : (due fit : Bool) → cond due false fit ≡ true → (due ≡ false) × (fit ≡ true)
due_not true fit e = absurd (true≢false (sym e))
due_not false fit e = (refl, e)

asked_here : (n : ℕ) (h : History) (s l : ℕ) (child : Bool) (last m : ℕ) → ruled h.branch h.shape s l child last ≡ Here → ask_up n h s l child last m ≡ plan m l false
unfolding ask_up followed
asked_here zero h s l child last m e = simp e
asked_here (suc n) h s l child last m e = simp e

module _ (h : History) (s l : ℕ) (yes : taken h s l ≡ true) where
  halves : (not (ltb h.low l) && ltb 0 l && ltb (last_end_at h.branch l) s ≡ false) × (fits h.branch h.shape l ≡ true)
  unfolding taken
  halves = due_not _ _ yes

  rules_here : ruled h.branch h.shape s l (ltb h.low l) (last_end_at h.branch l) ≡ Here
  unfolding ruled
  rules_here = simp (halves.0, halves.1)

  pub taken_room : intervals_at h.branch l < h.shape.k
  taken_room = ltb-true _ _ halves.1

  pub taken_plan : l ≡ lowest (h.top - h.low) h.branch s h.low → settle h s ≡ plan 0 l false
  unfolding settle
  taken_plan is = simp (← is, asked_here (h.top - l) h s l (ltb h.low l) (last_end_at h.branch l) 0 rules_here)

pub taken_accepted : (h : History) (l : ℕ) → l ≤ h.top → h.top ≤ 15 → plan_refusal h (plan 0 l false) ≡ Nothing
unfolding plan_refusal needed
taken_accepted h l le top = simp (le-ltb 15 l (le_trans le top), le-ltb h.top l le, le-ltb (room h) 0 zero-le)
