-- "A refused call returns its number, hands the history's record back unaltered and writes to no buffer." Assumes nothing.
use Prim.Native.Nat.{ℕ}
use mathlib.Core.Bool.{Bool, true, false, cond, false≢true}
use mathlib.Core.Path.{◌≡◌, refl, sym, ap, ◌∙◌}
use lib.ListN.{length}
use Rattle.record.specs.Refusals.{Reply, accepted}
use Rattle.record.specs.Refusals as R
use Rattle.transient.specs.declared.Change.{Change}
use Rattle.transient.specs.declared.Change.TheVariants.{Set, Remove, Increment}
use Rattle.calls.specs.Outcome.{Outcome, outcome, answered}
use Rattle.calls.specs.Open.{open_of}
use Rattle.calls.specs.Change.{change_refusal, change_of}
use Rattle.calls.specs.Add.{add_refusal, add_of}
use Rattle.calls.specs.Finish.{finish_refusal, finish_of}
use Rattle.calls.proofs.Kept.{change_says, change_kept, add_says, add_kept, finish_says, finish_kept}
use Rattle.walk.specs.View.{view_of}
use Rattle.questions.specs.Single.{refused_single, single_answer, single_refusal, single_of}
use Rattle.full_question.specs.Full.{full_of, full_written}
use Rattle.page.specs.Page as P
use Rattle.demands.specs.Runs.{opening, set, remove, increment, add, finish, single, full, State, Answer, says, quark, if_begun, follows, changed, told, answered as asks, step}
use Rattle.demands.specs.Demands.{RefusedKeeps, RefusedUnwritten}
use Rattle.demands.proofs.Exactly.{single_fine}

-- nothing is done, and nothing said but the number
abbrev Kept : State → State × Answer → Type 0
Kept σ x = accepted x.1.refusal ≡ false → (x.0 ≡ σ) × (x.1 ≡ says x.1.refusal)

-- the state with the history open
abbrev with : State → Bool → State
with σ b = record { begun = b; history = σ.history; nodes = σ.nodes; table = σ.table; answer = σ.answer }

module _ (σ : State) where
  begun_kept : (done : State × Answer) → (σ.begun ≡ true → Kept σ done) → Kept σ (if_begun σ done)
  begun_kept done next = go σ.begun next
    where
      go : (b : Bool) → (b ≡ true → Kept σ done) → Kept σ (cond b done (σ, says R.NotOpen))
      go true next e = next refl e
      go false next e = (refl, refl)

  -- a change, an adding or a finish
  call_kept : (o : Outcome) (r : Reply) → o.answer.refusal ≡ r → (accepted r ≡ false → o ≡ outcome (answered r σ.history) σ.nodes σ.table) → σ.begun ≡ true
      → Kept σ (follows σ o)
  call_kept o r said kept b e = (ap (λ (x : Outcome). (follows σ x).0) (kept (ap accepted (sym said) ∙ e)) ∙ ap (with σ) (sym b), refl)

  changes_kept : (t q : ℕ) (what : Change) → Kept σ (if_begun σ (changed σ t q what))
  changes_kept t q what =
      let h = σ.history in
      begun_kept (changed σ t q what)
      (call_kept (change_of h t (quark q) what σ.nodes σ.table) (change_refusal h t (quark q) what σ.nodes σ.table) (change_says h t (quark q) what σ.nodes σ.table)
      (change_kept h t (quark q) what σ.nodes σ.table))

  anew_kept : (o : Outcome) (b : Bool) → accepted o.answer.refusal ≡ b → Kept σ (cond b (follows σ o) (σ, says o.answer.refusal))
  anew_kept o true a e = absurd (false≢true (sym e ∙ a))
  anew_kept o false a e = (refl, refl)

  told_kept : (t q : ℕ) → Kept σ (told σ t q)
  unfolding single_of refused_single
  told_kept t q = go (single_refusal σ.history t q σ.nodes σ.table) (accepted (single_refusal σ.history t q σ.nodes σ.table))
    where
      go : (r : Reply) (b : Bool) → let a = cond b (single_answer (view_of σ.history) t q σ.nodes σ.table) (refused_single r) in
          Kept σ (σ, record { refusal = a.refusal; nodes = a.nodes; entry = a.entry })
      go r true e = absurd (false≢true (sym e ∙ ap accepted (single_fine σ.history t q σ.nodes σ.table)))
      go r false e = (refl, refl)

  asks_kept : (t : ℕ) → σ.begun ≡ true → Kept σ (asks σ t)
  unfolding full_of full_written
  asks_kept t b e = rw e (ap (with σ) (sym b), refl)

pub refused_keeps : RefusedKeeps
unfolding step
refused_keeps (opening start attributes shape) σ =
    let o = open_of start attributes shape σ.nodes σ.table in anew_kept σ o (accepted o.answer.refusal) refl
refused_keeps (set t q v) σ = changes_kept σ t q (Set v)
refused_keeps (remove t q) σ = changes_kept σ t q Remove
refused_keeps (increment t q) σ = changes_kept σ t q Increment
refused_keeps add σ = let h = σ.history in
    begun_kept σ _ (call_kept σ (add_of h σ.nodes σ.table) (add_refusal h (length σ.nodes) (length σ.table)) (add_says h σ.nodes σ.table) (add_kept h σ.nodes σ.table))
refused_keeps (finish t) σ = let h = σ.history in
    begun_kept σ _
    (call_kept σ (finish_of h t σ.nodes σ.table) (finish_refusal h t (length σ.nodes) σ.table) (finish_says h t σ.nodes σ.table) (finish_kept h t σ.nodes σ.table))
refused_keeps (single t q) σ = begun_kept σ (told σ t q) (λ b. told_kept σ t q)
refused_keeps (full t) σ = begun_kept σ (asks σ t) (asks_kept σ t)

-- ---- the exported questions

pub refused_unwritten : RefusedUnwritten
unfolding P.single_written P.full_written
refused_unwritten v t q nodes b = (λ e. rw e refl, λ e. rw e refl)
