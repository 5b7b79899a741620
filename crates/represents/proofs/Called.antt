-- The theorem for each call: from a record and buffers that stand for a run of calls, the answer is the model's, and what is left stands for the run with that call,
-- refused or not. Assumes nothing.
use Prim.Native.Nat.{ℕ, ◌/◌}
use mathlib.Core.Bool.{Bool, true, false, cond, true≢false}
use mathlib.Core.Path.{◌≡◌, refl, sym, ap, ◌∙◌, subst}
use mathlib.Core.List.{List, [], ◌∷◌}
use lib.Dec.{eqb}
use lib.ListN.{length}
use borrow.Author.Tests.{eqb-true, eqb-false}
use Rattle.layout.specs.declared.Shape.{Shape}
use Rattle.layout.specs.Layout.{entry_size}
use Rattle.record.specs.declared.History.{History}
use Rattle.record.specs.Refusals.{accepted, number_of}
use Rattle.calls.specs.Outcome.{Outcome}
use Rattle.model.specs.Transient as M
use Rattle.model.specs.Transient.{Call, change, add, finish, step, history}
use Rattle.model.specs.Refusals as R
use Rattle.model.specs.Refusals.{refuse}
use Rattle.model.specs.Theorems.{left, taken, Calls64}
use Rattle.represents.specs.Represents.{shape_of}
use Rattle.represents.specs.Histories.{Shows, Opening, run_of, Stands}
use Rattle.represents.specs.Calls.{outcome_of}
use Rattle.represents.proofs.Real.{Real, real}
use Rattle.record.proofs.Said.{accepted_nothing}
use Rattle.represents.proofs.ChangeAnswers.{change_answer}
use Rattle.represents.proofs.ChangeShows.{change_shows}
use Rattle.represents.proofs.Added.{add_answer, add_shows}
use Rattle.represents.proofs.Finished.{finish_answer, finish_shows}
use Rattle.represents.proofs.Refused.{refusal_of, says, keeps, keeps_long}

-- ---- one call on a history that is shown

module _ (s : Shape) (l : M.History) (h : History) (b table : List ℕ) (known : Real l) (shows : Shows s l h b table) (m : ℕ)
    (entries : l.finished ≡ false → length table / entry_size ≡ m) where
  answer : (c : Call) → Calls64 (c ∷ []) → number_of (refusal_of c h b table) ≡ refuse (shape_of s) s.n m l c
  answer (change t q c) fit = change_answer s l h b table known shows m t q c fit.0
  answer add fit = add_answer s l h b table known shows m entries
  answer (finish t) fit = finish_answer s l h b table known shows m t

  next : (c : Call) → Calls64 (c ∷ []) → refuse (shape_of s) s.n m l c ≡ 0
      → let o = outcome_of c h b table in Shows s (step c l) o.answer.history o.nodes o.table
  next (change t q c) fit e = change_shows s l h b table known shows m t q c fit.0 e
  next add fit e = add_shows s l h b table known shows m entries e
  next (finish t) fit e = finish_shows s l h b table known shows m t e

-- nothing follows a finish
was_going : (c : Call) (l : M.History) → (step c l).finished ≡ false → l.finished ≡ false
unfolding step
was_going (change t q c) l e = e
was_going add l e = e
was_going (finish t) l e = absurd (true≢false e)

one_more : (c : Call) (cs : List Call) → Calls64 (c ∷ []) → Calls64 cs → Calls64 (c ∷ cs)
one_more (change t q c) cs a r = (a.0, r)
one_more add cs a r = r
one_more (finish t) cs a r = r

-- ---- a run of calls

module _ (p : Opening) (cs : List Call) (h : History) (b table : List ℕ) (stands : Stands p cs h b table) (c : Call) (fit : Calls64 (c ∷ [])) where
  abbrev l : M.History
  l = left (run_of p cs)

  abbrev o : Outcome
  o = outcome_of c h b table

  -- the model's answer to the call
  abbrev expected : ℕ
  expected = refuse (shape_of p.shape) p.shape.n p.entries l c

  known : Real l
  known = real p cs stands.begins stands.values

  -- The answer is the model's.
  pub call_answers : number_of o.answer.refusal ≡ expected
  call_answers = ap number_of (says c h b table) ∙ answer p.shape l h b table known stands.shows p.entries stands.entries c fit

  -- A refused call leaves the record as it came, and nothing is written.
  pub call_keeps : (expected ≡ 0 → ⊥) → (o.answer.history ≡ h) × (o.nodes ≡ b) × (o.table ≡ table)
  unfolding number_of
  call_keeps refused =
      let no : accepted (refusal_of c h b table) ≡ false = not_accepted (accepted (refusal_of c h b table)) refl in
      let e = keeps c h b table no in
      (ap (λ (r : Outcome). r.answer.history) e, ap (λ (r : Outcome). r.nodes) e, ap (λ (r : Outcome). r.table) e)
    where
      not_accepted : (x : Bool) → accepted (refusal_of c h b table) ≡ x → x ≡ false
      not_accepted true e =
          absurd (refused (sym (answer p.shape l h b table known stands.shows p.entries stands.entries c fit) ∙ ap number_of (accepted_nothing (refusal_of c h b table) e)))
      not_accepted false e = refl

  -- ---- the run with the call

  abbrev Next : M.History → Type 0
  Next k = (Shows p.shape k o.answer.history o.nodes o.table) × (k.finished ≡ false → l.finished ≡ false)

  next_left : (x : Bool) → eqb expected 0 ≡ x → Next (history p.start p.attributes (cond x (c ∷ taken (run_of p cs)) (taken (run_of p cs))))
  unfolding history
  next_left true e = (next p.shape l h b table known stands.shows p.entries stands.entries c fit (eqb-true expected 0 e), was_going c l)
  next_left false e =
      let k = call_keeps (eqb-false expected 0 e) in (
        subst (λ (z : History). Shows p.shape l z o.nodes o.table) (sym k.0)
            (subst (λ (z : List ℕ). Shows p.shape l h z o.table) (sym k.1) (subst (λ (z : List ℕ). Shows p.shape l h b z) (sym k.2) stands.shows)),
        λ f. f,
      )

  -- What is left stands for the run with the call.
  pub call_stands : Stands p (c ∷ cs) o.answer.history o.nodes o.table
  unfolding R.accepted
  call_stands = let n = next_left (eqb expected 0) refl in record {
    shows = n.0;
    begins = stands.begins;
    entries = λ f. ap (λ (z : ℕ). z / entry_size) (keeps_long c h b table) ∙ stands.entries (n.1 f);
    values = one_more c cs fit stands.values;
  }
