-- Each `return` cites the law of its way through `full_of`. Assumes nothing.
use mathlib.Core.Path.{refl, sym, ap, ◌∙◌}
use mathlib.Core.Bool.{not}
use native.Mathlib.Omega.{arith}
use Rattle.walk.specs.View.{view_of}
use Rattle.full_question.specs.Full.{said_all}
use Rattle.record.proofs.Facts.{admitted_facts}
use Rattle.walk.proofs.Admitted.{sound_roomy}
use Rattle.full_question.proofs.Heads.{full_head, full_2, full_6, full_view}
use Rattle.full_question.proofs.all.full.Goals as goal

pub returns-in_err-admit : goal.returns-in_err-admit
returns-in_err-admit c = full_head _ _ _ _ _ _ _ (sym c.admit.ensures ∙ c.in_err-admit.was) c.from_residual.ensures.1

pub view_of-v-requires : goal.view_of-v-requires
view_of-v-requires c = (admitted_facts _ _ _ (sym c.admit.ensures ∙ c.in_ok-admit.was)).0

pub returns-then-answer-v : goal.returns-then-answer-v
unfolding said_all
returns-then-answer-v c = full_2 _ _ _ _ _ _ (sym c.admit.ensures ∙ c.in_ok-admit.was) _ c.view_of-v.ensures c.if-answer-v.true refl

pub returns-then-not-asked : goal.returns-then-not-asked
unfolding said_all
returns-then-not-asked c = full_6 _ _ _ _ _ _ (sym c.admit.ensures ∙ c.in_ok-admit.was) _ c.view_of-v.ensures c.if-answer-v.false _ c.asked.ensures (ap not c.if-not-asked.true) refl

pub walked-requires : goal.walked-requires
unfolding view_of
walked-requires c =
    let f = admitted_facts _ _ _ (sym c.admit.ensures ∙ c.in_ok-admit.was) in
    (rw c.view_of-v.ensures (sound_roomy _ f.0 _ f.1), rw c.view_of-v.ensures f.2, omega (arith, c.if-answer-v.false))

pub returns : goal.returns
returns c = full_view _ _ _ _ _ _ (sym c.admit.ensures ∙ c.in_ok-admit.was) _ c.view_of-v.ensures c.if-answer-v.false _ c.asked.ensures _ (ap not c.if-not-asked.false) c.walked.ensures.0 c.walked.ensures.1
