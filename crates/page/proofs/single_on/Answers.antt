-- Each `return` cites the law of its way through `single_refusal`. Assumes nothing.
use mathlib.Core.Path.{sym, ◌∙◌}
use Rattle.page.proofs.Answers.{one_head, one_walked, one_told}
use Rattle.page.proofs.single_on.Goals as goal

pub returns-in_err-admit : goal.returns-in_err-admit
returns-in_err-admit c = one_head _ _ _ _ _ _ _ (sym c.admit.ensures ∙ c.in_err-admit.was) c.from_residual.ensures.1

pub returns-in_err-told : goal.returns-in_err-told
returns-in_err-told c =
    one_walked _ _ _ _ _ (sym c.admit.ensures ∙ c.in_ok-admit.was) _ c.walked.ensures _ _ c.in_err-told.was c.from_residual-in_err-told.ensures.1

pub returns : goal.returns
returns c =
    one_told _ _ _ _ _ (sym c.admit.ensures ∙ c.in_ok-admit.was) _ c.walked.ensures _ _ _ _ c.in_ok-told.was c.from.ensures c.put.ensures c.put_entry.ensures
