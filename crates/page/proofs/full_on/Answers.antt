-- Each `return` cites the law of its way through `full_refusal`. Assumes nothing.
use mathlib.Core.Path.{sym, ◌∙◌}
use Rattle.page.proofs.Answers.{all_head, all_walked, all_told}
use Rattle.page.proofs.full_on.Goals as goal

pub returns-in_err-admit : goal.returns-in_err-admit
returns-in_err-admit c = all_head _ _ _ _ _ _ (sym c.admit.ensures ∙ c.in_err-admit.was) c.from_residual.ensures.1

pub returns-in_err-entered : goal.returns-in_err-entered
returns-in_err-entered c =
    all_walked _ _ _ _ (sym c.admit.ensures ∙ c.in_ok-admit.was) _ _ c.walked.ensures.0 c.walked.ensures.1 _ _ c.in_err-entered.was c.from_residual-in_err-entered.ensures.1

pub returns : goal.returns
returns c =
    all_told _ _ _ _ (sym c.admit.ensures ∙ c.in_ok-admit.was) _ _ c.walked.ensures.0 c.walked.ensures.1 _ _ _ c.in_ok-entered.was c.from.ensures c.put.ensures
