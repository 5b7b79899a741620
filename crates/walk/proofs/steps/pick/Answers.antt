use Rattle.std.proofs.Common.{sym, ◌∙◌}
use Rattle.walk.proofs.Ways.{pick_here, pick_before, pick_none}
use Rattle.walk.proofs.steps.pick.Goals as goal

pub returns-then-start-t-clause-picked : goal.returns-then-start-t-clause-picked
returns-then-start-t-clause-picked c = sym (c.loop-i.invariant ∙ pick_here _ _ _ _ _ c.loop-i-test.true c.get-start.ensures.0 c.if-start-t.true)

pub loop-i-preserved : goal.loop-i-preserved
loop-i-preserved c = c.loop-i.invariant ∙ pick_before _ _ _ _ _ c.loop-i-test.true c.get-start.ensures.0 c.if-start-t.false

pub returns-clause-picked : goal.returns-clause-picked
returns-clause-picked c = sym (c.loop-i.invariant ∙ pick_none _ _ _ _ c.loop-i-test.false)
