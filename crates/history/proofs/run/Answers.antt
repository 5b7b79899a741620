-- What each record is answered was printed behind what stood before.
use Rattle.history.proofs.Printing.{begins, ends, refused, read}
use Rattle.history.proofs.run.Goals as goal

pub loop-i-init : goal.loop-i-init
loop-i-init g c = begins _ _ _ _ _ _ (cc) (cc) (cc)

pub loop-i-preserved-in-Continue-1 : goal.loop-i-preserved-in-Continue-1
loop-i-preserved-in-Continue-1 g c =
    let step = c.in-Some.ensures.steps in
    read _ _ _ _ _ _ _ c.loop-i.invariant.1 _ _ _ _ _ _ _ c.loop-i.invariant.0 step.0 step.1 step.2 c.in-Ok.r _ c.in-Ok.is c.in_ok-turn-in-Ok.ensures.printed c.in_ok-turn-in-Ok.ensures.left

pub loop-i-preserved : goal.loop-i-preserved
loop-i-preserved g c =
    let step = c.in-Some.ensures.steps in
    refused _ _ _ _ _ _ _ c.loop-i.invariant.1 _ _ _ _ _ _ _ c.loop-i.invariant.0 step.0 step.1 step.2 c.in-Err.refusal c.in-Err.is c.in_ok-said-in-Err.ensures

pub returns : goal.returns
returns g c = ends _ _ _ _ _ _ _ c.loop-i.invariant.1 (rw (← c.loop-i.invariant.0) c.in-None.ensures.steps.0.1.0)
