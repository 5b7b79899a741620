-- `settle::settle` meets its contract: the level that the question comes to tells the plan. Assumes nothing.
use native.Mathlib.Omega.{arith}
use Rattle.settle.proofs.Ways.{no_lower, stays, goes_up, settled}
use Rattle.settle.proofs.settle.Goals as goal

pub returns-then-taker-level : goal.returns-then-taker-level
returns-then-taker-level c = settled c.args.h.now c.args.s c.args.level _ c.requires.0 (stays c.args.h.now c.args.s _ c.args.level _ _ _ (c.ask-taker.ensures 0) c.if-taker-level.true)

pub overflow_sub-result : goal.overflow_sub-result
overflow_sub-result c = omega (arith, no_lower _ _ _ _ _ _ _ (c.ask-taker.ensures 0))

pub returns : goal.returns
returns c = settled c.args.h.now c.args.s c.args.level _ c.requires.0 (goes_up c.args.h.now c.args.s _ c.args.level _ _ _ (c.ask-taker.ensures 0) c.if-taker-level.false)
