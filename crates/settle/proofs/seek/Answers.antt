use native.Mathlib.Omega.{arith}
use borrow.Author.Rules.{rules}
use Rattle.settle.proofs.Ways.{found, passed, at_root}
use Rattle.settle.proofs.seek.Goals as goal

pub returns-then-h-level : goal.returns-then-h-level
returns-then-h-level c = (search found, search rules, search rules)

pub loop-level-preserved : goal.loop-level-preserved
loop-level-preserved c = search passed

pub returns : goal.returns
returns c = (at_root _ _ c.loop-level.level _ _ c.loop-level.invariant (omega arith), search rules, search rules)
