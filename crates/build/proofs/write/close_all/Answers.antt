use Prim.Native.Nat.{◌+◌}
use mathlib.Core.Path.{sym, ◌∙◌}
use native.Mathlib.Omega.{arith}
use Rattle.build.proofs.Turns.{close_turn, close_all_done}
use Rattle.build.proofs.write.close_all.Goals as goal

pub loop-level-preserved : goal.loop-level-preserved
loop-level-preserved c = c.loop-level.invariant ∙ close_turn _ _ _ _ _ (omega arith) c.put_head.ensures

pub returns : goal.returns
returns c = sym (c.loop-level.invariant ∙ close_all_done _ _ c.loop-level.level _ (omega arith))

-- the last turn
pub returns-2 : goal.returns-2
returns-2 c = sym (c.loop-level.invariant ∙ close_turn _ _ _ _ _ (omega arith) c.put_head.ensures ∙ close_all_done _ _ (c.loop-level.level + 1) _ (omega arith))
