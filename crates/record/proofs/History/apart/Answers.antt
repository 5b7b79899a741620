use Prim.Native.Nat.{◌+◌}
use native.Mathlib.Omega.{arith}
use Rattle.record.proofs.Runs.{apart_begin, apart_fail, apart_turn, apart_end}
use Rattle.record.proofs.History.apart.Goals as goal

pub loop-above-init : goal.loop-above-init
loop-above-init c = apart_begin _ _ _

pub returns-then-self-above : goal.returns-then-self-above
returns-then-self-above c = search apart_fail

pub loop-above-preserved : goal.loop-above-preserved
loop-above-preserved c = search apart_turn

pub returns : goal.returns
returns c = search apart_end

-- the last turn
pub returns-else-self-above : goal.returns-else-self-above
returns-else-self-above c = apart_end _ _ _ (c.loop-above.above + 1) (search apart_turn) (omega arith)
