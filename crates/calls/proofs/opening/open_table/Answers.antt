use native.Mathlib.Omega.{arith}
use Rattle.calls.proofs.Openings.{opens_turn, opens_end}
use Rattle.calls.proofs.opening.open_table.Goals as goal

pub loop-q-preserved : goal.loop-q-preserved
loop-q-preserved c = opens_turn _ _ _ _ _ c.loop-q.invariant (omega arith) _ _ c.begins.ensures c.put_ongoing.ensures

pub returns : goal.returns
returns c = opens_end _ _ _ _ _ c.loop-q.invariant (omega arith)
