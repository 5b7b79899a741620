use Prim.Native.Nat.{◌-◌}
use native.Mathlib.Omega.{arith}
use Rattle.build.proofs.Turns.{descend_needs, descend_turn, descend_done}
use Rattle.build.proofs.carry.descend.Goals as goal

pub make-requires : goal.make-requires
make-requires g c = descend_needs g.M.Moves.room _ _ _ _ _ _ _ c.loop-level.invariant (c.loop-level.level - 1) (omega arith)

pub loop-level-preserved : goal.loop-level-preserved
loop-level-preserved g c = descend_turn g.M.Moves.room _ _ _ _ _ _ _ c.loop-level.invariant _ (omega arith) g.met.M.Moves.kept _ _ c.make.ensures

pub returns : goal.returns
returns g c = descend_done g.M.Moves.room _ _ _ _ _ _ _ c.loop-level.invariant (omega arith)
