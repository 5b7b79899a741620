use native.Mathlib.Omega.{arith}
use Rattle.build.proofs.Turns.{climb_begins, climb_needs, climb_turn, climb_done}
use Rattle.build.proofs.carry.climb.Goals as goal

pub loop-i-init : goal.loop-i-init
loop-i-init g c = climb_begins g.M.Moves.room _ _ _ c.requires.0 c.requires.1

pub rise-requires : goal.rise-requires
rise-requires g c = climb_needs g.M.Moves.room _ _ _ _ _ _ c.loop-i.invariant (omega arith)

pub loop-i-preserved : goal.loop-i-preserved
loop-i-preserved g c = climb_turn g.M.Moves.room _ _ _ _ _ _ c.loop-i.invariant (omega arith) g.met.M.Moves.kept _ _ c.rise.ensures

pub returns : goal.returns
returns g c = climb_done g.M.Moves.room _ _ _ _ _ _ c.loop-i.invariant (omega arith)
