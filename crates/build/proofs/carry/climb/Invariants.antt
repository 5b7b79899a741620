-- `build::carry::climb` meets its contract: what is left of the climb is the whole of it. Assumes nothing.
use Rattle.build.proofs.Turns.{ClimbLeft}
use Rattle.build.proofs.carry.climb.Given as goal

abbrev pub invariant-loop-i : goal.invariant-loop-i
invariant-loop-i g l = ClimbLeft g.M.Moves.room l.n l.initial.h l.initial.nodes l.i l.h l.nodes
