-- `build::carry::descend` meets its contract: what is left of the chain is the whole of it. Assumes nothing.
use Rattle.build.proofs.Turns.{DescendLeft}
use Rattle.build.proofs.carry.descend.Given as goal

abbrev pub invariant-loop-level : goal.invariant-loop-level
invariant-loop-level g l = DescendLeft g.M.Moves.room l.start l.n l.initial.h l.initial.nodes l.level l.h l.nodes
