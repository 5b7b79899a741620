-- The loop walks what is left to walk, and notes what is left to note; each `return` cites the law of its way out. Assumes nothing.
use Prim.Native.Nat.{◌+◌}
use Rattle.walk.specs.Standing.{due_at}
use Rattle.full_question.proofs.Gathering.{Gathering}
use Rattle.full_question.proofs.all.gather.Given as goal

abbrev pub invariant-loop-level : goal.invariant-loop-level
invariant-loop-level l = Gathering l.nodes l.v l.t l.attributes l.initial.found (due_at l.due l.entered) (l.level + 1) l.found
