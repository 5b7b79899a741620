-- The loop walks what is left to walk; each `return` cites the law of its way out. Assumes nothing.
use Prim.Native.Nat.{◌+◌}
use Rattle.walk.specs.Standing.{due_at}
use Rattle.questions.proofs.Finding.{Finding}
use Rattle.questions.proofs.one.find.Given as goal

abbrev pub invariant-loop-level : goal.invariant-loop-level
invariant-loop-level l = Finding l.nodes l.v l.quark.0 l.t (due_at l.due l.entered) (l.level + 1) l.s
