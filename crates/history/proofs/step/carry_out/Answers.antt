-- 15 before anything that a call tests. Assumes nothing.
use mathlib.Core.Path.{refl}
use Rattle.history.specs.Step.{opens, called, carried}
use Rattle.history.proofs.Records.{not_opening}
use Rattle.history.proofs.step.carry_out.Goals as goal

pub returns-in-Open : goal.returns-in-Open
unfolding carried opens called
returns-in-Open c = rw c.in-Open.is (c.begin.ensures _)

pub call-requires : goal.call-requires
call-requires c = not_opening _ c.in_default.not-Open

pub returns-in-None : goal.returns-in-None
unfolding carried
returns-in-None c = rw (not_opening _ c.in_default.not-Open, c.in-None.is) refl

pub returns-in-Some : goal.returns-in-Some
unfolding carried
returns-in-Some c = rw (not_opening _ c.in_default.not-Open, c.in-Some.is) c.call.ensures
