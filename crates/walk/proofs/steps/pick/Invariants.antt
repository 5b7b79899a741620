-- The loop picks among the entries that are left. Assumes nothing.
use Rattle.std.specs.Prelude.{None}
use Rattle.std.proofs.Common.{◌≡◌}
use Rattle.walk.specs.Walk.{pick}
use Rattle.walk.proofs.steps.pick.Given as goal

abbrev pub invariant-loop-i : goal.invariant-loop-i
invariant-loop-i l = pick l.nodes l.t l.at 0 l.n None ≡ pick l.nodes l.t l.at 0 l.i None
