-- The number of open levels above.
use Rattle.std.proofs.Common.{◌-◌}
use Rattle.settle.proofs.+ask.Given as goal

abbrev pub decreases-ask : goal.decreases-ask
decreases-ask l = l.h.now.top - l.level
