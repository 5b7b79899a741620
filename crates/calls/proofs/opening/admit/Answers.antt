-- `calls::opening::admit` meets its contract: each way cites its law. Assumes nothing.
use mathlib.Core.Path.{ap}
use mathlib.Core.Bool.{not}
use Rattle.calls.proofs.Openings.{open_numbers, open_small, open_short, open_fine}
use Rattle.calls.proofs.opening.admit.Goals as goal

pub returns-then-not-allowed-start : goal.returns-then-not-allowed-start
returns-then-not-allowed-start c = open_numbers _ _ _ _ _ _ c.shape_allowed-allowed.ensures (ap not c.if-not-allowed-start.true)

pub long_enough-requires : goal.long_enough-requires
long_enough-requires c = open_small c.args.start c.args.attributes c.args.shape 0 0 _ c.shape_allowed-allowed.ensures (ap not c.if-not-allowed-start.false)

pub returns-then-not-long_enough : goal.returns-then-not-long_enough
returns-then-not-long_enough c =
    open_short _ _ _ _ _ _ c.shape_allowed-allowed.ensures (ap not c.if-not-allowed-start.false) _ (rw c.from.ensures at c.long_enough.ensures) (ap not c.if-not-long_enough.true)

pub returns : goal.returns
returns c = open_fine _ _ _ _ _ _ c.shape_allowed-allowed.ensures (ap not c.if-not-allowed-start.false) _ (rw c.from.ensures at c.long_enough.ensures) (ap not c.if-not-long_enough.false)
