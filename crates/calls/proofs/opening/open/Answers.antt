-- `calls::opening::open` meets its contract. Assumes nothing.
use mathlib.Core.Path.{refl}
use Rattle.record.proofs.Said.{handed_on, refused}
use Rattle.calls.proofs.Openings.{opens_standing, opens_table, open_refused, open_done}
use Rattle.calls.proofs.opening.open.Goals as goal

pub returns-in_err-admit : goal.returns-in_err-admit
returns-in_err-admit c = rw (handed_on _ _ _ c.in_err-admit.was c.from_residual.ensures.1) (open_refused _ _ _ _ _ _ _ c.admit.ensures (refused _ _ c.in_err-admit.was))

pub plant-requires : goal.plant-requires
plant-requires c = opens_standing _ _ _ _ _ _ c.admit.ensures c.in_ok-admit.was _ _ refl c.begin.ensures

pub open_table-requires : goal.open_table-requires
open_table-requires c = opens_table _ _ _ _ _ _ c.admit.ensures c.in_ok-admit.was

pub returns : goal.returns
returns c = open_done _ _ _ _ _ _ _ c.admit.ensures _ _ _ c.in_ok-admit.was c.begin.ensures c.plant.ensures c.open_table.ensures
