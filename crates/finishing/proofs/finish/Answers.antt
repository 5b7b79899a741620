-- `finishing::finish` meets its contract. Assumes nothing.
use Rattle.record.proofs.Said.{handed_on, refused}
use Rattle.finishing.proofs.Finishes.{finish_refused, finish_needs, close_needs, finished_needs, finish_done}
use Rattle.finishing.proofs.finish.Goals as goal

pub returns-in_err-admit : goal.returns-in_err-admit
returns-in_err-admit c = rw (handed_on _ _ _ c.in_err-admit.was c.from_residual.ensures.1) (finish_refused _ _ _ _ _ c.admit.ensures (refused _ _ c.in_err-admit.was))

pub store_all-requires : goal.store_all-requires
store_all-requires c = finish_needs _ _ _ _ _ c.admit.ensures c.in_ok-admit.was

pub close_all-requires : goal.close_all-requires
close_all-requires c = close_needs _ _ _ _ _ c.admit.ensures c.in_ok-admit.was _ _ c.store_all.ensures

pub finish-requires : goal.finish-requires
finish-requires c = finished_needs _ _ _ _ _ c.admit.ensures c.in_ok-admit.was _ _ c.store_all.ensures

pub returns : goal.returns
returns c = finish_done _ _ _ _ _ c.admit.ensures c.in_ok-admit.was _ _ c.store_all.ensures _ _ c.close_all.ensures c.finish.ensures
