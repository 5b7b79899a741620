-- `build::carry::insert` meets its contract. Assumes nothing.
use Rattle.record.proofs.Said.{handed_on}
use Rattle.build.proofs.Trials.{plan_can}
use Rattle.build.proofs.Inserted.{taken_open, insert_taken, insert_refused, insert_stored}
use Rattle.build.proofs.carry.insert.Goals as goal

pub store-requires : goal.store-requires
store-requires g c = let p = c.requires in
    taken_open _ _ c.args.e _ c.stretch.ensures _ p.0 _ c.takes.ensures c.if-takes.true c.seek-level.ensures g.M.Moves.room g.met.M.Moves.kept p.1 p.2

pub returns-then-takes : goal.returns-then-takes
returns-then-takes g c = insert_taken _ _ c.args.e _ c.stretch.ensures _ c.requires.0 _ c.takes.ensures c.if-takes.true c.seek-level.ensures _ c.store.ensures

pub returns-in_err-admit : goal.returns-in_err-admit
returns-in_err-admit g c = rw (handed_on _ _ _ c.in_err-admit.was c.from_residual.ensures.1) (insert_refused _ _ c.args.e _ _ c.settle-p.ensures c.admit.ensures _ c.in_err-admit.was)

pub carry-requires : goal.carry-requires
carry-requires g c = let p = c.requires in
    (p.0, p.1, plan_can _ c.args.e.start _ _ c.settle-p.ensures c.admit.ensures p.0 c.in_ok-admit.was, p.2)

pub returns : goal.returns
returns g c = insert_stored _ _ c.args.e _ _ c.settle-p.ensures c.admit.ensures c.in_ok-admit.was _ c.carry.ensures
