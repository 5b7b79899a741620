-- `calls::changing::change` meets its contract. Assumes nothing.
use Rattle.record.proofs.Said.{handed_on, refused}
use Rattle.calls.proofs.Changes.{asked_entry, due, change_unasked, change_untimely, change_carried}
use Rattle.calls.proofs.changing.change.Goals as goal

pub returns-in_err-unasked : goal.returns-in_err-unasked
returns-in_err-unasked c =
    rw (handed_on _ _ _ c.in_err-unasked.was c.from_residual.ensures.1) (change_unasked _ _ _ c.args.what _ _ _ c.unasked.ensures (refused _ _ c.in_err-unasked.was))

pub read_ongoing-o-requires : goal.read_ongoing-o-requires
read_ongoing-o-requires c = asked_entry _ _ _ _ _ c.unasked.ensures c.in_ok-unasked.was

pub returns-in_err-untimely : goal.returns-in_err-untimely
returns-in_err-untimely c =
    rw (handed_on _ _ _ c.in_err-untimely.was c.from_residual-in_err-untimely.ensures.1)
    (change_untimely _ _ _ c.args.what _ _ _ c.unasked.ensures c.in_ok-unasked.was _ c.read_ongoing-o.ensures _ c.untimely.ensures (refused _ _ c.in_err-untimely.was))

pub carry-requires : goal.carry-requires
carry-requires c = due _ _ _ _ _ _ _ _ c.unasked.ensures c.in_ok-unasked.was c.untimely.ensures c.in_ok-untimely.was

pub returns : goal.returns
returns c = change_carried _ _ _ c.args.what _ _ _ c.unasked.ensures c.in_ok-unasked.was _ c.read_ongoing-o.ensures _ c.untimely.ensures c.in_ok-untimely.was _ _ _ _ c.carry.ensures
