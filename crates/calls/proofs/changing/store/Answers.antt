-- `calls::changing::store` meets its contract. Assumes nothing.
use Rattle.record.proofs.Said.{handed_on, refused}
use Rattle.calls.proofs.Changes.{entry_ends, store_refused, store_done}
use Rattle.calls.proofs.changing.store.Goals as goal

pub insert-requires : goal.insert-requires
insert-requires c = let p = c.requires.0 in (p.firm, p.room, entry_ends _ _ _ _ c.ongoing_entry-e.ensures p.last)

pub returns-in_err-insert : goal.returns-in_err-insert
returns-in_err-insert c =
    rw (handed_on _ _ _ c.in_err-insert.was c.from_residual.ensures.1)
    (store_refused _ _ _ _ c.args.next _ _ _ c.ongoing_entry-e.ensures _ _ _ c.insert.ensures (refused _ _ c.in_err-insert.was))

pub returns : goal.returns
returns c = store_done _ _ _ _ _ _ _ _ c.ongoing_entry-e.ensures _ _ _ c.insert.ensures _ _ c.in_ok-insert.was c.at_time.ensures c.put_ongoing.ensures
