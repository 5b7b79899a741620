use native.Mathlib.Omega.{arith}
use Rattle.finishing.proofs.Finishes.{late_begins, late_room, late_ends, store_ending, store_turn}
use Rattle.finishing.proofs.store_all.Goals as goal

pub loop-q-init : goal.loop-q-init
loop-q-init c = (tt, late_begins _ _ _ _ _ c.requires.0 c.requires.1)

pub store_one-due-requires : goal.store_one-due-requires
store_one-due-requires c = let v = c.loop-q.invariant in
    (v.1.firm, late_room _ _ _ _ _ _ _ _ _ v.1, v.0, store_ending _ _ _ _ _ _ _ _ v.1 c.requires.4 _ _ c.ongoing_entry-e.ensures)

pub loop-q-preserved : goal.loop-q-preserved
loop-q-preserved c = let e = c.store_one-due.ensures in
    (e.0, store_turn _ _ _ _ _ _ _ _ c.loop-q.invariant.1 c.requires.4 _ _ c.ongoing_entry-e.ensures (omega arith) c.read_ongoing-o.ensures _ _ e.1)

pub returns : goal.returns
returns c = late_ends _ _ _ _ _ _ _ _ _ c.loop-q.invariant.1 (omega arith) _ c.write_due.ensures
