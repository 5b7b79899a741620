-- `calls::adding::admit` meets its contract: each way cites its law. Assumes nothing.
use Rattle.record.proofs.Said.{handed_on, refused}
use Rattle.calls.proofs.Additions.{add_unadmitted, add_finished, add_full, add_fine}
use Rattle.calls.proofs.adding.admit.Goals as goal

pub returns-in_err-admit : goal.returns-in_err-admit
returns-in_err-admit c = rw (handed_on _ _ _ c.in_err-admit.was c.from_residual.ensures.1) (add_unadmitted _ _ _ _ c.admit.ensures (refused _ _ c.in_err-admit.was))

pub returns-then-h : goal.returns-then-h
returns-then-h c = add_finished _ _ _ _ c.admit.ensures c.in_ok-admit.was c.if-h.true

pub returns-then-entries-h : goal.returns-then-entries-h
returns-then-entries-h c = add_full _ _ _ _ c.admit.ensures c.in_ok-admit.was c.if-h.false c.if-entries-h.true

pub returns : goal.returns
returns c = add_fine _ _ _ _ c.admit.ensures c.in_ok-admit.was c.if-h.false c.if-entries-h.false
