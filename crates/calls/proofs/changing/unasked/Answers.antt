-- `calls::changing::unasked` meets its contract. Assumes nothing.
use native.Mathlib.Omega.{arith}
use Rattle.record.proofs.Said.{handed_on, refused}
use Rattle.calls.proofs.Changes.{unasked_head, unasked_finished, unasked_quark, unasked_fine}
use Rattle.calls.proofs.changing.unasked.Goals as goal

pub returns-in_err-admit : goal.returns-in_err-admit
returns-in_err-admit c = rw (handed_on _ _ _ c.in_err-admit.was c.from_residual.ensures.1) (unasked_head _ _ _ _ _ c.admit.ensures (refused _ _ c.in_err-admit.was))

pub returns-then-h : goal.returns-then-h
returns-then-h c = unasked_finished _ _ _ _ _ c.admit.ensures c.in_ok-admit.was c.if-h.true

pub returns-then-h-from : goal.returns-then-h-from
returns-then-h-from c = unasked_quark _ _ _ _ _ c.admit.ensures c.in_ok-admit.was c.if-h.false (omega arith)

pub returns : goal.returns
returns c = unasked_fine _ _ _ _ _ c.admit.ensures c.in_ok-admit.was c.if-h.false (omega arith)
