-- `calls::adding::add` meets its contract. Assumes nothing.
use native.Mathlib.Omega.{arith}
use Rattle.record.proofs.Said.{handed_on, refused}
use Rattle.calls.proofs.Additions.{add_room, add_small, add_refused, added}
use Rattle.calls.proofs.adding.add.Goals as goal

pub returns-in_err-admit : goal.returns-in_err-admit
returns-in_err-admit c = rw (handed_on _ _ _ c.in_err-admit.was c.from_residual.ensures.1) (add_refused _ _ _ _ c.admit.ensures (refused _ _ c.in_err-admit.was))

pub overflow_cast-quark : goal.overflow_cast-quark
overflow_cast-quark c = omega (arith, add_small _ _ _ _ c.admit.ensures c.in_ok-admit.was)

pub put_ongoing-requires : goal.put_ongoing-requires
put_ongoing-requires c = add_room _ _ _ _ c.admit.ensures c.in_ok-admit.was

pub add_attribute-requires : goal.add_attribute-requires
add_attribute-requires c = add_small _ _ _ _ c.admit.ensures c.in_ok-admit.was

pub returns : goal.returns
returns c = added _ _ _ _ c.admit.ensures _ _ _ c.in_ok-admit.was c.begins.ensures c.put_ongoing.ensures c.add_attribute.ensures
