-- An opening opens what it leaves, or changes nothing. Assumes nothing.
use mathlib.Core.Path.{refl}
use Rattle.history.proofs.Records.{began}
use Rattle.history.proofs.step.begin.Goals as goal

pub returns-then-is_ok : goal.returns-then-is_ok
returns-then-is_ok c = began _ _ _ _ _ _ _ _ _ _ c.open-opened.ensures _ _ _ c.is_ok.ensures.value (rw c.if-is_ok.true refl)

pub returns-else-is_ok : goal.returns-else-is_ok
returns-else-is_ok c = began _ _ _ _ _ _ _ _ _ _ c.open-opened.ensures _ _ _ c.is_ok.ensures.value (rw c.if-is_ok.false refl)
