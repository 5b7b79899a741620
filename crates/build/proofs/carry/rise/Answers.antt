-- `build::carry::rise` meets its contract. Assumes nothing.
use Rattle.build.proofs.Turns.{rise_close, rise_raise}
use Rattle.build.proofs.carry.rise.Goals as goal

pub returns-then-h : goal.returns-then-h
returns-then-h g c = rise_close _ _ _ _ c.if-h.true c.close.ensures

pub returns-else-h : goal.returns-else-h
returns-else-h g c = rise_raise _ _ _ _ c.if-h.false c.raise.ensures
