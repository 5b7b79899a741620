-- `close` of `OnRecord` meets its contract. Assumes nothing.
use Rattle.build.proofs.Alone.{close_alone}
use Rattle.build.proofs.carry.OnRecordMoves.close.Goals as goal

pub returns : goal.returns
returns c = close_alone _ _ _ c.requires.1 c.close.ensures
