-- `raise` of `OnRecord` meets its contract. Assumes nothing.
use Rattle.build.proofs.Alone.{raise_alone}
use Rattle.build.proofs.carry.OnRecordMoves.raise.Goals as goal

pub returns : goal.returns
returns c = raise_alone _ _ _ c.requires.1 c.raise.ensures
