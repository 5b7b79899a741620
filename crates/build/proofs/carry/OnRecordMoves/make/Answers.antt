-- `make` of `OnRecord` meets its contract. Assumes nothing.
use Rattle.build.proofs.Alone.{make_alone}
use Rattle.build.proofs.carry.OnRecordMoves.make.Goals as goal

pub returns : goal.returns
returns c = make_alone _ _ _ c.requires.1 _ _ c.make.ensures
