-- `store` of `OnRecord` meets its contract. Assumes nothing.
use Rattle.build.proofs.Alone.{store_alone}
use Rattle.build.proofs.carry.OnRecordMoves.store.Goals as goal

pub returns : goal.returns
returns c = store_alone _ _ _ c.requires.1 _ _ c.store.ensures
