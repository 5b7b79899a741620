-- `build::moves::put_head` meets its contract: the header lies in the node. Assumes nothing.
use Rattle.build.proofs.Heads.{head_inside}
use Rattle.build.proofs.moves.put_head.Goals as goal

pub put_header-requires : goal.put_header-requires
put_header-requires c = head_inside _ _ _ c.requires _ c.place_of-at.ensures.1
