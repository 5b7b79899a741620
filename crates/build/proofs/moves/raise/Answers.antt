-- `build::moves::raise` meets its contract. Assumes nothing.
use Rattle.build.proofs.Stands.{root_stands, new_root_stands}
use Rattle.build.proofs.Heads.{raise_done}
use Rattle.build.proofs.moves.raise.Goals as goal

pub put_head-requires : goal.put_head-requires
put_head-requires c = let p = c.requires in root_stands _ _ p.0 p.1 p.3 p.4 _ c.raise.ensures

pub put_new-requires : goal.put_new-requires
put_new-requires c = let p = c.requires in new_root_stands _ _ p.0 p.1 p.3 p.4 _ _ _ _ _ _ c.raise.ensures c.put_head.ensures

pub returns : goal.returns
returns c = raise_done _ _ _ _ _ c.raise.ensures c.put_head.ensures c.put_new.ensures
