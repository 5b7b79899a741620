-- `build::carry::chain` meets its contract. Assumes nothing.
use mathlib.Core.Path.{refl}
use Rattle.build.proofs.Turns.{chain_can, chain_done}
use Rattle.build.proofs.carry.chain.Goals as goal

pub store-requires : goal.store-requires
store-requires g c = chain_can _ _ _ _ _ _ c.descend.ensures g.M.Moves.room g.met.M.Moves.kept c.requires.0 c.requires.1

pub returns : goal.returns
returns g c = chain_done _ _ _ _ _ _ c.descend.ensures _ _ refl c.store.ensures
