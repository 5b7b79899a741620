-- `build::carry::carry` meets its contract. Assumes nothing.
use Rattle.build.proofs.Carried.{climbs}
use Rattle.build.proofs.Turns.{written_lands, written_chain, written_here}
use Rattle.build.proofs.carry.carry.Goals as goal

pub climb-requires : goal.climb-requires
climb-requires g c = let p = c.requires in (climbs _ _ p.0 p.2, p.1)

pub chain-requires : goal.chain-requires
chain-requires g c = let p = c.requires in
    let l = written_lands _ _ _ c.args.e _ _ c.climb.ensures _ c.stretch.ensures g.M.Moves.room g.met.M.Moves.kept p.0 p.1 p.2 p.3 in
    (l.0.chain c.if-p.true, l.1)

pub store-requires : goal.store-requires
store-requires g c = let p = c.requires in
    let l = written_lands _ _ _ c.args.e _ _ c.climb.ensures _ c.stretch.ensures g.M.Moves.room g.met.M.Moves.kept p.0 p.1 p.2 p.3 in
    (l.0.firm, l.1, l.0.above, l.0.below, l.0.here c.if-p.false)

pub returns-then-p : goal.returns-then-p
returns-then-p g c = written_chain _ _ _ _ _ _ c.climb.ensures _ c.stretch.ensures _ c.if-p.true c.chain.ensures

pub returns-else-p : goal.returns-else-p
returns-else-p g c = written_here _ _ _ _ _ _ c.climb.ensures _ c.stretch.ensures _ c.if-p.false c.store.ensures
