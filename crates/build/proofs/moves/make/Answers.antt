-- `build::moves::make` meets its contract. Assumes nothing.
use native.Mathlib.Omega.{arith}
use Rattle.build.proofs.Stands.{parent_stands}
use Rattle.build.proofs.Heads.{child_small, child_inside, new_stands, make_done}
use Rattle.build.proofs.moves.make.Goals as goal

pub put_head-requires : goal.put_head-requires
put_head-requires c = let p = c.requires in parent_stands _ _ p.0 p.1 _ _ p.2 p.3 p.4 _ c.make.ensures

pub overflow_add-at : goal.overflow_add-at
overflow_add-at c = let p = c.requires in omega (arith, child_small _ c.args.nodes.now p.0 p.1 _ _ c.place_of-at.ensures.1 c.args.start _ p.2 p.3 p.4 c.child_at-slot.ensures)

pub put_child-requires : goal.put_child-requires
put_child-requires c = let p = c.requires in
    child_inside _ c.args.nodes.now p.0 p.1 _ _ c.place_of-at.ensures.1 c.args.start _ p.2 p.3 p.4 c.child_at-slot.ensures _ _ c.put_head.ensures

pub put_new-requires : goal.put_new-requires
put_new-requires c = let p = c.requires in
    new_stands _ c.args.nodes.now p.0 p.1 _ _ c.place_of-at.ensures.1 c.args.start _ p.2 p.3 p.4 c.child_at-slot.ensures _ _ c.put_head.ensures _ c.place_of-at.ensures.0 c.make.ensures c.put_child.ensures

pub returns : goal.returns
returns c = let p = c.requires in
    make_done _ c.args.nodes.now p.0 p.1 _ _ c.place_of-at.ensures.1 c.args.start _ p.2 p.3 p.4 c.child_at-slot.ensures _ _ c.put_head.ensures _ c.place_of-at.ensures.0 c.make.ensures c.put_child.ensures _ c.put_new.ensures
