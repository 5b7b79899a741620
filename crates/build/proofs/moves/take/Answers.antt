-- `build::moves::take` meets its contract. Assumes nothing.
use mathlib.Core.Path.{◌∙◌}
use native.Mathlib.Omega.{arith}
use Rattle.std.proofs.Common.{rules}
use Rattle.build.proofs.Stands.{stored_stands}
use Rattle.build.proofs.Heads.{entry_small, entry_alone, store_done, add_done}
use Rattle.build.proofs.moves.take.Goals as goal
use Rattle.build.proofs.moves.take.Goals.{then-this-ne0, else-this-ne0}

pub put_head-requires : goal.put_head-requires
put_head-requires g c = let p = c.requires in stored_stands _ _ p.0 p.1 _ p.2 p.3 _ c.store.ensures p.4

pub overflow_add-at : goal.overflow_add-at
overflow_add-at g c = let p = c.requires in omega (arith, entry_small _ c.args.nodes.now p.0 p.1 _ _ c.place_of-at.ensures.1 _ p.4 c.entry_at-slot.ensures)

pub put_entry-requires : goal.put_entry-requires
put_entry-requires g c = let p = c.requires in
    omega (arith, entry_alone _ c.args.nodes.now p.0 p.1 _ _ c.place_of-at.ensures.1 _ p.4 c.entry_at-slot.ensures, c.if-this-ne0.auto.nodes)

pub returns : goal.returns
returns g c =
    let p = c.requires in
    elim c.if-this-ne0.branch [
      | then-this-ne0 w ↦
          let k = store_done _ c.args.nodes.now p.0 p.1 _ _ c.place_of-at.ensures.1 _ p.4 c.entry_at-slot.ensures _ _ (w.nodes-is ∙ w.put_head.ensures) c.args.e _ c.place_of-at.ensures.0 c.store.ensures c.put_entry.ensures in
          search rules
      | else-this-ne0 w ↦
          let k = add_done _ c.args.nodes.now p.0 p.1 _ _ c.place_of-at.ensures.1 _ p.4 c.entry_at-slot.ensures c.store.new.self c.args.e _ c.place_of-at.ensures.0 c.store.ensures (rw w.nodes-is at c.put_entry.ensures) in
          search rules
    ]
