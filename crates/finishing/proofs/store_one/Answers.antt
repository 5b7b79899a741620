-- `finishing::store_one` meets its contract: what it leaves to be written stands in one header, and no entry lies there. Assumes nothing.
use mathlib.Core.Path.{◌∙◌}
use Rattle.finishing.proofs.Due.{same_level, over_same, over_other, late_can, late_taken, early_done}
use Rattle.finishing.proofs.store_one.Goals as goal
use Rattle.finishing.proofs.store_one.Goals.{then-ne, else-ne}

pub add-requires : goal.add-requires
add-requires c =
    let p = c.requires in
    let q = c.seek-level.ensures in
    let k = late_can _ c.args.nodes.now c.args.due c.args.e _ c.stretch.ensures _ p.0 _ c.takes.ensures c.if-takes.true q c.if-ne.nodes in
    elim c.if-ne.branch [
      | then-ne w ↦ k (over_other _ _ _ _ _ (w.nodes-is ∙ w.write_due.ensures)) p.1 p.3
      | else-ne w ↦ k (over_same _ _ _ _ p.0 p.1 q.1 q.2 (same_level _ _ _ c.ne.ensures w.if-ne.false) _ w.nodes-is) p.1 p.3
    ]

pub returns-then-takes : goal.returns-then-takes
returns-then-takes c =
    let p = c.requires in
    let q = c.seek-level.ensures in
    let k = late_taken _ c.args.nodes.now c.args.due c.args.e _ c.stretch.ensures _ p.0 _ c.takes.ensures c.if-takes.true q c.if-ne.nodes in
    elim c.if-ne.branch [
      | then-ne w ↦ k (over_other _ _ _ _ _ (w.nodes-is ∙ w.write_due.ensures)) _ _ c.add.ensures
      | else-ne w ↦ k (over_same _ _ _ _ p.0 p.1 q.1 q.2 (same_level _ _ _ c.ne.ensures w.if-ne.false) _ w.nodes-is) _ _ c.add.ensures
    ]

pub returns : goal.returns
returns c = early_done _ c.args.nodes.now _ c.args.e _ c.write_due-2.ensures _ _ c.insert.ensures.1
