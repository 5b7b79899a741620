-- `layout::write_node` writes a node with its first child. Assumes nothing.
use Rattle.layout.proofs.Encoded.{node_first}
use Rattle.layout.proofs.write_node.Goals as goal

pub returns-in-Some : goal.returns-in-Some
returns-in-Some c =
    node_first _ _ _ _ _ _ c.node_size-size.ensures c.write_empty.ensures _ _ _ c.requires.0 c.requires.1 c.in-Some.is c.child_at.ensures c.put_child.ensures
