-- What is printed of a full question was written.
use Rattle.std.proofs.Common.{rules}
use Rattle.history.specs.Step.{state_in}
use Rattle.history.proofs.Entries.{carried_entries}
use Rattle.history.proofs.turn.Goals as goal

pub shown-requires : goal.shown-requires
shown-requires g c = rw c.attributes.ensures (carried_entries (state_in c.args.current.now) c.args.nodes.now c.args.table.now c.args.answer.now _ _ _ _ _ _ c.carry_out-x.ensures (search rules))
