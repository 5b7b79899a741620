use mathlib.Core.Path.{ap}
use mathlib.Core.Bool.{not}
use native.Mathlib.Omega.{arith}
use Rattle.finishing.proofs.Finishes.{entries_fail, entries_turn, entries_end}
use Rattle.finishing.proofs.all_sound.Goals as goal

pub returns-then-not-ongoing_sound : goal.returns-then-not-ongoing_sound
returns-then-not-ongoing_sound c = entries_fail c.args.h.now _ _ c.loop-q.invariant (omega arith) _ c.read_ongoing-o.ensures _ c.ongoing_sound.ensures (ap not c.if-not-ongoing_sound.true)

pub loop-q-preserved : goal.loop-q-preserved
loop-q-preserved c = entries_turn c.args.h.now _ _ c.loop-q.invariant (omega arith) _ c.read_ongoing-o.ensures _ c.ongoing_sound.ensures (ap not c.if-not-ongoing_sound.false)

pub returns : goal.returns
returns c = entries_end c.args.h.now _ _ c.loop-q.invariant (omega arith)
