use Prim.Native.Nat.{◌+◌}
use mathlib.Core.Path.{ap}
use mathlib.Core.Bool.{not}
use native.Mathlib.Omega.{arith}
use Rattle.record.proofs.Runs.{level_fails, places_fail, levels_turn, levels_end}
use Rattle.record.proofs.History.levels_sound.Goals as goal

pub returns-then-not-level_sound : goal.returns-then-not-level_sound
returns-then-not-level_sound c = level_fails _ _ _ _ _ _ c.loop-level.invariant (omega arith) _ c.level_sound.ensures (ap not c.if-not-level_sound.true)

pub returns-then-not-apart : goal.returns-then-not-apart
returns-then-not-apart c = places_fail _ _ _ _ _ _ c.loop-level.invariant (omega arith) _ c.level_sound.ensures (ap not c.if-not-level_sound.false) _ c.apart.ensures (ap not c.if-not-apart.true)

pub loop-level-preserved : goal.loop-level-preserved
loop-level-preserved c = levels_turn _ _ _ _ _ _ c.loop-level.invariant (omega arith) _ c.level_sound.ensures (ap not c.if-not-level_sound.false) _ c.apart.ensures (ap not c.if-not-apart.false)

-- the last turn
pub returns-else-not-apart : goal.returns-else-not-apart
returns-else-not-apart c =
    levels_end _ _ _ _ _ (c.loop-level.level + 1)
    (levels_turn _ _ _ _ _ _ c.loop-level.invariant (omega arith) _ c.level_sound.ensures (ap not c.if-not-level_sound.false) _ c.apart.ensures (ap not c.if-not-apart.false))
    (omega arith)
