use mathlib.Core.Path.{ap}
use mathlib.Core.Bool.{not}
use Rattle.record.proofs.Facts.{sound_small}
use Rattle.record.proofs.History.admit.Goals as goal

pub long_enough-requires : goal.long_enough-requires
long_enough-requires c = sound_small _ _ c.is_sound.ensures (ap not c.if-not-is_sound.false)
