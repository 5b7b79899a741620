-- `record::History::levels_sound` meets its contract: what is left from the level reached is the whole. Assumes nothing.
use mathlib.Core.Path.{◌≡◌}
use Rattle.record.specs.Sound.{levels_sound}
use Rattle.record.proofs.History.levels_sound.Given as goal

abbrev pub invariant-loop-level : goal.invariant-loop-level
invariant-loop-level l = let h = l.self in levels_sound h.branch h.shape h.used l.level h.top ≡ levels_sound h.branch h.shape h.used h.low h.top
