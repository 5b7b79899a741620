-- `finishing::all_sound` meets its contract: what is left from the entry reached is the whole. Assumes nothing.
use mathlib.Core.Path.{◌≡◌}
use Rattle.finishing.proofs.Finishes.{sound_from}
use Rattle.finishing.proofs.all_sound.Given as goal

abbrev pub invariant-loop-q : goal.invariant-loop-q
invariant-loop-q l = let from = sound_from l.h.start l.h.latest l.h.attributes l.table in from l.q ≡ from 0
