-- `measure::play` meets its contract: what is left to carry out from the call reached is the whole. Assumes nothing.
use Rattle.measure.specs.Measure.{state}
use Rattle.measure.proofs.Plays.{Left}
use Rattle.measure.proofs.play.Given as goal

abbrev pub invariant-loop-i : goal.invariant-loop-i
invariant-loop-i l =
    Left l.script (state l.initial.h l.initial.nodes l.initial.table l.initial.answer l.initial.said) l.i (state l.h l.nodes l.table l.answer l.said)
