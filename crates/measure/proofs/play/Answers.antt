use Rattle.measure.specs.Measure.{turns}
use Rattle.measure.proofs.Plays.{play_begins, play_turn, play_ends}
use Rattle.measure.proofs.play.Goals as goal

pub loop-i-init : goal.loop-i-init
loop-i-init c = play_begins _ _

pub loop-i-preserved : goal.loop-i-preserved
unfolding turns
loop-i-preserved c =
    play_turn _ _ _ _ c.loop-i.invariant _ c.min-turns.ensures c.loop-i-test.true _ c.read_entry-e.ensures _ c.step.ensures

pub returns : goal.returns
unfolding turns
returns c = play_ends _ _ _ _ c.loop-i.invariant _ c.min-turns.ensures c.loop-i-test.false
