use Rattle.record.proofs.Runs.{starts_fail, starts_turn, starts_end}
use Rattle.record.proofs.History.starts_fall.Goals as goal

pub returns-then-self-i : goal.returns-then-self-i
returns-then-self-i c = search starts_fail

pub loop-level-preserved : goal.loop-level-preserved
loop-level-preserved c = search starts_turn

pub returns : goal.returns
returns c = search starts_end
