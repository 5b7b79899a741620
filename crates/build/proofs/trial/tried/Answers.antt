-- `build::trial::tried` meets its contract. Assumes nothing.
use Rattle.build.proofs.Alone.{tried_alone}
use Rattle.build.proofs.trial.tried.Goals as goal

pub returns : goal.returns
returns c = tried_alone _ _ _ _ _ _ c.insert.ensures.0 c.insert.ensures.1
