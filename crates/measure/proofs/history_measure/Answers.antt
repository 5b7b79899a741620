use Rattle.measure.proofs.Plays.{measure_done}
use Rattle.measure.proofs.Zeros.{made_zeros}
use Rattle.measure.proofs.history_measure.Goals as goal

pub returns : goal.returns
returns c =
    measure_done _ _ _ _ _ _ _ _ _ _ _ (made_zeros _ c.default.result c.default.ensures _) _ _ _ _ c.open-r.ensures _ _ _ _ _ c.play.ensures _ c.number.ensures
