use Rattle.measure.proofs.Zeros.{made_finished}
use Rattle.measure.proofs.finished.Goals as goal

pub returns : goal.returns
returns c =
    made_finished _ c.default.result c.default.ensures _ _ _ _ _ _ _ _ _ _ _ _ c.from.ensures c.from-2.ensures c.from-5.ensures c.from-3.ensures c.from-4.ensures
