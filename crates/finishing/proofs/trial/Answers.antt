use native.Mathlib.Omega.{arith}
use Rattle.record.proofs.Said.{handed_on, refused}
use Rattle.finishing.proofs.Finishes.{trial_begin, trial_stops, trial_turn, trial_firm, trial_end}
use Rattle.finishing.proofs.trial.Goals as goal

pub loop-q-init : goal.loop-q-init
loop-q-init c = (c.requires.0, trial_begin _ _ _ _)

pub returns-in_err-tried : goal.returns-in_err-tried
returns-in_err-tried c =
    rw (handed_on _ _ _ c.in_err-tried.was c.from_residual.ensures.1)
    (trial_stops _ _ _ _ _ _ c.loop-q.invariant.1 (omega arith) _ c.read_ongoing-o.ensures _ c.tried.ensures.0 (refused _ _ c.in_err-tried.was))

pub loop-q-preserved : goal.loop-q-preserved
loop-q-preserved c = let e = c.tried.ensures in (
  trial_firm _ _ _ _ e.1 c.loop-q.invariant.0 c.requires.3,
  trial_turn _ _ _ _ _ _ c.loop-q.invariant.1 (omega arith) _ c.read_ongoing-o.ensures _ e.0 c.in_ok-tried.was _ e.1,
)

pub returns : goal.returns
returns c = trial_end _ _ _ _ _ _ c.loop-q.invariant.1 (omega arith)
