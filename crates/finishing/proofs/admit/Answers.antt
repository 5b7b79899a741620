-- `finishing::admit` meets its contract: each way cites its law. Assumes nothing.
use mathlib.Core.Path.{ap}
use mathlib.Core.Bool.{not}
use Rattle.record.proofs.Said.{handed_on, refused}
use Rattle.finishing.proofs.Finishes.{entries_inside, trial_needs, finish_unadmitted, finish_finished, finish_damaged, finish_outside, finish_early, finish_tried}
use Rattle.finishing.proofs.admit.Goals as goal

pub returns-in_err-admit : goal.returns-in_err-admit
returns-in_err-admit c = rw (handed_on _ _ _ c.in_err-admit.was c.from_residual.ensures.1) (finish_unadmitted _ _ _ _ _ c.admit.ensures (refused _ _ c.in_err-admit.was))

pub returns-then-h : goal.returns-then-h
returns-then-h c = finish_finished _ _ _ _ _ c.admit.ensures c.in_ok-admit.was c.if-h.true

pub all_sound-requires : goal.all_sound-requires
all_sound-requires c = entries_inside _ _ _ _ c.admit.ensures c.in_ok-admit.was c.if-h.false

pub returns-then-not-all_sound : goal.returns-then-not-all_sound
returns-then-not-all_sound c = finish_damaged _ _ _ _ _ c.admit.ensures c.in_ok-admit.was c.if-h.false _ c.all_sound.ensures (ap not c.if-not-all_sound.true)

pub returns-then-t-gt-LAST_TIME : goal.returns-then-t-gt-LAST_TIME
returns-then-t-gt-LAST_TIME c =
    finish_outside _ _ _ _ _ c.admit.ensures c.in_ok-admit.was c.if-h.false _ c.all_sound.ensures (ap not c.if-not-all_sound.false) c.if-t-gt-LAST_TIME.true

pub returns-then-t-h : goal.returns-then-t-h
returns-then-t-h c =
    finish_early _ _ _ _ _ c.admit.ensures c.in_ok-admit.was c.if-h.false _ c.all_sound.ensures (ap not c.if-not-all_sound.false) c.if-t-gt-LAST_TIME.false c.if-t-h.true

pub trial-requires : goal.trial-requires
trial-requires c = trial_needs _ _ _ _ c.admit.ensures c.in_ok-admit.was c.if-h.false _ c.if-t-gt-LAST_TIME.false

pub returns : goal.returns
returns c =
    finish_tried _ _ _ _ _ c.admit.ensures c.in_ok-admit.was c.if-h.false _ c.all_sound.ensures (ap not c.if-not-all_sound.false) c.if-t-gt-LAST_TIME.false c.if-t-h.false _ c.trial.ensures
