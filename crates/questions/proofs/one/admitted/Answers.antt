-- Each `return` cites the law of its way through `view_single`. Assumes nothing.
use mathlib.Core.Path.{refl, ap}
use Rattle.walk.specs.View.{view_of}
use Rattle.questions.specs.Single.{said}
use Rattle.walk.proofs.Room.{table_in}
use Rattle.questions.proofs.Singles.{view_finished, view_unsound, view_table, view_walked}
use mathlib.Core.Bool.{not}
use Rattle.questions.proofs.one.admitted.Goals as goal

pub returns-then-h : goal.returns-then-h
unfolding view_of said
returns-then-h c = view_finished _ _ _ _ _ _ c.if-h.true c.walked_from.ensures

pub read_ongoing-o-requires : goal.read_ongoing-o-requires
unfolding view_of said
read_ongoing-o-requires c =
    table_in _ _ _ c.requires.2 (c.requires.3 c.if-h.false)

pub returns-then-not-ongoing_sound : goal.returns-then-not-ongoing_sound
unfolding view_of said
returns-then-not-ongoing_sound c =
    view_unsound _ _ _ _ _ _ _ _ c.if-h.false c.read_ongoing-o.ensures c.ongoing_sound.ensures (ap not c.if-not-ongoing_sound.true) refl

pub returns-then-o-t : goal.returns-then-o-t
unfolding view_of said
returns-then-o-t c =
    view_table _ _ _ _ _ _ _ _ c.if-h.false c.read_ongoing-o.ensures c.ongoing_sound.ensures _ (ap not c.if-not-ongoing_sound.false) c.if-o-t.true c.ongoing_entry-entry.ensures refl

pub returns : goal.returns
unfolding view_of said
returns c =
    view_walked _ _ _ _ _ _ _ _ c.if-h.false c.read_ongoing-o.ensures c.ongoing_sound.ensures (ap not c.if-not-ongoing_sound.false) c.if-o-t.false c.walked_from-2.ensures
