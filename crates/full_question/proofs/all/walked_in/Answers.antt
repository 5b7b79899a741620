-- Each `return` cites the law of its way through `walked_full`. Assumes nothing.
use mathlib.Core.Path.{refl, ap, ◌∙◌}
use mathlib.Core.Bool.{not}
use native.Mathlib.Omega.{arith}
use Rattle.full_question.specs.Full.{every_quark, said_all}
use Rattle.full_question.specs.Table.{entries_from}
use Rattle.full_question.proofs.Fulls.{full_entry_lem, full_many, full_told, all_alone, readable, entries_same, all_found}
use Rattle.full_question.proofs.Once.{begun_once}
use Rattle.full_question.proofs.Gathering.{gathered_kept, full_stop}
use Rattle.full_question.proofs.all.walked_in.Goals as goal

pub returns-then-not-note_ongoing : goal.returns-then-not-note_ongoing
unfolding said_all
returns-then-not-note_ongoing c = full_entry_lem _ _ _ _ _ _ _ _ c.note_ongoing.ensures.fine (ap not c.if-not-note_ongoing.true) refl

pub gather-requires : goal.gather-requires
gather-requires c =
    (c.requires.0, c.requires.1, omega (arith, c.requires.1, c.requires.4), begun_once _ _ _ _ c.requires.0 _ c.requires.4 c.requires.5 _ _ c.note_ongoing.ensures.begins (ap not c.if-not-note_ongoing.false) _ c.requires.1)

pub returns-in_default : goal.returns-in_default
unfolding said_all
returns-in_default c =
    let begun = c.note_ongoing.ensures in
    full_stop _ _ _ _ c.requires.0 _ c.requires.4 c.requires.5 _ _ begun.fine begun.begins (ap not c.if-not-note_ongoing.false) _ c.requires.1 c.in_default.ensures.told _ _ _ refl

pub returns-then-not-all_one : goal.returns-then-not-all_one
unfolding said_all
returns-then-not-all_one c =
    let xs = all_found _ _ _ _ _ _ _ _ c.note_ongoing.ensures.begins (ap not c.if-not-note_ongoing.false) c.in-Some.ensures.gathers.1 in
    full_many _ _ _ _ _ _ _ _ c.note_ongoing.ensures.fine (ap not c.if-not-note_ongoing.false) (gathered_kept _ _ _ _ _ c.in-Some.ensures.told) _
    (all_alone _ _ _ _ c.requires.0 _ c.requires.4 c.requires.5 _ xs _ (c.all_one.ensures ∙ ap (every_quark _) c.requires.1)) (ap not c.if-not-all_one.true) refl

pub write_entries-requires : goal.write_entries-requires
write_entries-requires c =
    let xs = all_found _ _ _ _ _ _ _ _ c.note_ongoing.ensures.begins (ap not c.if-not-note_ongoing.false) c.in-Some.ensures.gathers.1 in
    let ones = c.all_one.ensures ∙ ap (every_quark _) c.requires.1 in
    (omega (arith, c.requires.1, c.requires.4), omega (arith, c.requires.1, c.requires.3), λ q h. readable _ _ _ _ c.requires.0 _ c.requires.4 c.requires.5 _ xs _ ones (ap not c.if-not-all_one.false) c.requires.2 q (omega (arith, h, c.requires.1)))

pub returns : goal.returns
unfolding said_all
returns c =
    let y = ap not c.if-not-all_one.false in
    let xs = all_found _ _ _ _ _ _ _ _ c.note_ongoing.ensures.begins (ap not c.if-not-note_ongoing.false) c.in-Some.ensures.gathers.1 in
    let ones = c.all_one.ensures ∙ ap (every_quark _) c.requires.1 in
    let same = ap (entries_from _ _ _ 0) c.requires.1 ∙ entries_same _ _ _ _ c.requires.0 _ c.requires.4 c.requires.5 _ xs _ ones y in
    full_told _ _ _ _ _ _ _ _ c.note_ongoing.ensures.fine (ap not c.if-not-note_ongoing.false) (gathered_kept _ _ _ _ _ c.in-Some.ensures.told) _
    (all_alone _ _ _ _ c.requires.0 _ c.requires.4 c.requires.5 _ xs _ ones) _ y _ c.write_entries.ensures same _ c.in-Some.ensures.gathers.0 refl
