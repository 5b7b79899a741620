use borrow.Author.Rules.{rules}
use Prim.Native.Nat.{◌+◌, ◌*◌, ◌≤◌}
use mathlib.Core.Path.{◌≡◌, refl, sym, ap, ◌∙◌}
use native.Mathlib.Omega.{arith}
use lib.ListN.{length}
use Rattle.layout.specs.Layout.{entry_size}
use Rattle.walk.specs.Walk.{all_sound}
use Rattle.full_question.specs.Table.{once}
use Rattle.walk.proofs.Entries.{states_more, known_quark, covers_told}
use Rattle.walk.proofs.Walks.{sound_turn, sound_stop, sound_done}
use Rattle.full_question.proofs.Tables.{length_note, note_told, all_turn, all_done}
use Rattle.full_question.proofs.Once.{once_first, once_second, both_first, both_second, both_done}
use mathlib.Core.Bool.{not}
use Rattle.full_question.proofs.all.look.Goals as goal

pub returns-then-not-lies-clause-told : goal.returns-then-not-lies-clause-told
returns-then-not-lies-clause-told c =
    both_first _ _ (c.loop-i.invariant.sound ∙ sound_stop _ _ _ _ _ _ _ _ _ c.read_entry-e.ensures c.lies.ensures c.loop-i-test.true (ap not c.if-not-lies.true))

pub note-requires : goal.note-requires
note-requires c =
    let inv = c.loop-i.invariant in
    let known = known_quark _ _ _ _ _ c.lies.ensures (ap not c.if-not-lies.false) in
    (omega arith, omega (arith, inv.long))

pub returns-then-not-note-clause-told : goal.returns-then-not-note-clause-told
returns-then-not-note-clause-told c =
    let end_fits : c.read_entry-e.result.end ≤ 18446744073709551615 = search rules in
    let inv = c.loop-i.invariant in
    let lies = c.lies.ensures in
    let told = covers_told _ _ _ _ _ lies (ap not c.if-not-lies.false) c.args.t _ (end_fits) refl in
    let second = once_second _ _ _ _ _ inv.ones (known_quark _ _ _ _ _ lies (ap not c.if-not-lies.false)) (omega (arith, inv.long)) (omega arith) _ _ told c.note.ensures.told _ _ _ c.read_entry-e.ensures c.loop-i-test.true (ap not c.if-not-note.true) in
    both_second (all_sound _ _ _ _ _ _) _ (ap (once _) inv.notes ∙ second)

pub loop-i-preserved : goal.loop-i-preserved
loop-i-preserved c =
    let end_fits : c.read_entry-e.result.end ≤ 18446744073709551615 = search rules in
    let l = c.loop-i in
    let inv = l.invariant in
    let e = c.read_entry-e.ensures in
    let lt = c.loop-i-test.true in
    let lies = c.lies.ensures in
    let told = covers_told _ _ _ _ _ lies (ap not c.if-not-lies.false) c.args.t _ (end_fits) refl in
    let notes = note_told _ _ _ _ _ _ told (c.note.ensures.notes c.if-not-note.false) in
    let next : c.args.at + entry_size * l.i + entry_size ≡ c.args.at + entry_size * (l.i + 1) = omega arith in
    let more = states_more l.nulls c.nulls-nulls.result l.kinds c.kinds-kinds.result c.read_entry-e.result c.kinds-kinds.ensures c.nulls-nulls.ensures in record {
      long = ap length notes ∙ length_note _ _ _ _ ∙ inv.long;
      sound = inv.sound ∙ sound_turn _ _ _ _ _ _ _ _ _ e lies lt _ more (ap not c.if-not-lies.false) _ next;
      notes = inv.notes ∙ all_turn _ _ _ _ _ _ _ _ e notes lt _ next;
      ones = once_first _ _ _ _ _ inv.ones (known_quark _ _ _ _ _ lies (ap not c.if-not-lies.false)) (omega (arith, inv.long)) (omega arith) _ _ told c.note.ensures.told _ (ap not c.if-not-note.false) notes;
    }

pub returns-clause-told : goal.returns-clause-told
returns-clause-told c =
    let inv = c.loop-i.invariant in
    let noted = inv.notes ∙ all_done _ _ _ _ _ _ c.loop-i-test.false in
    both_done _ _ _ (inv.sound ∙ sound_done _ _ _ _ _ _ _ c.loop-i-test.false) (ap (once _) noted ∙ inv.ones)

pub returns-clause-notes : goal.returns-clause-notes
returns-clause-notes c e = sym (c.loop-i.invariant.notes ∙ all_done _ _ _ _ _ _ c.loop-i-test.false)
