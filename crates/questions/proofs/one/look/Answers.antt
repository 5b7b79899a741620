use borrow.Author.Rules.{rules}
use Prim.Native.Nat.{ℕ, ◌+◌, ◌-◌, ◌*◌, ◌≤◌}
use mathlib.Core.Path.{◌≡◌, sym, ap, ◌∙◌}
use mathlib.Core.Bool.{Bool, not}
use native.Mathlib.Omega.{arith}
use Rattle.layout.specs.declared.Entry.{Entry}
use Rattle.layout.specs.Layout.{entry_size}
use Rattle.walk.specs.Since.{entry_fits}
use Rattle.questions.specs.Found.{noted}
use Rattle.walk.proofs.Entries.{states_more, spans_told}
use Rattle.walk.proofs.Walks.{sound_turn, sound_stop, sound_done}
use Rattle.questions.proofs.Finds.{noted_yes, noted_no, noted_other, look_turn, look_done}
use Rattle.questions.proofs.one.look.Goals as goal
use Rattle.questions.proofs.one.look.Goals.{then-eq+then-spans, then-eq+else-spans, else-eq}

-- the node's span leads from its start to its end
spanned : (a start end : ℕ) (e : Entry) (f : Bool) → start ≤ end → f ≡ entry_fits a start (start + (end - start)) e → f ≡ entry_fits a start end e
spanned a start end e f le is = is ∙ ap (λ (x : ℕ). entry_fits a start x e) (omega arith)

pub returns-then-not-fits-clause-sound : goal.returns-then-not-fits-clause-sound
returns-then-not-fits-clause-sound c =
    sym (c.loop-i.invariant.sound ∙ sound_stop _ _ _ _ _ _ _ _ _ c.read_entry-e.ensures (spanned _ _ _ _ _ c.requires.2 c.fits.ensures) c.loop-i-test.true (ap not c.if-not-fits.true))

pub loop-i-preserved : goal.loop-i-preserved
loop-i-preserved c =
    let end_fits : c.read_entry-e.result.end ≤ 18446744073709551615 = search rules in
    let l = c.loop-i in
    let e = c.read_entry-e.ensures in
    let lt = c.loop-i-test.true in
    let covered = spans_told _ _ _ _ _ c.fits.ensures (ap not c.if-not-fits.false) _ _ (end_fits) c.since-now.ensures in
    let Is : Type 0 = c.if-eq.s ≡ noted c.args.quark.0 c.args.t (c.args.at + entry_size * l.i) c.read_entry-e.result l.s in
    let is : Is =
    elim c.if-eq.branch [
      | then-eq+then-spans w ↦ noted_yes _ _ _ _ _ _ (search rules) _ (covered _ w.spans.ensures) _ w.more-next.ensures w.if-spans.true w.s-is
      | then-eq+else-spans w ↦ noted_no _ _ _ _ _ _ (search rules) _ (covered _ w.spans.ensures) w.if-spans.false w.s-is
      | else-eq w ↦ noted_other _ _ _ _ _ _ (search rules) w.s-is
    ]
    in
    let next : c.args.at + entry_size * l.i + entry_size ≡ c.args.at + entry_size * (l.i + 1) = omega arith in
    let more = states_more l.nulls c.nulls-nulls.result l.kinds c.kinds-kinds.result c.read_entry-e.result c.kinds-kinds.ensures c.nulls-nulls.ensures in record {
      sound = l.invariant.sound ∙ sound_turn _ _ _ _ _ _ _ _ _ e (spanned _ _ _ _ _ c.requires.2 c.fits.ensures) lt _ more (ap not c.if-not-fits.false) _ next;
      finds = l.invariant.finds ∙ look_turn _ _ _ _ _ _ _ _ _ e is lt _ next;
    }

pub returns-then-nulls-kinds-clause-sound : goal.returns-then-nulls-kinds-clause-sound
returns-then-nulls-kinds-clause-sound c = sym (c.loop-i.invariant.sound ∙ sound_done _ _ _ _ _ _ _ c.loop-i-test.false ∙ c.if-nulls-kinds.true)

pub returns-then-nulls-kinds-clause-finds : goal.returns-then-nulls-kinds-clause-finds
returns-then-nulls-kinds-clause-finds c = sym (c.loop-i.invariant.finds ∙ look_done _ _ _ _ _ _ _ c.loop-i-test.false)

pub returns-else-nulls-kinds-clause-sound : goal.returns-else-nulls-kinds-clause-sound
returns-else-nulls-kinds-clause-sound c = sym (c.loop-i.invariant.sound ∙ sound_done _ _ _ _ _ _ _ c.loop-i-test.false ∙ c.if-nulls-kinds.false)
