use mathlib.Core.Path.{refl, sym, ap, ◌∙◌}
use native.Mathlib.Nat.{sub-zero}
use native.Mathlib.Omega.{arith}
use lib.ListN.{length}
use Rattle.questions.specs.Single.{entry_fine}
use Rattle.full_question.specs.Full.{every_quark}
use Rattle.full_question.proofs.Tables.{length_begun, begun_turn, begun_done}
use Rattle.full_question.proofs.Fulls.{every_none, every_more, every_false, fine_at, fine_finished, begun_finished, begun_unfinished}
use Rattle.full_question.proofs.all.note_ongoing.Goals as goal

pub returns-then-v : goal.returns-then-v
returns-then-v c = record { fine = sym (fine_finished _ _ c.if-v.true); begins = λ e. begun_finished _ _ _ _ c.if-v.true }

pub loop-q-init : goal.loop-q-init
loop-q-init c = record { long = refl; fine = every_none _; begins = rw sub-zero }

pub returns-then-not-ongoing_sound-clause-fine : goal.returns-then-not-ongoing_sound-clause-fine
returns-then-not-ongoing_sound-clause-fine c =
    let a = c.args in
    let e = fine_at _ _ _ _ _ c.if-v.false c.read_ongoing-o.ensures c.ongoing_sound.ensures ∙ c.if-not-ongoing_sound.true in
    sym (every_false (λ k. entry_fine a.v k a.table.now) _ _ c.loop-q-test.true e)

pub loop-q-preserved : goal.loop-q-preserved
loop-q-preserved c =
    let a = c.args in
    let inv = c.loop-q.invariant in record {
      long = ap length c.begin.ensures ∙ length_begun _ _ _ _ ∙ inv.long;
      fine = every_more (λ c. entry_fine a.v c a.table.now) _ inv.fine (fine_at _ _ _ _ _ c.if-v.false c.read_ongoing-o.ensures c.ongoing_sound.ensures ∙ c.if-not-ongoing_sound.false);
      begins = inv.begins ∙ begun_turn _ _ _ _ _ _ _ c.read_ongoing-o.ensures c.begin.ensures c.loop-q-test.true;
    }

pub returns : goal.returns
returns c =
    let a = c.args in
    let inv = c.loop-q.invariant in record {
      fine = sym inv.fine ∙ ap (every_quark (λ k. entry_fine a.v k a.table.now)) (omega arith);
      begins = λ z. sym (begun_unfinished _ _ _ _ c.if-v.false ∙ inv.begins ∙ begun_done _ _ _ _ _ c.loop-q-test.false);
    }
