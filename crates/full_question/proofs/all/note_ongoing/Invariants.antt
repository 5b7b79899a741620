-- The loop stops at the first ongoing entry that is not sound. Assumes nothing.
use Prim.Native.Nat.{◌-◌}
use mathlib.Core.Path.{◌≡◌}
use mathlib.Core.Bool.{true}
use lib.ListN.{length}
use Rattle.questions.specs.Single.{entry_fine}
use Rattle.full_question.specs.Full.{every_quark}
use Rattle.full_question.specs.Table.{begun_from}
use Rattle.full_question.proofs.all.note_ongoing.Given as goal

abbrev pub invariant-loop-q : goal.invariant-loop-q
invariant-loop-q l = record {
  long : length l.found ≡ length l.initial.found;
  fine : every_quark (λ k. entry_fine l.v k l.table) l.q ≡ true;
  begins : begun_from l.table l.t 0 l.v.attributes l.initial.found ≡ begun_from l.table l.t l.q (l.v.attributes - l.q) l.found;
}
