-- The loop writes what is left to write. Assumes nothing.
use Prim.Native.Nat.{◌+◌, ◌-◌, ◌*◌}
use mathlib.Core.Path.{◌≡◌}
use lib.ListN.{length}
use lib.Seq.{sets}
use Rattle.layout.specs.Layout.{entry_size}
use Rattle.full_question.specs.Table.{entries_from}
use Rattle.full_question.proofs.all.write_entries.Given as goal

abbrev pub invariant-loop-q : goal.invariant-loop-q
invariant-loop-q l = record {
  long : length l.answer ≡ length l.initial.answer;
  writes : sets l.initial.answer l.at (entries_from l.nodes l.table l.found 0 l.n) ≡ sets l.answer (l.at + entry_size * l.q) (entries_from l.nodes l.table l.found l.q (l.n - l.q));
}
