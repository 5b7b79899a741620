-- The loop looks at what is left to look at. Assumes nothing.
use Prim.Native.Nat.{◌+◌, ◌-◌, ◌*◌}
use mathlib.Core.Path.{◌≡◌}
use mathlib.Core.Bool.{true, ◌&&◌}
use lib.Dec.{leb, eqb}
use lib.ListN.{length}
use Rattle.layout.specs.Layout.{entry_size}
use Rattle.walk.specs.Walk.{all_sound}
use Rattle.full_question.specs.Table.{note_all, once}
use Rattle.full_question.proofs.all.look.Given as goal

abbrev pub invariant-loop-i : goal.invariant-loop-i
invariant-loop-i l = record {
  long : length l.found ≡ length l.initial.found;
  sound : all_sound l.nodes l.attributes l.h l.at l.n true ≡ all_sound l.nodes l.attributes l.h (l.at + entry_size * l.i) (l.n - l.i) (eqb l.nulls 0 && leb l.kinds 1);
  notes : note_all l.nodes l.t l.at l.n l.initial.found ≡ note_all l.nodes l.t (l.at + entry_size * l.i) (l.n - l.i) l.found;
  ones : once l.attributes l.found ≡ true;
}
