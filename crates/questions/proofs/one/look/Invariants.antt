-- The loop looks at what is left to look at. Assumes nothing.
use Prim.Native.Nat.{◌+◌, ◌-◌, ◌*◌}
use mathlib.Core.Path.{◌≡◌}
use mathlib.Core.Bool.{true, ◌&&◌}
use lib.Dec.{leb, eqb}
use Rattle.layout.specs.Layout.{entry_size}
use Rattle.walk.specs.Walk.{all_sound}
use Rattle.questions.specs.Found.{look}
use Rattle.questions.proofs.one.look.Given as goal

abbrev pub invariant-loop-i : goal.invariant-loop-i
invariant-loop-i l = record {
  sound : all_sound l.nodes l.attributes l.h l.at l.n true ≡ all_sound l.nodes l.attributes l.h (l.at + entry_size * l.i) (l.n - l.i) (eqb l.nulls 0 && leb l.kinds 1);
  finds : look l.nodes l.quark.0 l.t l.at l.n l.found ≡ look l.nodes l.quark.0 l.t (l.at + entry_size * l.i) (l.n - l.i) l.s;
}
