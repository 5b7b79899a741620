-- The entries before q are printed.
use Rattle.std.proofs.Common.{◌≤◌}
use Rattle.std.specs.Io.KnownBytes.{Appends}
use Rattle.history.specs.Text.{attributes}
use Rattle.history.proofs.print.attributes.Given as goal

abbrev pub invariant-loop-q : goal.invariant-loop-q
invariant-loop-q g l = (l.q ≤ l.n) × Appends (g.W.Write.contents l.initial.out) (g.W.Write.contents l.out) (attributes l.q l.answer)
