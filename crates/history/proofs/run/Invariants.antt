-- The reader is one of this feed, and what stands before its place is printed.
use Rattle.std.proofs.Common.{◌≡◌}
use Rattle.std.specs.Iterator.Adapters.{enumerate_source, enumerate_count}
use Rattle.history.specs.Step.{state_in}
use Rattle.history.specs.Printed.{held, printed}
use Rattle.history.proofs.Printing.{Gone}
use Rattle.history.proofs.run.Given as goal

abbrev pub invariant-loop-i : goal.invariant-loop-i
invariant-loop-i g l = let feed = enumerate_source l.i-iterator in (feed.bytes.now ≡ l.bytes) × Gone (g.W.Write.contents l.initial.out) (g.W.Write.contents l.out)
    (printed l.bytes (held (state_in l.initial.current) l.initial.nodes l.initial.table l.initial.answer)) l.bytes feed.place (enumerate_count l.i-iterator)
    (held (state_in l.current) l.nodes l.table l.answer)
