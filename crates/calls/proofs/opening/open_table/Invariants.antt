-- `calls::opening::open_table` meets its contract: what is left to write from the entry reached is the whole. Assumes nothing.
use Prim.Native.Nat.{◌-◌}
use mathlib.Core.Path.{◌≡◌}
use Rattle.calls.specs.Open.{table_opened}
use Rattle.calls.proofs.opening.open_table.Given as goal

abbrev pub invariant-loop-q : goal.invariant-loop-q
invariant-loop-q l = table_opened l.start (l.attributes - l.q) l.q l.table ≡ table_opened l.start l.attributes 0 l.initial.table
