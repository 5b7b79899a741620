-- `settle::seek` meets its contract: what is left to look through gives the same level as the whole. Assumes nothing.
use Prim.Native.Nat.{◌-◌}
use mathlib.Core.Path.{◌≡◌}
use Rattle.settle.specs.Settle.{lowest}
use Rattle.settle.proofs.seek.Given as goal

abbrev pub invariant-loop-level : goal.invariant-loop-level
invariant-loop-level l = lowest (l.h.top - l.level) l.h.branch l.s l.level ≡ lowest (l.h.top - l.h.low) l.h.branch l.s l.h.low
