-- `build::write::close_all` meets its contract: what is left to close gives the same bytes as the whole. Assumes nothing.
use Prim.Native.Nat.{◌+◌, ◌-◌}
use mathlib.Core.Path.{◌≡◌}
use Rattle.build.specs.Write.{close_all}
use Rattle.build.proofs.write.close_all.Given as goal

abbrev pub invariant-loop-level : goal.invariant-loop-level
invariant-loop-level l = let h = l.h in close_all h l.t (h.top + 1 - h.low) h.low l.initial.nodes ≡ close_all h l.t (h.top + 1 - l.level) l.level l.nodes
