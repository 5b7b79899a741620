-- `record::History::apart` meets its contract: what is left from the level reached is the whole. Assumes nothing.
use Prim.Native.Nat.{◌-◌}
use mathlib.Core.Path.{◌≡◌}
use Rattle.record.specs.Sound.{apart}
use Rattle.record.proofs.Runs.{apart_from}
use Rattle.record.proofs.History.apart.Given as goal

abbrev pub invariant-loop-above : goal.invariant-loop-above
invariant-loop-above l = apart_from l.self.branch l.level l.self.top l.above ≡ apart l.self.branch l.level (l.self.top - l.level)
