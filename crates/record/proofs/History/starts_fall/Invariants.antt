-- `record::History::starts_fall` meets its contract: what is left from the level reached is the whole. Assumes nothing.
use mathlib.Core.Path.{◌≡◌}
use Rattle.record.specs.Sound.{starts_fall}
use Rattle.record.proofs.History.starts_fall.Given as goal

abbrev pub invariant-loop-level : goal.invariant-loop-level
invariant-loop-level l = let h = l.self in starts_fall h.branch l.level h.top ≡ starts_fall h.branch h.low h.top
