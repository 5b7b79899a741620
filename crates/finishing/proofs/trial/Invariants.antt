-- `finishing::trial` meets its contract: what is left of the trial from the record reached is the whole. Assumes nothing.
use Prim.Native.Nat.{◌-◌}
use mathlib.Core.Path.{◌≡◌}
use Rattle.record.specs.Firm.{Firm}
use Rattle.calls.specs.Finish.{trial}
use Rattle.finishing.proofs.trial.Given as goal

abbrev pub invariant-loop-q : goal.invariant-loop-q
invariant-loop-q l = let n = l.initial.g.attributes in Firm l.g × (trial (n - l.q) l.q l.table l.t l.g ≡ trial n 0 l.table l.t l.initial.g)
