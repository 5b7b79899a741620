-- What is known of the history that the accepted calls of a run leave. Assumes nothing.
use Prim.Native.Nat.{ℕ, ◌≤◌}
use mathlib.Core.Bool.{false}
use mathlib.Core.Path.{◌≡◌}
use mathlib.Core.List.{List}
use native.Mathlib.Omega.{arith}
use Rattle.record.specs.Sound.{last_time}
use Rattle.model.specs.State.{Within64}
use Rattle.model.specs.Transient as M
use Rattle.model.specs.Transient.{Call}
use Rattle.model.specs.Theorems.{left, taken, Calls64}
use Rattle.model.proofs.Bounded.{table_within}
use Rattle.model.proofs.Legal.{Legal, legal_accepted}
use Rattle.model.proofs.Running.{running}
use Rattle.model.proofs.Storable.{Storable, storable}
use Rattle.represents.specs.Histories.{Opening, run_of}

-- What is stored is in order, from the start to the latest time, which is below 2^63; until finish every ongoing state began in that span; all values are i64.
pub record Real (l : M.History) : Type 0 where
  pub stored : Storable l
  pub begun : l.finished ≡ false → (q : ℕ) → (l.start ≤ (l.table q).start) × ((l.table q).start ≤ l.latest)
  pub values : (q : ℕ) → Within64 (l.table q).state

module _ (p : Opening) (cs : List Call) (begins : p.start ≤ last_time) where
  pub legal : Legal p.start p.attributes (taken (run_of p cs))
  legal = let r = run_of p cs in legal_accepted r.shape r.room r.entries r.start r.attributes cs (omega arith)

  pub real : Calls64 cs → Real (left (run_of p cs))
  real fit = let r = run_of p cs in record {
    stored = storable p.start p.attributes (taken r) legal;
    begun = λ d q. let f = (running p.start p.attributes (taken r) legal d).each q in (f.begun, f.upto);
    values = table_within r.shape r.room r.entries r.start r.attributes cs fit;
  }
