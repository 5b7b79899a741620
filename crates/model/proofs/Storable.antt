-- What a history has stored may be stored: in order, not before its start, not after its latest time.
use Prim.Native.Nat.{ℕ, zero, suc, ◌^◌, ◌≤◌, ◌<◌}
use mathlib.Core.Bool.{false}
use mathlib.Core.Path.{◌≡◌, refl}
use mathlib.Core.List.{List, [], ◌∷◌, ◌++◌}
use native.Mathlib.Omega.{arith}
use Rattle.model.specs.Transient.{Interval, Call, change, add, finish, Ongoing, History, last_intervals, stores, step, history}
use Rattle.model.proofs.Legal.{Sanes, Legal}
use Rattle.model.proofs.Running.{running, Capped, capped_mono}

last_intervals_sane : (s T : ℕ) (f : ℕ → Ongoing) (n : ℕ) (r : List Interval) → ((q : ℕ) → (s ≤ (f q).start) × ((f q).start ≤ T)) → Sanes s r
    → Capped T r → Sanes s (last_intervals f T n ++ r) × Capped T (last_intervals f T n ++ r)
last_intervals_sane s T f zero r h a b = (a, b)
last_intervals_sane s T f (suc n) r h a b = let i = last_intervals_sane s T f n r h a b in ((h n, i.0), (omega arith, i.1))

-- What is stored may be stored: in order, not before the start, not after the latest time, which is below 2^63.
pub record Storable (l : History) : Type 0 where
  pub sane : Sanes l.start l.stored
  pub capped : Capped l.latest l.stored
  pub low : l.start ≤ l.latest
  pub high : l.latest < 2 ^ 63

latest_high : (s n : ℕ) (cs : List Call) → Legal s n cs → (history s n cs).latest < 2 ^ 63
unfolding Legal history step
latest_high s n [] k = k
latest_high s n (change τ x c ∷ cs) k = k.3
latest_high s n (add ∷ cs) k = latest_high s n cs k.1
latest_high s n (finish τ ∷ cs) k = k.2

storable_running : (s n : ℕ) (cs : List Call) → Legal s n cs → (history s n cs).finished ≡ false → Storable (history s n cs)
storable_running s n cs k d = let r = running s n cs k d in record { sane = r.sane; capped = r.capped; low = r.low; high = latest_high s n cs k }

pub storable : (s n : ℕ) (cs : List Call) → Legal s n cs → Storable (history s n cs)
unfolding Legal history step stores
storable s n [] k = storable_running s n [] k refl
storable s n (change τ x c ∷ cs) k = storable_running s n (change τ x c ∷ cs) k k.0
storable s n (add ∷ cs) k = storable_running s n (add ∷ cs) k k.0
storable s n (finish τ ∷ cs) k =
    let r = running s n cs k.3 k.0 in let l = history s n cs in
    let o : (q : ℕ) → (l.start ≤ (l.table q).start) × ((l.table q).start ≤ τ) = λ q. ((r.each q).begun, omega (arith, (r.each q).upto, k.1)) in
    let c = capped_mono l.latest τ l.stored k.1 r.capped in
    let i = last_intervals_sane l.start τ l.table l.attributes l.stored o r.sane c in
    record { sane = i.0; capped = i.1; low = omega (arith, r.low, k.1); high = k.2 }
