-- Finish: its trial and its storing, attribute by attribute, are those of the model's last intervals. Assumes nothing.
use Prim.Native.Nat.{ℕ, zero, suc, ◌+◌, ◌≤◌, ◌<◌}
use mathlib.Core.Bool.{Bool, true, false, cond}
use mathlib.Core.Path.{◌≡◌, refl, sym, ap, ◌∙◌}
use mathlib.Core.List.{List, [], ◌∷◌, reverse, reverse_aux}
use native.Mathlib.Numerals.{add-one}
use native.Mathlib.Nat.{add-zero, zero-add}
use native.Mathlib.Omega.{arith}
use lib.ListN.{length}
use Rattle.layout.specs.declared.Entry.{Entry}
use Rattle.record.specs.declared.History.{History}
use Rattle.record.specs.Refusals.{Reply, accepted}
use Rattle.record.specs.Sound.{all}
use Rattle.transient.specs.declared.Ongoing.{Ongoing}
use Rattle.transient.specs.Transient.{ongoing_at, interval}
use Rattle.build.specs.Moves.{Held}
use Rattle.build.specs.Write.{inserted}
use Rattle.build.specs.Trial.{tried}
use Rattle.build.specs.Carried.{Alike}
use Rattle.build.proofs.Climbs.{alike_over}
use Rattle.build.proofs.Inserted.{inserted_alike}
use Rattle.build.proofs.Steps.{inserted_length}
use Rattle.calls.specs.Finish.{trial, stored_from}
use Rattle.model.specs.Transient as M
use Rattle.model.specs.Transient.{Interval, last_intervals}
use Rattle.model.specs.Nodes.{∞}
use Rattle.model.proofs.Legal.{Sanes}
use Rattle.represents.specs.Represents.{entry_of}
use Rattle.represents.specs.Run.{tried_all, inserted_all, Early}
use Rattle.represents.specs.Histories.{ongoing_of}

-- ---- several tests at once

pub all_each : (p : ℕ → Bool) (i n : ℕ) → ((j : ℕ) → j < i + n → p j ≡ true) → all p i n ≡ true
unfolding all
all_each p i zero e = refl
all_each p i (suc n) e = ap (λ (x : Bool). cond x (all p (i + 1) n) false) (e i (omega arith)) ∙ all_each p (i + 1) n (λ j lt. e j (omega arith))

-- ---- "in quark order, every ongoing interval with end T"

module _ (f : ℕ → M.Ongoing) (T : ℕ) where
  abbrev pub lasting : ℕ → Interval
  lasting q = record { quark = q; state = (f q).state; start = (f q).start; end = T }

  -- those of n attributes from q on, the first one first
  abbrev pub last_from : ℕ → ℕ → List Interval
  last_from zero q = []
  last_from (suc n) q = lasting q ∷ last_from n (q + 1)

  last_reversed : (n q : ℕ) → reverse_aux (last_from n q) (last_intervals f T q) ≡ last_intervals f T (q + n)
  last_reversed zero q = ap (last_intervals f T) (sym (add-zero q))
  last_reversed (suc n) q =
      let e : q + 1 + n ≡ q + suc n = omega arith in
      ap (λ (z : ℕ). reverse_aux (last_from n (q + 1)) (last_intervals f T z)) (sym (add-one q)) ∙ last_reversed n (q + 1) ∙ ap (last_intervals f T) e

  -- the model has the latest first
  pub last_all : (n : ℕ) → reverse (last_from n 0) ≡ last_intervals f T n
  last_all n = last_reversed n 0 ∙ ap (last_intervals f T) (zero-add n)

  pub last_sane : (o n q : ℕ) → ((x : ℕ) → (o ≤ (f x).start) × ((f x).start ≤ T)) → Sanes o (last_from n q)
  last_sane o zero q h = tt
  last_sane o (suc n) q h = (h q, last_sane o n (q + 1) h)

  pub last_early : (n q : ℕ) → T < ∞ → Early (last_from n q)
  last_early zero q h = tt
  last_early (suc n) q h = (h, last_early n (q + 1) h)

  module _ (table : List ℕ) (many : ℕ) (each : (q : ℕ) → q < many → ongoing_at table q ≡ ongoing_of (f q)) where
    pub trial_all : (n q : ℕ) (h : History) → q + n ≤ many → trial n q table T h ≡ tried_all (last_from n q) h
    unfolding trial tried_all
    trial_all zero q h le = refl
    trial_all (suc n) q h le =
        let e : (ongoing_at table q).start ≡ (f q).start = ap (λ (o : Ongoing). o.start) (each q (omega arith)) in
        let r = tried h (f q).start T in
        (λ i. let r = tried h (e i) T in cond (accepted r.refusal) (trial n (q + 1) table T r.history) r.refusal)
        ∙ ap (λ (z : Reply). cond (accepted r.refusal) z r.refusal) (trial_all n (q + 1) r.history (omega arith))

    entry_is : (q : ℕ) → q < many → interval (record { 0 = q }) (ongoing_at table q) T ≡ entry_of (lasting q)
    unfolding interval
    entry_is q lt = ap (λ (o : Ongoing). interval (record { 0 = q }) o T) (each q lt)

    pub stored_all : (n q : ℕ) (σ : Held) → q + n ≤ many → stored_from n q table T σ ≡ inserted_all (last_from n q) σ
    unfolding stored_from inserted_all
    stored_all zero q σ le = refl
    stored_all (suc n) q σ le =
        ap (λ (x : Entry). stored_from n (q + 1) table T (inserted x σ)) (entry_is q (omega arith)) ∙ stored_all n (q + 1) (inserted (entry_of (lasting q)) σ) (omega arith)

-- ---- what storing keeps

pub all_alike : (xs : List Interval) (σ : Held) → Alike σ.history (inserted_all xs σ).history
unfolding inserted_all
all_alike [] σ = record { shape = refl; start = refl; latest = refl; attributes = refl; finished = refl }
all_alike (x ∷ later) σ =
    alike_over σ.history (inserted (entry_of x) σ).history (inserted_all later (inserted (entry_of x) σ)).history (inserted_alike σ.history σ.nodes (entry_of x))
    (all_alike later (inserted (entry_of x) σ))

pub all_length : (xs : List Interval) (σ : Held) → length (inserted_all xs σ).nodes ≡ length σ.nodes
unfolding inserted_all
all_length [] σ = refl
all_length (x ∷ later) σ = all_length later (inserted (entry_of x) σ) ∙ inserted_length (entry_of x) σ
