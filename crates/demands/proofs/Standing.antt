-- What a sequence of calls leaves stands for its calls, and its accepted calls are those that the model accepts. Assumes nothing.
use Prim.Native.Nat.{ℕ}
use mathlib.Core.Bool.{Bool, true, false, cond, false≢true}
use mathlib.Core.Path.{◌≡◌, refl, sym, ap, subst, ◌∙◌}
use mathlib.Core.List.{List, [], ◌∷◌, ◌++◌}
use lib.Dec.{eqb}
use Rattle.std.specs.Prelude.{Ok, Err}
use Rattle.record.specs.declared.Refusal.TheVariants as V
use Rattle.record.specs.Refusals.{Reply, number_of, accepted}
use Rattle.record.specs.Refusals as R
use Rattle.calls.specs.Outcome.{Outcome}
use Rattle.calls.specs.Open.{open_of}
use Rattle.model.specs.Transient as M
use Rattle.model.specs.Refusals as MR
use Rattle.model.specs.Theorems as T
use Rattle.model.specs.Theorems.{Calls64}
use Rattle.represents.specs.Histories.{Opening, run_of, Stands}
use Rattle.represents.specs.Calls.{outcome_of}
use Rattle.represents.specs.Theorems.{opening_of}
use Rattle.represents.proofs.Proved.{open_stands, call_answers, call_stands}
use Rattle.demands.specs.Runs.{Call, opening, set, remove, increment, add, finish, single, full, State, Answer, says, if_begun, follows, told, answered as asks, step, run}
use Rattle.demands.specs.Sequences.{modelled, accepted_of, begins, One, Fits, AllFit, Sequence, first, now, taken}
use Rattle.demands.proofs.Kept.{refused_keeps}

-- a number is 0 where the call is accepted
zero_accepted : (r : Reply) → eqb (number_of r) 0 ≡ accepted r
unfolding number_of
zero_accepted (Ok u) = refl
zero_accepted (Err V.Numbers) = refl
zero_accepted (Err V.Short) = refl
zero_accepted (Err V.Damaged) = refl
zero_accepted (Err V.Finished) = refl
zero_accepted (Err V.Early) = refl
zero_accepted (Err V.Outside) = refl
zero_accepted (Err V.NoQuark) = refl
zero_accepted (Err V.TableFull) = refl
zero_accepted (Err V.Top) = refl
zero_accepted (Err V.Deep) = refl
zero_accepted (Err V.NoRoom) = refl
zero_accepted (Err V.NoTag) = refl
zero_accepted (Err V.WrongLength) = refl
zero_accepted (Err V.Cut) = refl
zero_accepted (Err V.NotOpen) = refl
zero_accepted (Err V.LongFeed) = refl

same_either : {A : Type 0} (b : Bool) (x : A) → cond b x x ≡ x
same_either true x = refl
same_either false x = refl

module _ (p : Opening) where
  -- A history is open; record and buffers stand for some calls; and of these the model accepts the calls in `done`.
  pub record Known (σ : State) (done : List M.Call) : Type 0 where
    pub begun : σ.begun ≡ true
    pub calls : List M.Call
    pub at : Stands p calls σ.history σ.nodes σ.table
    pub took : T.taken (run_of p calls) ≡ done

  -- what a call leaves is known, with that call where it was accepted
  abbrev After : List M.Call → List M.Call → State × Answer → Type 0
  After ms done x = Known x.0 (cond (accepted x.1.refusal) (ms ++ done) done)

  module _ (σ : State) (done : List M.Call) (k : Known σ done) where
    while_begun : (ms : List M.Call) (x : State × Answer) → After ms done x → After ms done (if_begun σ x)
    while_begun ms x a = subst (λ (b : Bool). After ms done (cond b x (σ, says R.NotOpen))) (sym k.begun) a

    -- set, remove, increment, add and finish
    called : (m : M.Call) → Calls64 (m ∷ []) → After (m ∷ []) done (follows σ (outcome_of m σ.history σ.nodes σ.table))
    unfolding MR.accepted
    called m fit =
        let o = outcome_of m σ.history σ.nodes σ.table in
        let a = T.taken (run_of p k.calls) in
        record {
          begun = refl;
          calls = m ∷ k.calls;
          at = call_stands p k.calls σ.history σ.nodes σ.table k.at m fit;
          took =
              ap (λ (n : ℕ). cond (eqb n 0) (m ∷ a) a) (sym (call_answers p k.calls σ.history σ.nodes σ.table k.at m fit))
              ∙ ap (λ (b : Bool). cond b (m ∷ a) a) (zero_accepted o.answer.refusal)
              ∙ ap (λ (z : List M.Call). cond (accepted o.answer.refusal) (m ∷ z) z) k.took;
        }

    -- a question
    asked : (x : State × Answer) → Known x.0 done → After [] done x
    asked x l = subst (λ (z : List M.Call). Known x.0 z) (sym (same_either (accepted x.1.refusal) done)) l

    stepped : (c : Call) → begins c σ ≡ false → Fits c → After (modelled c) done (step c σ)
    unfolding step
    stepped (opening start attributes shape) going fit =
        asked (step (opening start attributes shape) σ) (subst (λ (z : State). Known z done) (sym (refused_keeps (opening start attributes shape) σ going).0) k)
    stepped (set t q v) going fit = while_begun (M.change t q (M.set v) ∷ []) _ (called (M.change t q (M.set v)) (fit, tt))
    stepped (remove t q) going fit = while_begun (M.change t q M.remove ∷ []) _ (called (M.change t q M.remove) (tt, tt))
    stepped (increment t q) going fit = while_begun (M.change t q M.increment ∷ []) _ (called (M.change t q M.increment) (tt, tt))
    stepped add going fit = while_begun (M.add ∷ []) _ (called M.add tt)
    stepped (finish t) going fit = while_begun (M.finish t ∷ []) _ (called (M.finish t) tt)
    stepped (single t q) going fit = while_begun [] (told σ t q) (asked (told σ t q) k)
    stepped (full t) going fit = while_begun [] (asks σ t) (asked (asks σ t) (record { begun = refl; calls = k.calls; at = k.at; took = k.took }))

  pub known_run : (cs : List Call) (σ : State) (done : List M.Call) → Known σ done → One cs σ → AllFit cs → Known (run cs σ) (accepted_of cs σ done)
  unfolding run accepted_of
  known_run [] σ done k one fit = k
  known_run (c ∷ cs) σ done k one fit = known_run cs (step c σ).0 _ (stepped σ done k c one.0 fit.0) one.1 fit.1

-- the opening of a sequence
abbrev pub opened : Sequence → Opening
opened s = opening_of s.start s.attributes s.shape s.before.table

opens : (σ : State) (o : Outcome) (b : Bool) → accepted o.answer.refusal ≡ b → (cond b (follows σ o) (σ, says o.answer.refusal)).1.refusal ≡ R.Nothing
    → (o.answer.refusal ≡ R.Nothing) × ((cond b (follows σ o) (σ, says o.answer.refusal)).0 ≡ (follows σ o).0)
opens σ o true a e = (e, refl)
opens σ o false a e = absurd (false≢true (sym a ∙ ap accepted e))

pub first_known : (s : Sequence) → Known (opened s) (first s) []
unfolding step number_of MR.accepted
first_known s =
    let o = open_of s.start s.attributes s.shape s.before.nodes s.before.table in
    let z = opens s.before o (accepted o.answer.refusal) refl s.accepted in
    subst (λ (σ : State). Known (opened s) σ []) (sym z.1)
    (record { begun = refl; calls = []; at = open_stands s.start s.attributes s.shape s.before.nodes s.before.table (ap number_of z.0); took = refl })

pub known : (s : Sequence) → Known (opened s) (now s) (taken s)
known s = known_run (opened s) s.calls (first s) [] (first_known s) s.one s.fit
