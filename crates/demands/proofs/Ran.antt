-- Every run is nothing, or what a sequence left; and a sequence cut short is one. Assumes nothing.
use mathlib.Core.Bool.{Bool, true, false, cond, false≢true}
use mathlib.Core.Path.{◌≡◌, refl, sym, ap, subst, ◌∙◌}
use mathlib.Core.Logic.{◌⊎◌, inl, inr}
use mathlib.Core.List.{List, [], ◌∷◌, ◌++◌, append_assoc, append-nil}
use Rattle.record.specs.Refusals as R
use Rattle.record.proofs.Said.{accepted_nothing}
use Rattle.demands.specs.Runs.{Call, opening, set, remove, increment, add, finish, single, full, State, Answer, says, if_begun, told, answered as asks, step, run}
use Rattle.demands.specs.Sequences.{begins, One, Fits, AllFit, first}
use Rattle.demands.specs.Demands.{LastOpening, EveryRun, EachCall}
use Rattle.demands.proofs.Kept.{refused_keeps}

-- ---- cut short

one_cut : (done rest : List Call) (σ : State) → One (done ++ rest) σ → One done σ
one_cut [] rest σ a = tt
one_cut (c ∷ done) rest σ a = (a.0, one_cut done rest (step c σ).0 a.1)

fit_cut : (done rest : List Call) → AllFit (done ++ rest) → AllFit done
fit_cut [] rest a = tt
fit_cut (c ∷ done) rest a = (a.0, fit_cut done rest a.1)

pub each_call : EachCall
each_call s done rest e = (
  record {
    before = s.before;
    start = s.start;
    attributes = s.attributes;
    shape = s.shape;
    calls = done;
    accepted = s.accepted;
    one = one_cut done rest (first s) (subst (λ (cs : List Call). One cs (first s)) e s.one);
    fit = fit_cut done rest (subst AllFit e s.fit);
  },
  refl,
  refl,
)

-- ---- one more call

run_more : (cs : List Call) (c : Call) (σ : State) → run (cs ++ c ∷ []) σ ≡ (step c (run cs σ)).0
unfolding run
run_more [] c σ = refl
run_more (d ∷ cs) c σ = run_more cs c (step d σ).0

run_none : (σ : State) → run [] σ ≡ σ
unfolding run
run_none σ = refl

one_more : (cs : List Call) (c : Call) (σ : State) → One cs σ → begins c (run cs σ) ≡ false → One (cs ++ c ∷ []) σ
unfolding run
one_more [] c σ a b = (b, tt)
one_more (d ∷ cs) c σ a b = (a.0, one_more cs c (step d σ).0 a.1 b)

fit_more : (cs : List Call) (c : Call) → AllFit cs → Fits c → AllFit (cs ++ c ∷ [])
fit_more [] c a b = (b, tt)
fit_more (d ∷ cs) c a b = (a.0, fit_more cs c a.1 b)

-- ---- the last opening

module _ (cs : List Call) (σ : State) where
  -- an opening that is accepted begins a sequence
  begun : (c : Call) → begins c (run cs σ) ≡ true → LastOpening (cs ++ c ∷ []) σ
  begun (opening start attributes shape) e = record {
    earlier = cs;
    sequence = record {
      before = run cs σ;
      start = start;
      attributes = attributes;
      shape = shape;
      calls = [];
      accepted = accepted_nothing (step (opening start attributes shape) (run cs σ)).1.refusal e;
      one = tt;
      fit = tt;
    };
    before = refl;
    split = refl;
    left = run_none (step (opening start attributes shape) (run cs σ)).0 ∙ sym (run_more cs (opening start attributes shape) σ);
  }
  begun (set t q v) e = absurd (false≢true e)
  begun (remove t q) e = absurd (false≢true e)
  begun (increment t q) e = absurd (false≢true e)
  begun add e = absurd (false≢true e)
  begun (finish t) e = absurd (false≢true e)
  begun (single t q) e = absurd (false≢true e)
  begun (full t) e = absurd (false≢true e)

  -- any other call makes the sequence longer
  longer : (c : Call) → Fits c → LastOpening cs σ → begins c (run cs σ) ≡ false → LastOpening (cs ++ c ∷ []) σ
  longer c fit l going =
      let s = l.sequence in
      record {
        earlier = l.earlier;
        sequence = record {
          before = s.before;
          start = s.start;
          attributes = s.attributes;
          shape = s.shape;
          calls = s.calls ++ c ∷ [];
          accepted = s.accepted;
          one = one_more s.calls c (first s) s.one (ap (begins c) l.left ∙ going);
          fit = fit_more s.calls c s.fit fit;
        };
        before = l.before;
        split =
            ap (λ (x : List Call). x ++ c ∷ []) l.split
            ∙ append_assoc l.earlier (opening s.start s.attributes s.shape ∷ s.calls) (c ∷ []);
        left = run_more s.calls c (first s) ∙ (ap (λ (x : State). (step c x).0) l.left ∙ sym (run_more cs c σ));
      }

-- ---- before an opening is accepted

-- "15 no history open": nothing else is done
unbegun : (σ : State) (x : State × Answer) → σ.begun ≡ false → (if_begun σ x).0 ≡ σ
unbegun σ x b = ap (λ (z : Bool). (cond {A = State × Answer} z x (σ, says R.NotOpen)).0) b

idle : (c : Call) (σ : State) → σ.begun ≡ false → begins c σ ≡ false → (step c σ).0 ≡ σ
unfolding step
idle (opening start attributes shape) σ b e = (refused_keeps (opening start attributes shape) σ e).0
idle (set t q v) σ b e = unbegun σ _ b
idle (remove t q) σ b e = unbegun σ _ b
idle (increment t q) σ b e = unbegun σ _ b
idle add σ b e = unbegun σ _ b
idle (finish t) σ b e = unbegun σ _ b
idle (single t q) σ b e = unbegun σ (told σ t q) b
idle (full t) σ b e = unbegun σ (asks σ t) b

-- ---- every run

abbrev Ever : State → List Call → Type 0
Ever σ cs = (run cs σ ≡ σ) ⊎ LastOpening cs σ

module _ (σ : State) (b : σ.begun ≡ false) where
  more : (cs : List Call) (c : Call) → Fits c → Ever σ cs → Ever σ (cs ++ c ∷ [])
  more cs c fit e = go (begins c (run cs σ)) refl e
    where
      go : (x : Bool) → begins c (run cs σ) ≡ x → Ever σ cs → Ever σ (cs ++ c ∷ [])
      go true f a = inr (begun cs σ c f)
      go false f (inl a) = inl (run_more cs c σ ∙ (idle c (run cs σ) (ap (λ (x : State). x.begun) a ∙ b) f ∙ a))
      go false f (inr l) = inr (longer cs σ c fit l f)

  all_more : (rest done : List Call) → AllFit rest → Ever σ done → Ever σ (done ++ rest)
  all_more [] done fit e = subst (Ever σ) (sym (append-nil done)) e
  all_more (c ∷ rest) done fit e = subst (Ever σ) (append_assoc done (c ∷ []) rest) (all_more rest (done ++ c ∷ []) fit.1 (more done c fit.0 e))

pub every_run : EveryRun
unfolding run
every_run cs σ b fit = all_more σ b cs [] fit (inl refl)
