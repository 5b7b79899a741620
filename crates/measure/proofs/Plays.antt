-- The script: what is left to carry out from the call reached is the whole. Assumes nothing.
use Prim.Native.Nat.{ℕ, suc, ◌+◌, ◌-◌, ◌*◌, ◌≤◌, ◌<◌}
use mathlib.Core.Path.{◌≡◌, sym, ap, ◌∙◌}
use mathlib.Core.List.{List}
use native.Mathlib.Nat.{sub-zero}
use native.Mathlib.Omega.{arith}
use Rattle.layout.specs.declared.Entry.{Entry}
use Rattle.layout.specs.declared.Shape.{Shape}
use Rattle.layout.specs.Layout.{read_entry}
use Rattle.record.specs.declared.History.{History}
use Rattle.record.specs.Refusals.{Reply, number_of}
use Rattle.calls.specs.Outcome.{Outcome, Comes, answered, outcome}
use Rattle.calls.specs.Open.{open_on}
use Rattle.measure.specs.Measure.{State, state, step_of, play_of, turns, played, Measured, measured, zeros, measure_of}

-- ---- the loop

-- what is left from the i-th call on, as many as there was room for at first
abbrev pub Left : List ℕ → State → ℕ → State → Type 0
Left script from i σ = play_of (turns script from.said - i) i script σ ≡ played script from

module _ (script : List ℕ) (from : State) where
  pub play_begins : Left script from 0 from
  unfolding played
  play_begins = ap (λ (m : ℕ). play_of m 0 script from) (sub-zero (turns script from.said))

  module _ (i : ℕ) (σ : State) (left : Left script from i σ) where
    pub play_ends : (n : ℕ) → n ≡ turns script from.said → n ≤ i → σ ≡ played script from
    unfolding play_of
    play_ends n is le = let z : turns script from.said - i ≡ 0 = omega arith in simp z at left

    pub play_turn : (n : ℕ) → n ≡ turns script from.said → i < n → (e : Entry) → e ≡ read_entry script (i * 32)
        → (next : State) → next ≡ step_of e (i * 40) σ → Left script from (i + 1) next
    unfolding play_of
    play_turn n is lt e read next step =
        let z : turns script from.said - i ≡ suc (turns script from.said - (i + 1)) = omega arith in
        ap (play_of (turns script from.said - (i + 1)) (i + 1) script) (step ∙ ap (λ (x : Entry). step_of x (i * 40) σ) read)
        ∙ sym (ap (λ (m : ℕ). play_of m i script σ) z)
        ∙ left

-- ---- the whole

module _ (start attributes k c n : ℕ) (script nodes table answer said : List ℕ) where
  abbrev shape : Shape
  shape = record { k = k; c = c; n = n }

  pub measure_done : (came : History) → came ≡ zeros shape
      → (r : Reply) (h : History) (left rows : List ℕ) → Comes r h left rows (open_on came start attributes shape nodes table)
      → (g : History) (nodes₂ table₂ answer₂ said₂ : List ℕ) → state g nodes₂ table₂ answer₂ said₂ ≡ played script (state h left rows answer said)
      → (v : ℕ) → v ≡ number_of r
      → measured v nodes₂ table₂ answer₂ said₂ ≡ measure_of start attributes k c n script nodes table answer said
  unfolding measure_of
  measure_done came z r h left rows y g nodes₂ table₂ answer₂ said₂ p v e =
      let o : outcome (answered r h) left rows ≡ open_on (zeros shape) start attributes shape nodes table = y ∙ ap (λ (x : History). open_on x start attributes shape nodes table) z in
      ap (λ (x : ℕ). measured x nodes₂ table₂ answer₂ said₂) e
      ∙ ap (λ (σ : State). measured (number_of r) σ.nodes σ.table σ.answer σ.said) p
      ∙ ap (λ (o : Outcome). whole o (played script (state o.answer.history o.nodes o.table answer said))) o
    where
      whole : Outcome → State → Measured
      whole o σ = measured (number_of o.answer.refusal) σ.nodes σ.table σ.answer σ.said
