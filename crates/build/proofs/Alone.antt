-- The moves on a record alone: a buffer of no bytes stays one. Assumes nothing.
use Prim.Native.Nat.{ℕ}
use mathlib.Core.Path.{◌≡◌, refl, sym, ap, ◌∙◌}
use mathlib.Core.List.{List, [], ◌∷◌}
use native.Mathlib.Omega.{arith}
use lib.ListN.{length}
use Rattle.layout.specs.declared.Entry.{Entry}
use Rattle.record.specs.Moves.{closed, raised, made, stored}
use Rattle.record.specs.declared.History.{History}
use Rattle.record.specs.Refusals.{Reply}
use Rattle.settle.specs.Settle.{settle, plan_refusal}
use Rattle.build.specs.Trial.{tried}
use Rattle.build.specs.Write.{inserted}
use Rattle.build.proofs.Trials.{tried_refusal}
use Rattle.build.specs.Moves.{Held, held, close, raise, make, store}
use Rattle.build.proofs.Steps.{close_length, raise_length, make_length, store_length, inserted_history}

none_same : (b c : List ℕ) → length b ≡ 0 → length c ≡ 0 → b ≡ c
none_same [] [] e f = refl
none_same [] (x ∷ c) e f = absurd (omega (arith, f))
none_same (x ∷ b) c e f = absurd (omega (arith, e))

-- what a move leaves is known by its record
alone : (b : List ℕ) (g : History) (τ : Held) → length b ≡ 0 → length τ.nodes ≡ length b → g ≡ τ.history → held g b ≡ τ
alone b g τ none long is = λ i. record { history = is i; nodes = none_same b τ.nodes none (long ∙ none) i }

module _ (h g : History) (b : List ℕ) (none : length b ≡ 0) where
  pub close_alone : g ≡ closed h → held g b ≡ close (held h b)
  unfolding close
  close_alone is = alone b g (close (held h b)) none (close_length (held h b)) is

  pub raise_alone : g ≡ raised h → held g b ≡ raise (held h b)
  unfolding raise
  raise_alone is = alone b g (raise (held h b)) none (raise_length (held h b)) is

  pub make_alone : (a l : ℕ) → g ≡ made h a l → held g b ≡ make a l (held h b)
  unfolding make
  make_alone a l is = alone b g (make a l (held h b)) none (make_length (held h b) a l) is

  pub store_alone : (e : Entry) (l : ℕ) → g ≡ stored h l → held g b ≡ store e l (held h b)
  unfolding store
  store_alone e l is = alone b g (store e l (held h b)) none (store_length (held h b) e l) is

-- ═══ A trial ═══

-- what storing it leaves is known by its record
pub tried_alone : (h g : History) (b c : List ℕ) (e : Entry) (q : Reply) → q ≡ plan_refusal h (settle h e.start) → held g c ≡ inserted e (held h b)
    → (q ≡ (tried h e.start e.end).refusal) × (g ≡ (tried h e.start e.end).history)
tried_alone h g b c e q said is =
    (said ∙ sym (tried_refusal h e.start e.end), ap (λ (τ : Held). τ.history) is ∙ inserted_history e (held h b))
