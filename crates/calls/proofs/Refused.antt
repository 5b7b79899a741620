-- What a call comes to. Assumes nothing.
use Prim.Native.Nat.{ℕ}
use mathlib.Core.Path.{◌≡◌, sym, ap, ◌∙◌}
use mathlib.Core.Bool.{false}
use mathlib.Core.List.{List}
use Rattle.record.specs.declared.History.{History}
use Rattle.record.specs.Refusals.{Reply, accepted}
use Rattle.record.specs.Refusals as R
use Rattle.record.proofs.Said.{on_false}
use Rattle.calls.specs.Outcome.{Outcome, answered, outcome, or_refused}

-- ---- what a call comes to

module _ (r s : Reply) (said : r ≡ s) (h : History) (nodes table : List ℕ) (done : Outcome) where
  -- refused: the record as it came, nothing written
  pub comes_refused : accepted r ≡ false → outcome (answered r h) nodes table ≡ or_refused s h nodes table done
  comes_refused e =
      sym (ap (λ (x : Reply). or_refused x h nodes table done) (sym said) ∙ on_false (accepted r) done (outcome (answered r h) nodes table) e)

  pub comes_done : r ≡ R.Nothing → done ≡ or_refused s h nodes table done
  comes_done e = sym (ap (λ (x : Reply). or_refused x h nodes table done) (sym said ∙ e))
