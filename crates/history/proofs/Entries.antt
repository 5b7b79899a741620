-- An accepted full question leaves an entry for each attribute. Assumes nothing.
use Prim.Native.Nat.{ℕ, ◌*◌, ◌/◌, ◌≤◌}
use mathlib.Core.Path.{◌≡◌, refl, sym, subst}
use mathlib.Core.Bool.{Bool, true, false, cond, not, ◌||◌}
use mathlib.Core.List.{List}
use native.Mathlib.Omega.{arith}
use lib.Dec.{ltb}
use lib.ListN.{length}
use Rattle.layout.specs.Layout.{entry_size}
use Rattle.record.specs.declared.History.{History}
use Rattle.record.specs.Refusals.{Reply}
use Rattle.record.specs.Refusals as R
use Rattle.record.specs.Sound.{sound, long_enough}
use Rattle.feed.specs.declared.Record.{Record}
use Rattle.feed.specs.declared.Record.TheVariants.{Open, Set, Remove, Increment, Add, Finish, Single, Full}
use Rattle.full_question.specs.Full.{full_of, full_refusal}
use borrow.Author.Tests.{ltb-false}
use Rattle.std.specs.Prelude.{Option}
use Rattle.history.specs.declared.step.Shown as Code
use Rattle.history.specs.Step.{State, Carried, Said, shown_in, state_in, Leaves, leaving, done, opened_by, after, after_open, called, opens, carried, EntriesOf, Entries}

no : {A : Type 0} → ◌≡◌ {A = ℕ} 0 1 → A
no e = absurd (omega arith)

-- 2 is refused before
long : (a b : Bool) (n m : ℕ) (r : Reply) → cond (not a) R.Damaged (cond (not b || ltb (m / entry_size) n) R.Short r) ≡ R.Nothing → n * entry_size ≤ m
long true true n m r e = go (ltb (m / entry_size) n) refl e
  where
    go : (x : Bool) → ltb (m / entry_size) n ≡ x → cond x R.Short r ≡ R.Nothing → n * entry_size ≤ m
    go true is z = no (cc)
    go false is z = omega (arith, ltb-false (m / entry_size) n is)
long true false n m r e = no (cc)
long false b n m r e = no (cc)

full_fits : (h : History) (t : ℕ) (nodes table answer : List ℕ) → (full_of h t nodes table (length answer)).refusal ≡ R.Nothing → h.attributes * entry_size ≤ length answer
unfolding full_of full_refusal
full_fits h t nodes table answer e = long (sound h) (long_enough h (length nodes) (length table)) h.attributes (length answer) _ e

module _ (s : State) (nodes table answer : List ℕ) where
  called_entries : (r : Record) → Entries (called r s nodes table answer).done (length answer)
  unfolding called after after_open opened_by EntriesOf
  called_entries (Open start attributes k c n) = tt
  called_entries (Set t q v) = tt
  called_entries (Remove t q) = tt
  called_entries (Increment t q) = tt
  called_entries Add = tt
  called_entries (Finish t) = tt
  called_entries (Single t q) = tt
  called_entries (Full t) = full_fits s.history t nodes table answer

  pub carried_entries : (r : Record) (x : Code.Shown) (current : Option History) (left rows told : List ℕ) → Leaves x current left rows told (carried r s nodes table answer) → length told ≡ length answer
      → EntriesOf (shown_in x) (state_in current).history.attributes (length told)
  unfolding carried EntriesOf
  carried_entries r x current left rows told is long = rw long (subst (λ (y : Carried). Entries y.done (length answer)) (sym is) (go (opens r || s.opened)))
    where
      go : (b : Bool) → Entries (cond b (called r s nodes table answer) (leaving (done s (Said R.NotOpen)) nodes table answer)).done (length answer)
      go true = called_entries r
      go false = tt
