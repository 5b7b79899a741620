-- Adding an attribute: each way through the code, and what acceptance gives. Assumes nothing.
use Prim.Native.Nat.{ℕ, ◌+◌, ◌/◌, ◌≤◌, ◌<◌}
use mathlib.Core.Path.{◌≡◌, refl, sym, ◌∙◌}
use mathlib.Core.Bool.{Bool, true, false, not, ◌||◌, false≢true}
use mathlib.Core.List.{List, [], ◌∷◌}
use native.Mathlib.Omega.{arith}
use lib.Dec.{leb}
use lib.ListN.{length}
use borrow.Author.Tests.{leb-false}
use Rattle.layout.specs.Layout.{entry_size}
use Rattle.record.specs.declared.History.{History}
use Rattle.record.specs.Refusals.{Reply, Nothing, Damaged, Short, Finished, TableFull, accepted, first_of}
use Rattle.record.specs.Sound.{sound, long_enough, admitted}
use Rattle.record.specs.Moves.{with_attribute}
use Rattle.transient.specs.declared.Ongoing.{Ongoing}
use Rattle.transient.specs.Transient.{table_at, begins, with_ongoing}
use Rattle.calls.specs.Outcome.{answered, outcome}
use Rattle.calls.specs.Add.{add_refusal, add_of}
use Rattle.record.proofs.Said.{unadmitted, after_head}
use Rattle.calls.proofs.Refused.{comes_refused, comes_done}

-- ---- the list

-- 4 and 8
abbrev rest : History → ℕ → Reply
rest h table = first_of ((h.finished, Finished) ∷ (leb (table / entry_size) h.attributes || leb 4096 h.attributes, TableFull) ∷ [])

module _ (h : History) (nodes table : ℕ) (r : Reply) (said : r ≡ admitted h nodes table) where
  pub add_unadmitted : accepted r ≡ false → r ≡ add_refusal h nodes table
  unfolding add_refusal
  add_unadmitted e = unadmitted h nodes table (rest h table) r said e

  module _ (e : r ≡ Nothing) where
    after : rest h table ≡ add_refusal h nodes table
    unfolding add_refusal
    after = after_head h nodes table (rest h table) r said e

    pub add_finished : h.finished ≡ true → Finished ≡ add_refusal h nodes table
    add_finished f = let s : Finished ≡ rest h table = rw f in s ∙ after

    module _ (going : h.finished ≡ false) where
      pub add_full : leb (table / entry_size) h.attributes || leb 4096 h.attributes ≡ true → TableFull ≡ add_refusal h nodes table
      add_full f = let s : TableFull ≡ rest h table = rw (going, f) in s ∙ after

      pub add_fine : leb (table / entry_size) h.attributes || leb 4096 h.attributes ≡ false → Nothing ≡ add_refusal h nodes table
      add_fine f = let s : Nothing ≡ rest h table = rw (going, f) in s ∙ after

-- ---- the call

neither : (x y : Bool) → x || y ≡ false → (x ≡ false) × (y ≡ false)
neither false false z = (refl, refl)
neither false true z = absurd (false≢true (sym z))
neither true y z = absurd (false≢true (sym z))

-- accepted: the table has an entry more than there are attributes, and these are fewer than 4,096
module _ (h : History) (nodes table : ℕ) (r : Reply) (said : r ≡ add_refusal h nodes table) (e : r ≡ Nothing) where
  not_full : leb (table / entry_size) h.attributes || leb 4096 h.attributes ≡ false
  unfolding add_refusal
  not_full = go (sound h) (long_enough h nodes table) h.finished (leb (table / entry_size) h.attributes || leb 4096 h.attributes) (sym e ∙ said)
    where
      go : (x y f b : Bool) → Nothing ≡ first_of ((not x, Damaged) ∷ (not y, Short) ∷ (f, Finished) ∷ (b, TableFull) ∷ []) → b ≡ false
      go true true false false z = refl
      go true true false true z = let n : ◌≡◌ {A = ℕ} 0 1 = cc in absurd (omega arith)
      go true true true b z = let n : ◌≡◌ {A = ℕ} 0 1 = cc in absurd (omega arith)
      go true false f b z = let n : ◌≡◌ {A = ℕ} 0 1 = cc in absurd (omega arith)
      go false y f b z = let n : ◌≡◌ {A = ℕ} 0 1 = cc in absurd (omega arith)

  pub add_room : table_at h.attributes + entry_size ≤ table
  add_room = omega (arith, leb-false (table / entry_size) h.attributes (neither (leb (table / entry_size) h.attributes) (leb 4096 h.attributes) not_full).0)

  pub add_small : h.attributes < 4294967295
  add_small = omega (arith, leb-false 4096 h.attributes (neither (leb (table / entry_size) h.attributes) (leb 4096 h.attributes) not_full).1)

module _ (h : History) (nodes table : List ℕ) (r : Reply) (said : r ≡ add_refusal h (length nodes) (length table)) where
  pub add_refused : accepted r ≡ false → outcome (answered r h) nodes table ≡ add_of h nodes table
  unfolding add_of
  add_refused e = comes_refused r _ said h nodes table _ e

  pub added : (o : Ongoing) (left : List ℕ) (g : History) → r ≡ Nothing → o ≡ begins h.start → left ≡ with_ongoing table (record { 0 = h.attributes }) o → g ≡ with_attribute h
      → outcome (answered Nothing g) nodes left ≡ add_of h nodes table
  unfolding add_of
  added o left g e a b d =
      let is : outcome (answered Nothing g) nodes left ≡ outcome (answered Nothing (with_attribute h)) nodes (with_ongoing table (record { 0 = h.attributes }) (begins h.start)) = rw (d, b, a) in
      is ∙ comes_done r _ said h nodes table _ e
