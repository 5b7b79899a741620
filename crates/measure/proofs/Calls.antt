-- What is said to one call of the script. Assumes nothing.
use Prim.Native.Nat.{ℕ, ◌+◌, ◌*◌, ◌^◌, ◌<◌}
use mathlib.Core.Path.{◌≡◌}
use mathlib.Core.List.{List, ◌++◌}
use native.Mathlib.Omega.{arith}
use lib.Seq.{sets}
use Rattle.words.specs.Words.{le}
use Rattle.words.proofs.Stores.{sets_append}
use Rattle.words.proofs.Numbers.{length_le, le_join}
use Rattle.layout.specs.declared.Entry.{Entry}
use Rattle.layout.specs.Layout.{entry_bytes}
use Rattle.record.specs.Refusals.{Reply, number_of}
use Rattle.measure.specs.Measure.{slot}

-- the refusal's number and the nodes entered are put as one number of eight bytes
pub slot_put : (l l₁ l₂ : List ℕ) (at : ℕ) (r : Reply) (v w nodes : ℕ) (e : Entry)
    → v < 2 ^ 32
    → v ≡ number_of r
    → w ≡ nodes
    → l₁ ≡ sets l at (le 8 (v + 4294967296 * w))
    → l₂ ≡ sets l₁ (at + 8) (entry_bytes e)
    → l₂ ≡ sets l at (slot r nodes e)
unfolding slot
slot_put l l₁ l₂ at r v w nodes e f n m p₁ p₂ =
    let i : at + 4 + 4 ≡ at + 8 = omega arith in
    let j : le 8 (v + 4294967296 * w) ≡ le 4 v ++ le 4 w = le_join 4 4 v w f in
    let d : sets l at (le 4 v ++ (le 4 w ++ entry_bytes e)) ≡ sets (sets l at (le 4 v ++ le 4 w)) (at + 8) (entry_bytes e) = simp (sets_append, length_le, i) in
    cc (d, n, m, j)
