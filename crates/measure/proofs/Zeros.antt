-- What `History::default` gives: zeros, but for what is set besides. Assumes nothing.
use Prim.Native.Nat.{ℕ, ◌+◌}
use mathlib.Core.Path.{◌≡◌, refl, sym, ◌∙◌}
use mathlib.Core.Bool.{true, false}
use mathlib.Core.List.{List}
use native.Mathlib.Omega.{arith}
use lib.ListN.{set, replicate}
use Rattle.std.specs.Array.{AllOfLen}
use Rattle.std.proofs.lemmas.List.{ext_get_or, get_or-replicate, length-replicate}
use Rattle.layout.specs.declared.Shape.{Shape}
use Rattle.record.specs.declared.History.{History}
use Rattle.measure.specs.Measure.{zeros, finished_record}

abbrev Zeros : List ℕ → Type 0
Zeros xs = AllOfLen (λ (x : ℕ). x ≡ 0) xs 16

all_zeros : (xs : List ℕ) → Zeros xs → xs ≡ replicate 16 0
all_zeros xs z =
    ext_get_or 0 xs (replicate 16 0) (z.long ∙ sym (length-replicate {A = ℕ} 16 0))
    (λ i lt. z.at i 0 (omega (arith, z.long, lt)) ∙ sym (get_or-replicate 16 i 0 0 (omega (arith, z.long, lt))))

-- what it is promised to be, field by field; of its shape nothing is needed
abbrev Made : Type 0 → History → Type 0
Made S h =
    S
    × (h.start ≡ 0
    × (h.latest ≡ 0
    × (h.largest_end ≡ 0
    × (h.attributes ≡ 0
    × (h.used ≡ 0
    × (h.low ≡ 0
    × (h.top ≡ 0
    × (h.finished ≡ false
    × (Zeros h.branch.places × (Zeros h.branch.starts × (Zeros h.branch.intervals × (Zeros h.branch.children × Zeros h.branch.last_ends))))))))))))

module _ (S : Type 0) (h : History) where
  abbrev shaped : Shape → History
  shaped s = record {
    shape = s;
    start = h.start;
    latest = h.latest;
    largest_end = h.largest_end;
    attributes = h.attributes;
    used = h.used;
    low = h.low;
    top = h.top;
    finished = h.finished;
    branch = h.branch;
  }

  pub made_zeros : Made S h → (s : Shape) → shaped s ≡ zeros s
  unfolding zeros
  made_zeros (_, (a, (b, (c, (d, (e, (f, (g, (i, (p, (q, (r, (t, u))))))))))))) s =
      rw (a, b, c, d, e, f, g, i, all_zeros h.branch.places p, all_zeros h.branch.starts q, all_zeros h.branch.intervals r, all_zeros h.branch.children t, all_zeros h.branch.last_ends u) refl

  -- as the record of a finished history is made of it
  abbrev ended : (start latest attributes : ℕ) → Shape → (used root low top place : ℕ) → History
  ended start latest attributes s used root low top place = record {
    shape = s;
    start = start;
    latest = latest;
    largest_end = latest;
    attributes = attributes;
    used = used;
    low = low;
    top = top;
    finished = true;
    branch = record { places = set h.branch.places place root; starts = h.branch.starts; intervals = h.branch.intervals; children = h.branch.children; last_ends = h.branch.last_ends };
  }

  pub made_finished : Made S h → (start latest attributes : ℕ) (s : Shape) (used root top a u r l t : ℕ) → a ≡ attributes → u ≡ used → r ≡ root → l ≡ top → t ≡ top
      → ended start latest a s u r (l + 1) t top ≡ finished_record start latest attributes s used root top
  unfolding finished_record
  made_finished (_, (_, (_, (_, (_, (_, (_, (_, (_, (x₀, (x₁, (x₂, (x₃, x₄))))))))))))) start latest attributes s used root top a u r l t ea eu er el et =
      rw (ea, eu, er, el, et, all_zeros h.branch.places x₀, all_zeros h.branch.starts x₁, all_zeros h.branch.intervals x₂, all_zeros h.branch.children x₃, all_zeros h.branch.last_ends x₄) refl
