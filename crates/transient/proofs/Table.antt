-- The ongoing table: an entry read, an entry written, read back, and the others as they were. Assumes nothing.
use Rattle.std.proofs.Common.{◌≡◌, ℕ, ◌+◌, ◌*◌, ◌/◌, ◌^◌, ◌<◌, ◌≤◌, Bool, true, false, ltb, List, length, get_or, refl, ap, arith, lit<, ltb-false, ltb-true}
use lib.Seq.{sets, length-sets}
use Rattle.words.proofs.Stores.{get_or_sets_below, get_or_sets_above}
use Rattle.layout.specs.declared.Entry.{Entry}
use Rattle.layout.specs.declared.Quark.{Quark}
use Rattle.layout.specs.Layout.{entry_size, entry_bytes, EntryFits}
use Rattle.layout.proofs.Parts.{length_entry}
use Rattle.layout.proofs.Back.{entry_back, entry_same, entry_fits_lem}
use Rattle.transient.specs.declared.Ongoing.{Ongoing}
use Rattle.transient.specs.Transient.{table_at, ongoing_end, ongoing_at, interval, with_ongoing, OngoingFits}

-- an entry's three numbers that are a state
abbrev state : Entry → Ongoing
state e = record { kind = e.kind; value = e.value; start = e.start }

-- ---- room

-- an attribute's entry lies in a table of enough entries
pub entry_room : (q attributes size : ℕ) → q < attributes → attributes ≤ size / entry_size → table_at q + entry_size ≤ size
entry_room q attributes size h g = omega arith

pub entry_within : (q attributes size : ℕ) → q < attributes → attributes * entry_size ≤ size → table_at q + entry_size ≤ size
entry_within q attributes size h g = omega arith

-- ---- reading after writing

pub interval_fits : (q : Quark) (o : Ongoing) (end : ℕ) → q.0 < 2 ^ 32 → OngoingFits o → end < 2 ^ 64 → EntryFits (interval q o end)
unfolding interval
interval_fits q o end h f e = record { quark = h; kind = f.kind; start = f.start; end = e; value = f.value }

module _ (l : List ℕ) (q : Quark) (o : Ongoing) where
  pub length_with : length (with_ongoing l q o) ≡ length l
  unfolding with_ongoing
  length_with = length-sets l (table_at q.0) (entry_bytes (interval q o ongoing_end))

  -- what was written is read back
  pub ongoing_back : q.0 < 2 ^ 32 → OngoingFits o → table_at q.0 + entry_size ≤ length l → ongoing_at (with_ongoing l q o) q.0 ≡ o
  unfolding ongoing_at with_ongoing interval
  ongoing_back h f room =
      ap state
      (entry_back l (table_at q.0) (interval q o ongoing_end) (interval_fits q o ongoing_end h f (lit< tt)) room)

  apart : (x k : ℕ) → (x ≡ q.0 → ⊥) → k < entry_size → get_or (with_ongoing l q o) (table_at x + k) 0 ≡ get_or l (table_at x + k) 0
  unfolding with_ongoing
  apart x k ne b = go (ltb x q.0) refl
    where
      vs : List ℕ
      vs = entry_bytes (interval q o ongoing_end)

      go : (t : Bool) → ltb x q.0 ≡ t → get_or (sets l (table_at q.0) vs) (table_at x + k) 0 ≡ get_or l (table_at x + k) 0
      go true e = get_or_sets_below l (table_at q.0) vs (table_at x + k) 0 (omega (arith, ltb-true x q.0 e))
      go false e = get_or_sets_above l (table_at q.0) vs (table_at x + k) 0 (omega (arith, ltb-false x q.0 e, length_entry (interval q o ongoing_end)))

  -- another attribute's state is as it was
  pub ongoing_other : (x : ℕ) → (x ≡ q.0 → ⊥) → ongoing_at (with_ongoing l q o) x ≡ ongoing_at l x
  unfolding ongoing_at
  ongoing_other x ne = ap state (entry_same (with_ongoing l q o) l (table_at x) (table_at x) (λ k b. apart x k ne b))

-- ---- what is read from bytes fits

pub ongoing_fits : (l : List ℕ) (q : ℕ) → ((k : ℕ) → k < length l → get_or l k 0 < 256) → table_at q + entry_size ≤ length l → OngoingFits (ongoing_at l q)
unfolding ongoing_at
ongoing_fits l q bytes room = let f = entry_fits_lem l bytes (table_at q) room in record { kind = f.kind; value = f.value; start = f.start }
