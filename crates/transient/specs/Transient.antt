-- An attribute's ongoing state and what a change does to it. Document 01, "From changes to intervals".
use Rattle.std.specs.Prelude.{◌≡◌, ℕ, ◌*◌, ◌^◌, ◌<◌, Bool, cond, ◌&&◌, ◌||◌, List, ℤ, pos, FitsSigned, ◌==◌, nat_le, Option, Some, None}
use Rattle.std.proofs.Math.IntN.{suc_ℤ}
use Rattle.std.proofs.lemmas.List.Edits.{sets}
use Rattle.std.specs.Int.{w64}
use Rattle.std.proofs.Common.{of_z}
use Rattle.layout.specs.declared.Entry.{Entry}
use Rattle.layout.specs.declared.Quark.{Quark}
use Rattle.layout.specs.Layout.{entry_size, entry_bytes, read_entry}
use Rattle.transient.specs.declared.Ongoing.{Ongoing}
use Rattle.transient.specs.declared.Change.{Change}
use Rattle.transient.specs.declared.Change.TheVariants.{Set, Remove, Increment}
use Rattle.transient.specs.declared.Decision.{Decision}
use Rattle.transient.specs.declared.Decision.TheVariants.{Top, Same, Replaced, Ended}

-- "end u64 (2^64-1 while open)": the end of what is ongoing
abbrev pub ongoing_end : ℕ
ongoing_end = 18446744073709551615

-- two i64 are equal when their 64 bits are
abbrev pub same_value : ℤ → ℤ → Bool
same_value v w = of_z w64 v == of_z w64 w

-- "kind 0 (value 0) or 1": of an ongoing entry and of R6
unfoldable pub state_sound : ℕ → ℤ → Bool
state_sound kind value = (kind == 0 && same_value value (pos 0)) || kind == 1

-- ═══ The lent table: 32 bytes an entry, in the layout of a node's interval entry ═══

-- where the entry of a quark stands
abbrev pub table_at : ℕ → ℕ
table_at q = q * entry_size

-- "Every attribute has an ongoing kind, value and start in a lent table": these three are read of its entry
unfoldable pub ongoing_at : List ℕ → ℕ → Ongoing
ongoing_at l q = let e = read_entry l (table_at q) in record { kind = e.kind; value = e.value; start = e.start }

-- an attribute's state as an interval with this end
unfoldable pub interval : Quark → Ongoing → ℕ → Entry
interval q o end = record { quark = q; kind = o.kind; start = o.start; end = end; value = o.value }

unfoldable pub with_ongoing : List ℕ → Quark → Ongoing → List ℕ
with_ongoing l q o = sets l (table_at q.0) (entry_bytes (interval q o ongoing_end))

-- "At opening, and when added later, it is null from the history's start."
unfoldable pub begins : ℕ → Ongoing
begins start = record { kind = 0; value = pos 0; start = start }

-- "An ongoing entry is sound when its kind is 0 (value 0) or 1 and its start lies between start and latest."
unfoldable pub ongoing_sound : Ongoing → ℕ → ℕ → Bool
ongoing_sound o start latest = state_sound o.kind o.value && nat_le start o.start && nat_le o.start latest

-- ═══ A change ═══

-- "increment (adds 1, null counts as 0)": kind and value; 9: "increment of 2^63-1"
unfoldable pub increased : ℕ → ℤ → Option (ℕ × ℤ)
increased kind value = cond (kind == 0) (Some (1, pos 1)) (cond (of_z w64 value == 9223372036854775807) None (Some (1, suc_ℤ value)))

-- "Calls: set; remove (becomes null); increment"
unfoldable pub becomes : Change → ℕ → ℤ → Option (ℕ × ℤ)
becomes (Set v) kind value = Some (1, v)
becomes Remove kind value = Some (0, pos 0)
becomes Increment kind value = increased kind value

-- "If kind and value equal the ongoing ones, nothing else happens."
unfoldable pub same_state : ℕ → ℤ → Ongoing → Bool
same_state kind value o = kind == o.kind && same_value value o.value

-- "If the ongoing start is t, the value is replaced and nothing is stored. Otherwise the interval from the ongoing start to t-1, ends included, is stored
-- and the new state is ongoing from t."
unfoldable pub decided : Option (ℕ × ℤ) → Ongoing → ℕ → Decision
decided None o t = Top
decided (Some (kind, value)) o t =
    let next : Ongoing = record { kind = kind; value = value; start = t } in cond (same_state kind value o) Same (cond (o.start == t) (Replaced next) (Ended next))

unfoldable pub decide : Ongoing → ℕ → Change → Decision
decide o t change = decided (becomes change o.kind o.value) o t

-- ═══ Values that fit their fields, and so are read back as they were written ═══

pub record OngoingFits (o : Ongoing) : Type 0 where
  pub kind : o.kind < 2 ^ 8
  pub value : FitsSigned w64 o.value
  pub start : o.start < 2 ^ 64

-- the value that is set is an i64
pub record ChangeFits (change : Change) : Type 0 where
  pub value : (v : ℤ) → change ≡ Set v → FitsSigned w64 v
