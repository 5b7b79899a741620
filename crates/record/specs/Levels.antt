-- The entries of the open branch, by level; and what is open.
use Rattle.std.specs.Prelude.{ℕ, get_or}
use Rattle.layout.specs.declared.Seq.{Seq}
use Rattle.record.specs.declared.Branch.{Branch}

abbrev pub seq_at : Branch → ℕ → Seq
seq_at b l = record { 0 = get_or b.places l 0 }

abbrev pub place_at : Branch → ℕ → ℕ
place_at b l = (seq_at b l).0

abbrev pub start_at : Branch → ℕ → ℕ
start_at b l = get_or b.starts l 0

abbrev pub intervals_at : Branch → ℕ → ℕ
intervals_at b l = get_or b.intervals l 0

abbrev pub children_at : Branch → ℕ → ℕ
children_at b l = get_or b.children l 0

abbrev pub last_end_at : Branch → ℕ → ℕ
last_end_at b l = get_or b.last_ends l 0
