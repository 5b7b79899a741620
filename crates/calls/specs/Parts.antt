-- A change's list in the three parts in which it is asked, and what each part gives to the next. The list itself, whole and in document 01's order, is
-- `Change.change_refusal`; `proofs/Changes.antt` shows that the parts in sequence are that list.
use Rattle.std.specs.Prelude.{ℕ, ◌+◌, ◌≤◌, not, ◌&&◌, List, [], ◌∷◌, leb, ltb, length}
use Rattle.layout.specs.declared.Quark.{Quark}
use Rattle.layout.specs.Layout.{entry_size}
use Rattle.record.specs.declared.History.{History}
use Rattle.record.specs.Refusals.{Reply, first_of}
use Rattle.record.specs.Refusals as R
use Rattle.record.specs.Sound.{last_time, sound, long_enough}
use Rattle.record.specs.Firm.{Firm}
use Rattle.transient.specs.declared.Ongoing.{Ongoing}
use Rattle.transient.specs.declared.Decision.{Decision}
use Rattle.transient.specs.Transient.{table_at, ongoing_sound}
use Rattle.settle.specs.Settle.{settle, too_deep, no_room}
use Rattle.build.specs.Moves.{Room}
use Rattle.calls.specs.Outcome.{Outcome, or_refused}
use Rattle.calls.specs.Change.{is_top, stores, carried}

-- 3 record, 2, 4, 7: before the entry is read
unfoldable pub unasked : History → Quark → ℕ → ℕ → Reply
unasked h q nodes table = first_of (
    (not (sound h), R.Damaged)
    ∷ (not (long_enough h nodes table), R.Short)
    ∷ (h.finished, R.Finished)
    ∷ (leb h.attributes q.0, R.NoQuark)
    ∷ []
    )

-- 3 entry, 6, 5
unfoldable pub untimely : History → Ongoing → ℕ → Reply
untimely h o t = first_of (
    (not (ongoing_sound o h.start h.latest), R.Damaged)
    ∷ (ltb last_time t, R.Outside)
    ∷ (ltb t h.latest, R.Early)
    ∷ []
    )

-- 9, 10, 11
unfoldable pub undone : History → Ongoing → Decision → Reply
undone h o d = first_of (
    (is_top d, R.Top)
    ∷ (stores d && too_deep (settle h o.start), R.Deep)
    ∷ (stores d && no_room h (settle h o.start), R.NoRoom)
    ∷ []
    )

-- what is left of a change when the first two parts do not refuse it
abbrev pub carried_out : History → ℕ → Quark → Ongoing → List ℕ → List ℕ → Decision → Outcome
carried_out h t q o nodes table d = or_refused (undone h o d) h nodes table (carried h t q o nodes table d)

-- and what it may rely on
pub record Due (h : History) (t : ℕ) (q : Quark) (o : Ongoing) (nodes table : List ℕ) : Type 0 where
  pub firm : Firm h
  pub room : Room h nodes
  pub entry : table_at q.0 + entry_size ≤ length table
  pub begun : o.start ≤ t
  pub last : t ≤ last_time
