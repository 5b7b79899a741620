-- Set, remove and increment. Document 01: "change 3 record, 2, 4, 7, 3 entry, 6, 5, 9, 10, 11".
use Rattle.std.specs.Prelude.{ℕ, ◌-◌, Bool, true, false, not, ◌&&◌, List, [], ◌∷◌, leb, ltb, length}
use Rattle.layout.specs.declared.Quark.{Quark}
use Rattle.record.specs.declared.History.{History}
use Rattle.record.specs.Refusals.{Reply, first_of}
use Rattle.record.specs.Refusals as R
use Rattle.record.specs.Sound.{last_time, sound, long_enough}
use Rattle.record.specs.Moves.{at_time}
use Rattle.transient.specs.declared.Change.{Change}
use Rattle.transient.specs.declared.Ongoing.{Ongoing}
use Rattle.transient.specs.declared.Decision.{Decision}
use Rattle.transient.specs.declared.Decision.TheVariants.{Top, Same, Replaced, Ended}
use Rattle.transient.specs.Transient.{ongoing_at, ongoing_sound, interval, with_ongoing, decide}
use Rattle.settle.specs.Settle.{settle, too_deep, no_room}
use Rattle.build.specs.Moves.{held}
use Rattle.build.specs.Write.{inserted}
use Rattle.calls.specs.Outcome.{Outcome, answered, outcome, or_refused}

-- "9 increment of 2^63-1"
abbrev pub is_top : Decision → Bool
is_top Top = true
is_top Same = false
is_top (Replaced o) = false
is_top (Ended o) = false

-- an interval is to be stored
abbrev pub stores : Decision → Bool
stores Top = false
stores Same = false
stores (Replaced o) = false
stores (Ended o) = true

-- What a change that is not refused does, by the decision d on the ongoing state o. "a change at time t makes it t. If kind and value equal the ongoing ones, nothing
-- else happens. If the ongoing start is t, the value is replaced and nothing is stored. Otherwise the interval from the ongoing start to t-1, ends included, is stored
-- and the new state is ongoing from t."
module _ (h : History) (t : ℕ) (q : Quark) (o : Ongoing) (nodes table : List ℕ) where
  unfoldable pub carried : Decision → Outcome
  carried Top = outcome (answered R.Nothing h) nodes table
  carried Same = outcome (answered R.Nothing (at_time h t)) nodes table
  carried (Replaced next) = outcome (answered R.Nothing (at_time h t)) nodes (with_ongoing table q next)
  carried (Ended next) =
      let σ = inserted (interval q o (t - 1)) (held h nodes) in
      outcome (answered R.Nothing (at_time σ.history t)) σ.nodes (with_ongoing table q next)

module _ (h : History) (t : ℕ) (q : Quark) (what : Change) (nodes table : List ℕ) where
  -- the quark's ongoing state, and what the change does to it
  abbrev pub ongoing : Ongoing
  ongoing = ongoing_at table q.0

  abbrev pub decision : Decision
  decision = decide ongoing t what

  abbrev pub change_tests : List (Bool × Reply)
  change_tests =
      (not (sound h), R.Damaged)
      ∷ (not (long_enough h (length nodes) (length table)), R.Short)
      ∷ (h.finished, R.Finished)
      ∷ (leb h.attributes q.0, R.NoQuark)
      ∷ (not (ongoing_sound ongoing h.start h.latest), R.Damaged)
      ∷ (ltb last_time t, R.Outside)
      ∷ (ltb t h.latest, R.Early)
      ∷ (is_top decision, R.Top)
      ∷ (stores decision && too_deep (settle h ongoing.start), R.Deep)
      ∷ (stores decision && no_room h (settle h ongoing.start), R.NoRoom)
      ∷ []

  unfoldable pub change_refusal : Reply
  change_refusal = first_of change_tests

  unfoldable pub change_of : Outcome
  change_of = or_refused change_refusal h nodes table (carried h t q ongoing nodes table decision)
