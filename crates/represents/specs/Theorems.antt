-- The theorem for each call: each is a named statement, under the sentence that it carries out. `proofs/Proved.antt` has the proof of each.
use Rattle.std.specs.Prelude.{ℕ, ◌/◌, ◌<◌, true, false, not, ◌&&◌, ◌≡◌, List, [], ◌∷◌, leb, length}
use Rattle.layout.specs.declared.Shape.{Shape}
use Rattle.layout.specs.Layout.{entry_size}
use Rattle.record.specs.declared.History.{History}
use Rattle.record.specs.Refusals.{number_of}
use Rattle.record.specs.Sound.{last_time, shape_allowed, sound, long_enough}
use Rattle.transient.specs.Transient.{ongoing_at, ongoing_sound}
use Rattle.calls.specs.Outcome.{Outcome}
use Rattle.calls.specs.Open.{blank, opened, open_of}
use Rattle.model.specs.Transient.{Call}
use Rattle.model.specs.Refusals.{first_of, refuse}
use Rattle.model.specs.Theorems.{left, Calls64}
use Rattle.represents.specs.Represents.{shape_of}
use Rattle.represents.specs.Histories.{Opening, run_of, Stands}
use Rattle.represents.specs.Calls.{outcome_of, ran_of}

-- ═══ What is said, and what stands ═══

-- the number that an outcome is answered with
abbrev pub number : Outcome → ℕ
number o = number_of o.answer.refusal

-- what is left stands for these calls after this opening
abbrev pub Left : Opening → List Call → Outcome → Type 0
Left p cs o = Stands p cs o.answer.history o.nodes o.table

-- the model's answer to one more call
abbrev pub expected : Opening → List Call → Call → ℕ
expected p cs c = refuse (shape_of p.shape) p.shape.n p.entries (left (run_of p cs)) c

-- every record and pair of buffers that stand for a run, with that run
abbrev pub Standing : (Opening → List Call → History → List ℕ → List ℕ → Type 0) → Type 0
Standing P = (p : Opening) (cs : List Call) (h : History) (b table : List ℕ) → Stands p cs h b table → P p cs h b table

-- ═══ Opening ═══

abbrev pub opening_of : ℕ → ℕ → Shape → List ℕ → Opening
opening_of start attributes s table = record { shape = s; start = start; attributes = attributes; entries = length table / entry_size }

-- "opening 1, 2": "1 opening: a number of the list above, its start included, outside its range"; "2 a lent buffer too short"
abbrev pub OpenAnswers : Type 0
OpenAnswers = (start attributes : ℕ) (s : Shape) (b table : List ℕ) → number (open_of start attributes s b table) ≡ first_of (
    (not (shape_allowed s && leb start last_time && leb attributes 4096), 1)
    ∷ (not (long_enough (opened start attributes s) (length b) (length table)), 2)
    ∷ []
    )

-- Refused, it gives a record of zeros, "and nothing written".
abbrev pub OpenKeeps : Type 0
OpenKeeps = (start attributes : ℕ) (s : Shape) (b table : List ℕ) → let o = open_of start attributes s b table in
    (number o ≡ 0 → ⊥) → (o.answer.history ≡ blank) × (o.nodes ≡ b) × (o.table ≡ table)

-- Accepted, what it leaves stands for the history with no call yet.
abbrev pub OpenStands : Type 0
OpenStands = (start attributes : ℕ) (s : Shape) (b table : List ℕ) → let o = open_of start attributes s b table in number o ≡ 0 → Left (opening_of start attributes s table) [] o

-- ═══ Set, remove, increment, add and finish ═══

-- "Each number is given exactly then": the answer is the model's. (Every set gives an i64.)
abbrev pub CallAnswers : Type 0
CallAnswers = Standing λ p cs h b table. (c : Call) → Calls64 (c ∷ []) → number (outcome_of c h b table) ≡ expected p cs c

-- "A refusal returns its number .., the record as it came, and nothing written."
abbrev pub CallKeeps : Type 0
CallKeeps = Standing λ p cs h b table. (c : Call) → Calls64 (c ∷ []) → let o = outcome_of c h b table in
    (number o ≡ 0 → ⊥) → (o.answer.history ≡ h) × (o.nodes ≡ b) × (o.table ≡ table)

-- What is left stands for the run with the call, refused or not: where it is accepted, for the model's next history.
abbrev pub CallStands : Type 0
CallStands = Standing λ p cs h b table. (c : Call) → Calls64 (c ∷ []) → Left p (c ∷ cs) (outcome_of c h b table)

-- "any sequence of calls on one history from its opening": what they leave stands for them.
abbrev pub RunStands : Type 0
RunStands = (start attributes : ℕ) (s : Shape) (b table : List ℕ) → let o = open_of start attributes s b table in
    number o ≡ 0 → (cs : List Call) → Calls64 cs → Left (opening_of start attributes s table) cs (ran_of cs o)

-- ═══ So no call and no question is answered 3 for its record or an ongoing entry, or 2 for the buffers ═══

abbrev pub RecordSound : Type 0
RecordSound = Standing λ p cs h b table. sound h ≡ true

abbrev pub BuffersLong : Type 0
BuffersLong = Standing λ p cs h b table. long_enough h (length b) (length table) ≡ true

abbrev pub EntriesSound : Type 0
EntriesSound = Standing λ p cs h b table. h.finished ≡ false → (q : ℕ) → q < h.attributes → ongoing_sound (ongoing_at table q) h.start h.latest ≡ true
