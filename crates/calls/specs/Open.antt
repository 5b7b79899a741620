-- Opening. Document 01: "opening 1, 2".
use Rattle.std.specs.Prelude.{ℕ, zero, suc, ◌+◌, Bool, false, not, ◌&&◌, List, [], ◌∷◌, leb, length, replicate, set}
use Rattle.layout.specs.declared.Shape.{Shape}
use Rattle.record.specs.declared.History.{History}
use Rattle.record.specs.Refusals.{Reply, Nothing, Numbers, Short, first_of}
use Rattle.record.specs.Sound.{last_time, shape_allowed, long_enough}
use Rattle.transient.specs.Transient.{begins, with_ongoing}
use Rattle.build.specs.Write.{planted}
use Rattle.calls.specs.Outcome.{Outcome, answered, outcome, or_refused}

-- a record of zeros: none came
unfoldable pub blank : History
blank = record {
  shape = record { k = 0; c = 0; n = 0 };
  start = 0;
  latest = 0;
  largest_end = 0;
  attributes = 0;
  used = 0;
  low = 0;
  top = 0;
  finished = false;
  branch = record { places = replicate 16 0; starts = replicate 16 0; intervals = replicate 16 0; children = replicate 16 0; last_ends = replicate 16 0 };
}

-- "Opening makes node 0: level 0, open, empty, starting at the history's start." "The latest time is the start at first"; "S is .. (the start, at first)".
unfoldable pub opened : ℕ → ℕ → Shape → History
opened start attributes shape = record {
  shape = shape;
  start = start;
  latest = start;
  largest_end = start;
  attributes = attributes;
  used = 1;
  low = 0;
  top = 0;
  finished = false;
  branch = record { places = replicate 16 0; starts = set (replicate 16 0) 0 start; intervals = replicate 16 0; children = replicate 16 0; last_ends = replicate 16 0 };
}

-- "At opening .. it is null from the history's start": the entries of n attributes from q on
unfoldable pub table_opened : ℕ → ℕ → ℕ → List ℕ → List ℕ
table_opened start zero q table = table
table_opened start (suc n) q table = table_opened start n (q + 1) (with_ongoing table (record { 0 = q }) (begins start))

-- "1 opening: a number of the list above, its start included, outside its range"; "2 a lent buffer too short"
abbrev pub open_tests : ℕ → ℕ → Shape → ℕ → ℕ → List (Bool × Reply)
open_tests start attributes shape nodes table =
    (not (shape_allowed shape && leb start last_time && leb attributes 4096), Numbers)
    ∷ (not (long_enough (opened start attributes shape) nodes table), Short)
    ∷ []

unfoldable pub open_refusal : ℕ → ℕ → Shape → ℕ → ℕ → Reply
open_refusal start attributes shape nodes table = first_of (open_tests start attributes shape nodes table)

-- beside a record that came
unfoldable pub open_on : History → ℕ → ℕ → Shape → List ℕ → List ℕ → Outcome
open_on came start attributes shape nodes table =
    let h = opened start attributes shape in
    or_refused (open_refusal start attributes shape (length nodes) (length table)) came nodes table
    (outcome (answered Nothing h) (planted h nodes) (table_opened start attributes 0 table))

-- beside none
unfoldable pub open_of : ℕ → ℕ → Shape → List ℕ → List ℕ → Outcome
open_of start attributes shape nodes table = open_on blank start attributes shape nodes table
