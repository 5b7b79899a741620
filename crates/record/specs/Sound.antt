-- When a record is sound, and lent buffers long enough: document 01, "Numbers", "A record is sound when", and number 2 of the table.
use Rattle.std.specs.Prelude.{ℕ, zero, suc, ◌+◌, ◌-◌, ◌*◌, ◌/◌, Bool, true, false, cond, not, ◌&&◌, ◌||◌, [], ◌∷◌, leb, ltb, eqb}
use Rattle.layout.specs.declared.Shape.{Shape}
use Rattle.layout.specs.Layout.{node_size, entry_size}
use Rattle.record.specs.declared.Branch.{Branch}
use Rattle.record.specs.declared.History.{History}
use Rattle.record.specs.Refusals.{Reply, Damaged, Short, first_of}
use Rattle.record.specs.Levels.{place_at, start_at, intervals_at, children_at, last_end_at}

-- "Start and event times 0 to 2^63-1."
abbrev pub last_time : ℕ
last_time = 9223372036854775807

-- "K intervals per node, at least 1; C children, 2 to 50. Node size 32 + 12C + 32K, at most 65,536 bytes. N nodes, 1 to 65,536."
unfoldable pub shape_allowed : Shape → Bool
shape_allowed s = leb 1 s.k && leb 2 s.c && leb s.c 50 && leb (node_size s) 65536 && leb 1 s.n && leb s.n 65536

-- "numbers are within limits, the used count 1 to N, .. start is at or below latest, S .. [lies] in that span"
unfoldable pub numbers_sound : History → Bool
numbers_sound h =
    leb h.attributes 4096
    && leb h.latest last_time
    && leb h.start h.latest
    && leb h.start h.largest_end
    && leb h.largest_end h.latest
    && leb h.top 15
    && leb 1 h.used
    && leb h.used h.shape.n

-- p holds of the n numbers from i on
unfoldable pub all : (ℕ → Bool) → ℕ → ℕ → Bool
all p i zero = true
all p i (suc n) = cond (p i) (all p (i + 1) n) false

-- "open counts within K and C, places .. are below the used count, .. every open level above 0 has a child"
unfoldable pub level_sound : Branch → Shape → ℕ → ℕ → Bool
level_sound b s used l =
    leb (intervals_at b l) s.k && leb (children_at b l) s.c && ltb (place_at b l) used && (eqb l 0 || leb 1 (children_at b l))

-- "places differ": that of a level from those of the n levels above it
unfoldable pub apart : Branch → ℕ → ℕ → Bool
apart b l n = all (λ j. not (eqb (place_at b j) (place_at b l))) (l + 1) n

unfoldable pub levels_sound : Branch → Shape → ℕ → ℕ → ℕ → Bool
levels_sound b s used low top = all (λ l. cond (level_sound b s used l) (apart b l (top - l)) false) low (top + 1 - low)

-- "with starts not growing upwards"
unfoldable pub starts_fall : Branch → ℕ → ℕ → Bool
starts_fall b low top = all (λ l. leb (start_at b (l + 1)) (start_at b l)) low (top - low)

-- "the last-child end of an open level without open child [lies] in that span": only the lowest open level is without an open child, and level 0 has none at all
unfoldable pub last_end_sound : Branch → ℕ → ℕ → ℕ → Bool
last_end_sound b low start latest = eqb low 0 || (leb start (last_end_at b low) && leb (last_end_at b low) latest)

-- "open levels run unbroken up to the root (none once finished) with starts not growing upwards and the root's equal to the history's":
-- the open levels are low to top
unfoldable pub branch_sound : History → Bool
branch_sound h =
    let b = h.branch in
    cond h.finished
    (eqb h.low (h.top + 1) && ltb (place_at b h.top) h.used)
    (cond (leb h.low h.top)
    (cond (eqb (start_at b h.top) h.start)
    (cond (last_end_sound b h.low h.start h.latest)
    (cond (starts_fall b h.low h.top) (levels_sound b h.shape h.used h.low h.top) false)
    false)
    false)
    false)

-- "A record is sound when"
unfoldable pub sound : History → Bool
sound h = cond (shape_allowed h.shape) (cond (numbers_sound h) (branch_sound h) false) false

-- "a lent buffer too short: nodes under N times size, table under the attribute count (not once finished)"
unfoldable pub long_enough : History → ℕ → ℕ → Bool
long_enough h nodes table = leb (h.shape.n * node_size h.shape) nodes && (h.finished || leb h.attributes (table / entry_size))

-- "3 record, 2": the head of every call and question
unfoldable pub admitted : History → ℕ → ℕ → Reply
admitted h nodes table = first_of ((not (sound h), Damaged) ∷ (not (long_enough h nodes table), Short) ∷ [])
