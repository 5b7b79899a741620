-- R1 to R6 of one node that is entered: document 01, "A node entered must satisfy".
use Rattle.std.specs.Prelude.{ℕ, Bool, cond, not, ◌&&◌, ◌||◌, ◌==◌, nat_le, nat_lt, Option, Some, None, is_none}
use Rattle.layout.specs.declared.Header.{Header}
use Rattle.layout.specs.declared.Entry.{Entry}
use Rattle.transient.specs.Transient.{state_sound}
use Rattle.walk.specs.declared.View.{View}
use Rattle.walk.specs.Standing.{Walk}
use Rattle.walk.specs.declared.Rule.{Rule}
use Rattle.walk.specs.declared.Rule.TheVariants.{R1, R2, R3, R4, R5}

-- "R1 sequence is its place, below the used count"
unfoldable pub r1 : View → Walk → Header → Bool
r1 v w h = h.sequence.0 == w.place.0 && nat_lt h.sequence.0 v.used

-- "R2 level one below its parent's (the root's as recorded)": the walk counts the levels down
unfoldable pub r2 : ℕ → Header → Bool
r2 level h = h.level == level

-- "R3 start not after end, state 1 or 2"
unfoldable pub r3 : Header → Bool
r3 h = nat_le h.start h.end && (h.state == 1 || h.state == 2)

-- "R4 counts within K and C, no child at level 0"
unfoldable pub r4 : View → Header → Bool
r4 v h = nat_le h.intervals v.shape.k && nat_le h.children v.shape.c && (not (h.level == 0) || h.children == 0)

-- "R5 its start equals its entry in the parent, its end not after the parent's": the root has no parent
unfoldable pub r5 : Walk → Header → Bool
r5 w h = w.root || (h.start == w.start && nat_le h.end w.end)

-- the lowest of R1 to R5 that a header breaks, if it breaks any
unfoldable pub broken : View → Walk → ℕ → Header → Option Rule
broken v w level h = cond (r1 v w h) (cond (r2 level h) (cond (r3 h) (cond (r4 v h) (cond (r5 w h) None (Some R5)) (Some R4)) (Some R3)) (Some R2)) (Some R1)

-- no rule is broken
abbrev pub kept : Option Rule → Bool
kept rule = is_none rule

-- "R6 each used interval has a known quark, kind 0 (value 0) or 1, start not after end, inside the node"
unfoldable pub entry_sound : ℕ → Header → Entry → Bool
entry_sound attributes h e =
    nat_lt e.quark.0 attributes && state_sound e.kind e.value && nat_le e.start e.end && nat_le h.start e.start && nat_le e.end h.end

-- a node's bounds hold t: "An open node holds every t from its start."
unfoldable pub holds : ℕ → Header → Bool
holds t h = nat_le h.start t && (h.state == 1 || nat_le t h.end)

-- an interval, ends included, covers t
unfoldable pub covers : ℕ → Entry → Bool
covers t e = nat_le e.start t && nat_le t e.end
