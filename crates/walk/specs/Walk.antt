-- The walk from the root, on any bytes: document 01, "Otherwise it walks from the root".
use Rattle.std.specs.Prelude.{ℕ, zero, suc, ◌+◌, ◌*◌, Bool, true, false, cond, ◌&&◌, List, nat_le, nat_lt, Option, Some, None, Result, Ok, Err}
use Rattle.layout.specs.declared.Child.{Child}
use Rattle.layout.specs.declared.Header.{Header}
use Rattle.layout.specs.declared.Seq.{Seq}
use Rattle.layout.specs.Layout.{child_size, entry_size, node_size, child_at, entry_at, read_header, read_child, read_entry}
use Rattle.walk.specs.declared.View.{View}
use Rattle.walk.specs.declared.Due.{Due}
use Rattle.walk.specs.declared.Breach.{Breach}
use Rattle.walk.specs.Standing.{Walk, due_at}
use Rattle.walk.specs.declared.Rule.{Rule}
use Rattle.walk.specs.declared.Rule.TheVariants.{R1, R6}
use Rattle.walk.specs.Rules.{broken, kept, entry_sound, holds}

-- "Node i stands at i times the node size."
abbrev pub place_of : View → Seq → ℕ
place_of v s = s.0 * node_size v.shape

-- ═══ Where a walk stands ═══

-- at the root
unfoldable pub root_of : View → Walk
root_of v = record { go = true; rule = None; place = v.root; root = true; start = 0; end = 0; entered = 0 }

-- it has ended: well (`None`), or since the node at `place` breaks a rule
unfoldable pub ended : Walk → Option Rule → Seq → Walk
ended w rule place = record { go = false; rule = rule; place = place; root = w.root; start = w.start; end = w.end; entered = w.entered }

-- one more node was entered
unfoldable pub counted : Walk → Walk
counted w = record { go = w.go; rule = w.rule; place = w.place; root = w.root; start = w.start; end = w.end; entered = w.entered + 1 }

-- at a child, under a parent with this end
unfoldable pub onward : Walk → Child → ℕ → Walk
onward w c end = record { go = true; rule = None; place = c.sequence; root = false; start = c.start; end = end; entered = w.entered }

-- after a way down from where it stood, as the code tells it: onto a node that is due, ended well, or by a rule that is broken
abbrev pub after : Walk → Result (Option Due) Breach → Walk
after w (Ok (Some d)) = due_at d w.entered
after w (Ok None) = ended w None w.place
after w (Err b) = ended w (Some b.rule) b.place

-- ═══ One node ═══

-- R6 of the n entries from byte p on; b: of those before
unfoldable pub all_sound : List ℕ → ℕ → Header → ℕ → ℕ → Bool → Bool
all_sound l attributes h p zero b = b
all_sound l attributes h p (suc n) b = all_sound l attributes h (p + entry_size) n (b && entry_sound attributes h (read_entry l p))

-- "take the last child entry with start at or below t": of the n entries from byte p on, the first of them the i-th, the number of the last by position,
-- else k
unfoldable pub pick : List ℕ → ℕ → ℕ → ℕ → ℕ → Option ℕ → Option ℕ
pick l t p i zero k = k
pick l t p i (suc n) k = pick l t (p + child_size) (i + 1) n (cond (nat_le (read_child l p).start t) (Some i) k)

-- "and go on if that child's bounds hold t": "a child's place is tested against the used count before its header is read"
unfoldable pub child : List ℕ → View → ℕ → ℕ → Child → Walk → Walk
child l v t end c w =
    cond (nat_lt c.sequence.0 v.used)
    (cond (holds t (read_header l (place_of v c.sequence))) (onward w c end) (ended w None w.place))
    (ended w (Some R1) c.sequence)

-- down from the node with header h at byte p to the child that was picked, if one was
unfoldable pub down_to : List ℕ → View → ℕ → Header → ℕ → Option ℕ → Walk → Walk
down_to l v t h p None w = ended w None w.place
down_to l v t h p (Some i) w = child l v t h.end (read_child l (p + child_at i)) w

-- the node at byte p was entered and its intervals looked at
unfoldable pub descend : List ℕ → View → ℕ → Header → ℕ → Walk → Walk
descend l v t h p w = down_to l v t h p (pick l t (p + child_at 0) 0 h.children None) (counted w)

-- R6 of all its entries, then down
unfoldable pub inside : List ℕ → View → ℕ → Header → ℕ → Walk → Walk
inside l v t h p w =
    cond (all_sound l v.attributes h (p + entry_at v.shape 0) h.intervals true) (descend l v t h p w) (ended w (Some R6) w.place)

-- the node with header h at byte p, of which `level` is due, is entered: R1 to R5, then inside
unfoldable pub enter : List ℕ → View → ℕ → ℕ → Header → ℕ → Walk → Walk
enter l v t level h p w = cond (kept (broken v w level h)) (inside l v t h p w) (ended w (broken v w level h) w.place)

unfoldable pub step : List ℕ → View → ℕ → ℕ → Walk → Walk
step l v t level w = enter l v t level (read_header l (place_of v w.place)) (place_of v w.place) w

-- ═══ All of them ═══

-- at most n nodes are entered, the first of them due at level n - 1
unfoldable pub walk : List ℕ → View → ℕ → ℕ → Walk → Walk
walk l v t zero w = w
walk l v t (suc n) w = cond w.go (walk l v t n (step l v t n w)) w

-- the root is always entered, and at most one node a level
unfoldable pub walk_of : List ℕ → View → ℕ → Walk
walk_of l v t = walk l v t (v.level + 1) (root_of v)
