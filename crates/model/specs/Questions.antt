-- Questions: the walk of document 01; and, apart from it, the linear scan over all intervals and the tally over all nodes; and what was said.
use Rattle.std.specs.Prelude.{ℕ, zero, suc, Bool, cond, not, ◌&&◌, List, [], ◌∷◌, ◌++◌, leb, eqb, length, get_or}
use Rattle.std.proofs.Math.Option.{Option, none, some}
use Rattle.model.specs.State.{State, null}
use Rattle.model.specs.Transient.{Interval, Call, change, add, finish, becomes, History}
use Rattle.model.specs.Build.{Subtrees, childless, also, Shape}
use Rattle.model.specs.Nodes.{∞, Node, blank, node, placed, standing, intervals}

-- the elements that pass a test
module _ {A : Type 0} where
  abbrev pub only : (A → Bool) → List A → List A
  only p [] = []
  only p (x ∷ xs) = cond (p x) (x ∷ only p xs) (only p xs)

-- a node's bounds hold t. "An open node holds every t from its start": its end is 2^64-1.
abbrev pub holds : ℕ → Node → Bool
holds t n = leb n.start t && leb t n.end

abbrev pub covers : ℕ → ℕ → Interval → Bool
covers q t x = eqb x.quark q && (leb x.start t && leb t x.end)

-- ═══ The scan and the tally: what answers are measured by ═══

-- "until finish", q's ongoing state, where its start is at or below t
abbrev pub ongoing : History → ℕ → ℕ → Bool
ongoing l q t = not l.finished && leb (l.table q).start t

-- that state as an interval: "end 2^64-1"
abbrev pub current : History → ℕ → ℕ → List Interval
current l q t = cond (ongoing l q t) (record { quark = q; state = (l.table q).state; start = (l.table q).start; end = ∞ } ∷ []) []

-- every interval of q that covers t, ongoing or stored
unfoldable pub scan : History → ℕ → ℕ → List Interval
scan l q t = current l q t ++ only (covers q t) l.stored

-- the scans of the first n attributes, in quark order
abbrev pub scans : History → ℕ → ℕ → List Interval
scans l t zero = []
scans l t (suc n) = scans l t n ++ scan l n t

-- how many of ALL nodes have bounds that hold t
unfoldable pub tally : ℕ → List Node → ℕ
tally t ns = length (only (holds t) ns)

-- ═══ The walk ═══

-- "it walks from the root: enter a node, look at all its intervals, take the last child entry with start at or below t, and go on if that child's bounds hold
-- t": the nodes entered. The last child comes first in `Subtrees`. The root is the one child of nothing, so it is met like a child; from the history's start to
-- its latest time it always holds t.
abbrev pub walk : ℕ → Option ℕ → Subtrees → List Node
walk t p childless = []
walk t p (also ks h e k) = cond (leb h.start t) (cond (leb t e) (node p h e k ∷ walk t (some h.seq) k) []) (walk t p ks)

-- The same by places, on a list of nodes: the child is found by its entry, and its own bounds are looked at where it stands. `chase` enters no more than n nodes,
-- the first at place i. The theorem `WalkedByPlace` says that the two agree.
abbrev pub or_else : Option ℕ → Option ℕ → Option ℕ
or_else none b = b
or_else (some a) b = some a

-- "the last child entry with start at or below t"
abbrev pub last_at : ℕ → List (ℕ × ℕ) → Option ℕ
last_at t [] = none
last_at t (c ∷ cs) = or_else (last_at t cs) (cond (leb c.1 t) (some c.0) none)

-- "and go on if that child's bounds hold t"
abbrev pub onward : ℕ → List Node → (ℕ → List Node) → Option ℕ → List Node
onward t ns go none = []
onward t ns go (some c) = cond (holds t (get_or ns (placed c) blank)) (go c) []

abbrev pub chase : ℕ → ℕ → List Node → ℕ → List Node
chase zero t ns i = []
chase (suc n) t ns i = get_or ns (placed i) blank ∷ onward t ns (chase n t ns) (last_at t (get_or ns (placed i) blank).children)

-- ═══ The answers ═══

pub record Answer : Type 0 where
  pub found : List Interval
  pub entered : List Node

-- "On an unfinished history a single query whose ongoing start is at or below t answers from the table: .. no nodes entered. Otherwise it walks from the root."
-- The first list is what the table has, w are the nodes of the walk.
abbrev pub answer : List Interval → List Node → ℕ → ℕ → Answer
answer (x ∷ xs) w q t = record { found = x ∷ xs; entered = [] }
answer [] w q t = record { found = only (covers q t) (intervals w); entered = w }

unfoldable pub single : Shape → History → ℕ → ℕ → Answer
single sh l q t = answer (current l q t) (walk t none (standing sh l)) q t

-- "A full query does one walk, takes ongoing states in the same way, and writes one interval entry per attribute, in quark order": of the first n attributes all that is
-- found over table and walk. That this is one interval each is the theorem `OneFound`.
abbrev pub each : History → List Node → ℕ → ℕ → List Interval
each l w t zero = []
each l w t (suc n) = each l w t n ++ (current l n t ++ only (covers n t) (intervals w))

unfoldable pub full : Shape → History → ℕ → Answer
full sh l t = let w = walk t none (standing sh l) in record { found = each l w t l.attributes; entered = w }

-- ═══ What was said of an attribute ═══

-- "the value of its last accepted change not after t, or null", from the changes alone. What an increment adds to is what was said before it: the times of
-- accepted changes do not fall.
unfoldable pub said : List Call → ℕ → ℕ → State
said [] q t = null
said (change τ x c ∷ cs) q t = cond (eqb x q && leb τ t) (becomes c (said cs q t)) (said cs q t)
said (add ∷ cs) q t = said cs q t
said (finish τ ∷ cs) q t = said cs q t
