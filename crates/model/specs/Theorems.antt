-- The theorems: each is a named statement about a run of calls, under the sentence that it carries out. `proofs/Proved.antt` has the proof of each.
use Rattle.std.specs.Prelude.{ℕ, zero, suc, ◌^◌, ◌≤◌, ◌<◌, false, cond, ◌≡◌, ◌⊎◌, eqb, length, get_or}
use mathlib.Core.List.{List, [], ◌∷◌, ◌++◌, map, foldl, reverse, Permᴰ}
use Rattle.std.proofs.Math.Option.{none}
use Rattle.model.specs.State.{State, int, Within64}
use Rattle.model.specs.Transient.{Interval, Change, set, remove, increment, Call, change, add, finish, History, stores, step, history}
use Rattle.model.specs.Build.{Head, Subtrees, childless, also, Open, Shape, Tree, planted, new_root, due, grow, keep, verdict, insert, onto, build, depth}
use Rattle.model.specs.Nodes.{∞, Node, blank, preorder, nodes, placed, tree_of, open_end, standing, seqs, upto, intervals}
use Rattle.model.specs.Questions.{only, covers, ongoing, current, scan, scans, tally, walk, chase, single, full, said}
use Rattle.model.specs.Refusals.{refuse_stated, refuse, accepted, refuse_single, refuse_full}
use Rattle.model.specs.Invariant.{Shaped, Sound, Rooms}
use Rattle.model.specs.Rules.{Sits, Known}

-- ═══ A run ═══

-- "Take any sequence of calls on one history from its opening": the numbers of the opening, the entries of the lent table, and the calls, refused ones among
-- them, the latest first.
pub record Run : Type 0 where
  pub shape : Shape
  pub room : ℕ  -- N nodes
  pub entries : ℕ  -- of the table
  pub start : ℕ
  pub attributes : ℕ
  pub calls : List Call

-- What opening tests that these theorems need: "K .. at least 1; C children, 2 to 50", "N nodes, 1 to 65,536", "Start .. times 0 to 2^63-1".
pub record Allowed (r : Run) : Type 0 where
  pub shaped : Shaped r.shape
  pub some : 1 ≤ r.room
  pub begins : r.start < 2 ^ 63

-- the accepted calls, the history that they leave, its tree by the build rule, and its nodes in the order of their sequence numbers
abbrev pub taken : Run → List Call
taken r = accepted r.shape r.room r.entries r.start r.attributes r.calls

abbrev pub left : Run → History
left r = history r.start r.attributes (taken r)

abbrev pub tree : Run → Tree
tree r = tree_of r.shape (left r)

abbrev pub stands : Run → Subtrees
stands r = standing r.shape (left r)

abbrev pub made : Run → List Node
made r = nodes (stands r)

-- the run with one more call, refused or not
abbrev pub called : Run → Call → Run
called r c = record { shape = r.shape; room = r.room; entries = r.entries; start = r.start; attributes = r.attributes; calls = c ∷ r.calls }

-- ═══ The tree ═══

-- The invariant of the tree: levels go down by one, the children of a node fill its time from its start without a gap, intervals lie within their node, no count
-- passes K or C, and a node above level 0 has a child.
pub record TreeSound (r : Run) : Type 0 where
  pub sound : Sound (tree r)
  pub rooms : Rooms r.shape (tree r).branch

-- "Depth at most 16", "N nodes": accepted calls stay within the limits.
pub record WithinLimits (r : Run) : Type 0 where
  pub deep : depth (tree r).branch ≤ 16
  pub used : (tree r).used ≤ r.room

-- The tree is what storing the intervals one after another makes, here with the first one first.
abbrev pub StoredInOrder : Type 0
StoredInOrder = (sh : Shape) (s : ℕ) (ivs : List Interval) → build sh s (reverse ivs) ≡ foldl (λ t iv. insert sh iv t) (planted s) ivs

-- What a call stores goes on top of the tree that is there: the tree made afresh from all intervals is the same.
abbrev pub StoredOnTop : Type 0
StoredOnTop = (sh : Shape) (c : Call) (l : History) → tree_of sh (step c l) ≡ onto sh (stores c l) (tree_of sh l)

-- A new root answers the question by rule 1 or 2, and is never closed in the same call: this is what `ask_new` makes of it.
abbrev pub NewRootAsked : Type 0
NewRootAsked = (sh : Shape) → Shaped sh → (o S q s : ℕ) (f : Open) → let r = new_root o S q f in verdict sh [] r s ≡ cond (due [] r s) grow keep

-- ═══ Nodes ═══

-- Sequence numbers are places: the nodes have the numbers 0, 1, 2, .. in this order, as many as were made.
abbrev pub Numbered : Run → Type 0
Numbered r = seqs (made r) ≡ upto (tree r).used

-- No node of the tree is left out, and none stands twice.
abbrev pub EachNodeOnce : Run → Type 0
EachNodeOnce r = Permᴰ (made r) (preorder none (stands r))

-- "No byte of a node closed before the call differs": a node that is not open before a call, refused or not, is the same after it, and at the same place.
abbrev pub ClosedKept : Run → Type 0
ClosedKept r = (c : Call) (i : ℕ) → i < length (made r) → ((get_or (made r) (placed i) blank).end ≡ ∞ → ⊥)
    → get_or (made (called r c)) (placed i) blank ≡ get_or (made r) (placed i) blank

-- Until finish a node is open, with the end 2^64-1, or it ended by the latest time: so its end says whether it is open.
abbrev pub OpenOrEnded : Run → Type 0
OpenOrEnded r = (left r).finished ≡ false → (i : ℕ) → i < length (made r)
    → ((get_or (made r) (placed i) blank).end ≡ ∞) ⊎ ((get_or (made r) (placed i) blank).end ≤ (left r).latest)

-- Every stored interval stands in exactly one node.
abbrev pub StoredOnce : Run → Type 0
StoredOnce r = Permᴰ (intervals (made r)) (left r).stored

-- ═══ Questions ═══

-- For each attribute exactly one interval, stored or ongoing, covers each t from start to latest.
abbrev pub OneCovers : Run → Type 0
OneCovers r = (q t : ℕ) → refuse_single (left r) q t ≡ 0 → (x : Interval) × (scan (left r) q t ≡ x ∷ [])

-- "Each accepted question answers as a scan over all intervals does."
abbrev pub SingleScans : Run → Type 0
SingleScans r = (q t : ℕ) → refuse_single (left r) q t ≡ 0 → (single r.shape (left r) q t).found ≡ scan (left r) q t

abbrev pub FullScans : Run → Type 0
FullScans r = (t : ℕ) → refuse_full (left r) t ≡ 0 → (full r.shape (left r) t).found ≡ scans (left r) t (left r).attributes

-- "The nodes entered are as many as have bounds holding t, or none where a single question is answered by an ongoing state."
abbrev pub SingleEnters : Run → Type 0
SingleEnters r = (q t : ℕ) → length (single r.shape (left r) q t).entered ≡ cond (ongoing (left r) q t) 0 (tally t (made r))

abbrev pub FullEnters : Run → Type 0
FullEnters r = (t : ℕ) → length (full r.shape (left r) t).entered ≡ tally t (made r)

-- "a question about an attribute at t, from the start to the latest accepted time, gives the value of its last accepted change not after t, or null"
abbrev pub ValueSaid : Run → Type 0
ValueSaid r = (q t : ℕ) → refuse_single (left r) q t ≡ 0
    → (x : Interval) × ((single r.shape (left r) q t).found ≡ x ∷ []) × (x.state ≡ said (taken r) q t)

-- A full question gives "one interval entry per attribute, in quark order", each with the state that was said last.
abbrev pub all_said : List Call → ℕ → ℕ → List State
all_said cs t zero = []
all_said cs t (suc n) = all_said cs t n ++ said cs n t ∷ []

abbrev pub FullSaid : Run → Type 0
FullSaid r = (t : ℕ) → refuse_full (left r) t ≡ 0 → let xs = (full r.shape (left r) t).found in
    (map (λ x. x.quark) xs ≡ upto (left r).attributes) × (map (λ x. x.state) xs ≡ all_said (taken r) t (left r).attributes)

-- The walk by places, from the root's place and with its level for the number of steps, is the walk.
pub record WalkedByPlace (r : Run) : Type 0 where
  pub root : Head
  pub below : Subtrees
  pub rooted : stands r ≡ also childless root (open_end (left r)) below
  pub walked : (t : ℕ) → refuse_full (left r) t ≡ 0 → chase (suc root.level) t (made r) root.seq ≡ walk t none (stands r)

-- ═══ R1 to R7 hold, so no question on such a history is answered 3 ═══

-- R1 to R5 and R6's bounds, of every node and of the children that it has entries for. The root's place and level are in `WalkedByPlace`; a node's state (R3) is
-- `state_of` its end and an interval's kind (R6) `kind_of` its state, so both are what they have to be.
abbrev pub NodesSit : Run → Type 0
NodesSit r = (i : ℕ) → i < length (made r) → ((get_or (made r) (placed i) blank).seq ≡ i) × Sits r.shape (made r) (get_or (made r) (placed i) blank)

-- R6 "a known quark"
abbrev pub QuarksKnown : Run → Type 0
QuarksKnown r = Known (left r).attributes (intervals (made r))

-- R7 "for each quark asked, exactly one covering interval over walk and, until finish, ongoing table"
abbrev pub OneFound : Run → Type 0
OneFound r = (q t : ℕ) → refuse_single (left r) q t ≡ 0
    → (x : Interval) × (current (left r) q t ++ only (covers q t) (intervals (walk t none (stands r))) ≡ x ∷ [])

-- ═══ Values ═══

-- the values that sets give, and those of intervals, within an i64
abbrev pub Change64 : Change → Type 0
Change64 (set v) = Within64 (int v)
Change64 remove = Unit {0}
Change64 increment = Unit {0}

abbrev pub Calls64 : List Call → Type 0
Calls64 [] = Unit {0}
Calls64 (change t q c ∷ cs) = Change64 c × Calls64 cs
Calls64 (add ∷ cs) = Calls64 cs
Calls64 (finish t ∷ cs) = Calls64 cs

abbrev pub All64 : List Interval → Type 0
All64 [] = Unit {0}
All64 (x ∷ xs) = Within64 x.state × All64 xs

pub record History64 (r : Run) : Type 0 where
  pub table : (q : ℕ) → Within64 ((left r).table q).state
  pub stored : All64 (left r).stored
  pub held : All64 (intervals (made r))

-- "signed 64-bit integers": where every set gives a value within an i64, so are all values of the history, in the table, stored, and in the nodes.
abbrev pub Values64 : Run → Type 0
Values64 r = Calls64 r.calls → History64 r

-- ═══ The shape does not show ═══

-- the calls that would be accepted if no limit were met: no K, C or N
unfoldable pub accepted_stated : ℕ → ℕ → ℕ → List Call → List Call
accepted_stated M s n [] = []
accepted_stated M s n (c ∷ cs) = let a = accepted_stated M s n cs in cond (eqb (refuse_stated M (history s n a) c) 0) (c ∷ a) a

-- no call is answered 10 or 11
unfoldable pub Unlimited : Shape → ℕ → ℕ → ℕ → ℕ → List Call → Type 0
Unlimited sh N M s n [] = Unit {0}
Unlimited sh N M s n (c ∷ cs) =
    let r = refuse sh N M (history s n (accepted sh N M s n cs)) c in (r ≡ 10 → ⊥) × (r ≡ 11 → ⊥) × Unlimited sh N M s n cs

-- Where no call is answered 10 or 11, the calls alone decide which of them are accepted, and so what they leave and what was said.
abbrev pub ShapeFree : Run → Type 0
ShapeFree r = Unlimited r.shape r.room r.entries r.start r.attributes r.calls
    → taken r ≡ accepted_stated r.entries r.start r.attributes r.calls
