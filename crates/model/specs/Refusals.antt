-- What a call and a question say, on a history that only calls have touched and with buffers that are long enough: 0, or a number of document 01's table.
-- So there is no 1 (opening), no 2 (lengths) and no 3 (damage) here; 12 to 16 are the feed's.
use Rattle.std.specs.Prelude.{ℕ, zero, suc, ◌-◌, ◌^◌, Bool, false, cond, not, ◌&&◌, ◌||◌, List, [], ◌∷◌, leb, ltb, eqb}
use Rattle.model.specs.State.{State, is_top}
use Rattle.model.specs.Transient.{Interval, Change, set, remove, increment, Call, change, add, finish, History, stores, history}
use Rattle.model.specs.Build.{Shape, Tree, onto, depth}
use Rattle.model.specs.Nodes.{tree_of}

-- The order of refusals is a list of tests, each with its number; the first that holds decides.
abbrev pub first_of : List (Bool × ℕ) → ℕ
first_of [] = 0
first_of (x ∷ xs) = cond x.0 x.1 (first_of xs)

-- of two answers the first, if it is a refusal
abbrev pub sooner : ℕ → ℕ → ℕ
sooner zero b = b
sooner (suc a) b = suc a

-- ═══ What the calls alone decide: no K, C or N ═══

-- "9 increment of 2^63-1"
abbrev pub passes_top : Change → State → Bool
passes_top (set v) old = false
passes_top remove old = false
passes_top increment old = is_top old

-- "change .. 4, 7, .. 6, 5, 9"; "adding .. 4, 8"; "finish .. 4, .. 6, 5", where the table has M entries:
-- 4 finished; 7 no such quark; 6 above 2^63-1; 5 earlier than the latest time; 8 attribute table full, or 4,096 attributes
abbrev pub tests : ℕ → History → Call → List (Bool × ℕ)
tests M l (change t q c) =
    (l.finished, 4)
    ∷ (leb l.attributes q, 7)
    ∷ (ltb (2 ^ 63 - 1) t, 6)
    ∷ (ltb t l.latest, 5)
    ∷ (passes_top c (l.table q).state, 9)
    ∷ []
tests M l add = (l.finished, 4) ∷ (leb M l.attributes || leb 4096 l.attributes, 8) ∷ []
tests M l (finish t) = (l.finished, 4) ∷ (ltb (2 ^ 63 - 1) t, 6) ∷ (ltb t l.latest, 5) ∷ []

unfoldable pub refuse_stated : ℕ → History → Call → ℕ
refuse_stated M l c = first_of (tests M l c)

-- ═══ The limits: "Depth and room count what the rule would need." ═══

-- "10 depth would pass 16", "11 nodes would pass N", "depth before room": of a tree
abbrev pub limit : ℕ → Tree → ℕ
limit N t = first_of ((ltb 16 (depth t.branch), 10) ∷ (ltb N t.used, 11) ∷ [])

-- of storing intervals, the latest first, on top of a tree: "the first interval in quark order that breaks either decides"
unfoldable pub limits : Shape → ℕ → List Interval → Tree → ℕ
limits sh N [] t = 0
limits sh N (iv ∷ earlier) t = sooner (limits sh N earlier t) (limit N (onto sh (iv ∷ earlier) t))

-- ═══ Calls ═══

-- "change .. 4, 7, .. 6, 5, 9, 10, 11; finish .. 4, .. 6, 5, 10, 11; adding .. 4, 8"
unfoldable pub refuse : Shape → ℕ → ℕ → History → Call → ℕ
refuse sh N M l c = sooner (refuse_stated M l c) (limits sh N (stores c l) (tree_of sh l))

-- Of a sequence of calls, those that were accepted: a refused one leaves everything as it was.
unfoldable pub accepted : Shape → ℕ → ℕ → ℕ → ℕ → List Call → List Call
accepted sh N M s n [] = []
accepted sh N M s n (c ∷ cs) = let a = accepted sh N M s n cs in cond (eqb (refuse sh N M (history s n a) c) 0) (c ∷ a) a

-- ═══ Questions ═══

-- "The history's latest time is the upper bound for t."
abbrev pub asked : History → ℕ → Bool
asked l t = leb l.start t && leb t l.latest

-- "query .. 7, 6": 6, in a query, before start or after latest
abbrev pub refuse_single : History → ℕ → ℕ → ℕ
refuse_single l q t = first_of ((leb l.attributes q, 7) ∷ (not (asked l t), 6) ∷ [])

abbrev pub refuse_full : History → ℕ → ℕ
refuse_full l t = first_of ((not (asked l t), 6) ∷ [])
