-- The build rule: from intervals to a tree of nodes. Document 01, "The build rule". There are no limits here (Refusals) and no bytes.
-- The open branch is a list of open nodes, the lowest first; under each hangs the tree of its closed children. So "the open nodes below it" are the
-- nodes before it in the list, and what is closed can no longer be reached.
use Rattle.std.specs.Prelude.{ℕ, zero, suc, ◌+◌, max, Bool, false, cond, ◌&&◌, List, [], ◌∷◌, ◌++◌, leb, ltb, length}
use Rattle.model.specs.Transient.{Interval}

-- "K intervals per node, at least 1; C children, 2 to 50." (`Shaped`, in Invariant, says at least 1 and at least 2.)
pub record Shape : Type 0 where
  pub K : ℕ
  pub C : ℕ

-- ═══ Nodes, open and closed ═══

-- What a node has besides its end and its children. `seq` counts the nodes in the order of their making; `held` are its intervals, the first stored first.
pub record Head : Type 0 where
  pub level : ℕ
  pub seq : ℕ
  pub start : ℕ
  pub held : List Interval

-- The closed children of a node, with all that is below them. `also earlier h e below`: after the earlier children, a last child with the head h, the end e
-- and the children `below`.
pub data Subtrees : Type 0 where
  childless : Subtrees
  also : Subtrees → Head → ℕ → Subtrees → Subtrees

-- how many children
abbrev pub many : Subtrees → ℕ
many childless = zero
many (also ks h e k) = suc (many ks)

-- Where the next child of a node that starts at a would start: "one after that last end". A time is after the last child's end when it is not below this.
abbrev pub next : ℕ → Subtrees → ℕ
next a childless = a
next a (also ks h e k) = suc e

-- An open node and its closed children. Its open child, if it has one, stands before it in the branch.
pub record Open : Type 0 where
  pub head : Head
  pub closed : Subtrees

pub record Tree : Type 0 where
  pub start : ℕ  -- the history's
  pub largest : ℕ  -- "S is the largest end stored so far (the start, at first)."
  pub used : ℕ  -- nodes made; the next one's sequence number
  pub branch : List Open  -- the open branch, the lowest node first, the root last

-- "Opening makes node 0: level 0, open, empty, starting at the history's start."
abbrev pub planted : ℕ → Tree
planted s = record { start = s; largest = s; used = 1; branch = record { head = record { level = 0; seq = 0; start = s; held = [] }; closed = childless } ∷ [] }

-- ═══ What happens to open nodes ═══

-- f with one more interval
abbrev pub store : Interval → Open → Open
store iv f = record { head = record { level = f.head.level; seq = f.head.seq; start = f.head.start; held = f.head.held ++ (iv ∷ []) }; closed = f.closed }

-- p, when the open node f right below it closes with the end e
abbrev pub adopt : ℕ → Open → Open → Open
adopt e f p = record { head = p.head; closed = also p.closed f.head e f.closed }

-- f with these closed children
abbrev pub having : Subtrees → Open → Open
having k f = record { head = f.head; closed = k }

-- The children k of a node, when the open nodes below it close with the end S: g, the lowest, closes under the next one, and so on up, the last one under the node.
abbrev pub close_under : ℕ → Open → List Open → Subtrees → Subtrees
close_under S g [] k = also k g.head S g.closed
close_under S g (p ∷ below) k = close_under S (adopt S g p) below k

abbrev pub with_below : ℕ → List Open → Subtrees → Subtrees
with_below S [] k = k
with_below S (g ∷ below) k = close_under S g below k

-- f as it is when it closes: "Closing gives the node and all open nodes below it the end S."
abbrev pub gathered : ℕ → List Open → Open → Open
gathered S below f = having (with_below S below f.closed) f

-- "a new root is made first: one level higher, starting at the history's start, with the old root as its only child": o is that start, f the old root, which
-- closes with the end S, and q the sequence number
abbrev pub new_root : ℕ → ℕ → ℕ → Open → Open
new_root o S q f = record { head = record { level = suc f.head.level; seq = q; start = o; held = [] }; closed = also childless f.head S f.closed }

-- "a chain of new nodes down to level 0, all starting one after that last end, and store in the lowest": the n levels below `above`, starting at a, with
-- "Sequence numbers go up by one, .. a chain from the top", from q on
abbrev pub in_lowest : ℕ → Interval → List Interval
in_lowest zero iv = iv ∷ []
in_lowest (suc n) iv = []

abbrev pub chain : ℕ → ℕ → ℕ → Interval → List Open → List Open
chain zero q a iv above = above
chain (suc n) q a iv above =
    chain n (suc q) a iv (record { head = record { level = n; seq = q; start = a; held = in_lowest n iv }; closed = childless } ∷ above)

-- ═══ The two rules ═══

-- "If it is above level 0, has no open child, and s is after its last child's end: a child is due.": f, with the open nodes `below` under it
abbrev pub due : List Open → Open → ℕ → Bool
due [] f s = ltb 0 f.head.level && leb (next f.head.start f.closed) s
due (g ∷ below) f s = false

-- 1. a child is due: "With fewer than C children, make a chain" (grow), "With C children, close it" (shut).
-- 2. "Otherwise store in it if it has fewer than K intervals" (keep), "else close it" (shut).
pub data Verdict : Type 0 where
  grow keep shut : Verdict

abbrev pub verdict : Shape → List Open → Open → ℕ → Verdict
verdict sh below f s =
    cond (due below f s) (cond (ltb (many f.closed) sh.C) grow shut) (cond (ltb (length f.head.held) sh.K) keep shut)

-- what comes of it: the nodes made so far, and the branch
pub record Grown : Type 0 where
  pub used : ℕ
  pub branch : List Open

-- f makes its chain, whose nodes are numbered from q
abbrev pub grown : ℕ → Interval → Open → List Open → Grown
grown q iv f above = record { used = q + f.head.level; branch = chain f.head.level q (next f.head.start f.closed) iv (f ∷ above) }

-- An interval iv is to be stored. o is the history's start, S the largest end stored before it, q the next sequence number.
module _ (sh : Shape) (iv : Interval) (o S q : ℕ) where
  -- The question put to a new root r, numbered q. It has one child and no interval: where a child is due, rule 1 makes the chain (1 is fewer than C), otherwise
  -- rule 2 stores (0 is fewer than K). That this is its verdict is the theorem `NewRootAsked`.
  abbrev pub ask_new : Open → Grown
  ask_new r = cond (due [] r iv.start) (grown (suc q) iv r []) (record { used = suc q; branch = store iv r ∷ [] })

  -- The question put to f, with the open nodes `below` it and `above` it. "Closing gives the node and all open nodes below it the end S. Then the same question
  -- is put again to the parent. If the root was closed, a new root is made first".
  abbrev pub ask : List Open → Open → List Open → Grown
  ask below f [] = elim (verdict sh below f iv.start) [
    | grow ↦ grown q iv f []
    | keep ↦ record { used = q; branch = below ++ store iv f ∷ [] }
    | shut ↦ ask_new (new_root o S q (gathered S below f))
  ]
  ask below f (p ∷ above) = elim (verdict sh below f iv.start) [
    | grow ↦ grown q iv f (p ∷ above)
    | keep ↦ record { used = q; branch = below ++ store iv f ∷ p ∷ above }
    | shut ↦ ask [] (adopt S (gathered S below f) p) above
  ]

  -- "To store an interval starting at s, take the lowest open node with start at or below s." The root starts at the history's start, so it is taken at last.
  abbrev pub seek : List Open → Open → List Open → Grown
  seek below f [] = ask below f []
  seek below f (p ∷ above) = cond (leb f.head.start iv.start) (ask below f (p ∷ above)) (seek (below ++ f ∷ []) p above)

  abbrev pub begin : List Open → Grown
  begin [] = record { used = q; branch = [] }
  begin (f ∷ above) = seek [] f above

-- An interval is stored with S as it was before; then "S is the largest end stored so far".
unfoldable pub insert : Shape → Interval → Tree → Tree
insert sh iv t = let g = begin sh iv t.start t.largest t.used t.branch in
    record { start = t.start; largest = max t.largest iv.end; used = g.used; branch = g.branch }

-- ═══ From intervals to a tree ═══

-- intervals, the latest first, stored on top of a tree
unfoldable pub onto : Shape → List Interval → Tree → Tree
onto sh [] t = t
onto sh (iv ∷ earlier) t = insert sh iv (onto sh earlier t)

-- and afresh from the opening at s
unfoldable pub build : Shape → ℕ → List Interval → Tree
build sh s [] = planted s
build sh s (iv ∷ earlier) = insert sh iv (build sh s earlier)

-- the levels of a branch: one more than its root's
abbrev pub depth : List Open → ℕ
depth [] = zero
depth (f ∷ []) = suc f.head.level
depth (f ∷ p ∷ above) = depth (p ∷ above)
