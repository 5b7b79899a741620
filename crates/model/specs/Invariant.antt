-- The invariant of the tree that inserts make: what holds of every open and closed node between two calls.
use Rattle.std.specs.Prelude.{ℕ, zero, suc, ◌≤◌, ◌<◌, ◌≡◌, List, [], ◌∷◌, length}
use Rattle.model.specs.Transient.{Interval}
use Rattle.model.specs.Build.{Head, Subtrees, childless, also, next, many, Open, Shape, Tree}

-- "K intervals per node, at least 1; C children, 2 to 50."
pub record Shaped (sh : Shape) : Type 0 where
  pub intervals : 1 ≤ sh.K
  pub children : 2 ≤ sh.C

-- ═══ Bounds ═══

-- Each interval is in order and lies in [a, e].
abbrev pub Inside : ℕ → ℕ → List Interval → Type 0
Inside a e [] = Unit {0}
Inside a e (x ∷ xs) = (a ≤ x.start) × (x.start ≤ x.end) × (x.end ≤ e) × Inside a e xs

-- A closed node of level l that is due to start at a: its bounds are in order, and its intervals and its children are within them.
pub record Fits (l a : ℕ) (h : Head) (e : ℕ) (k : Subtrees) : Type 0 where
  pub level : h.level ≡ l
  pub start : h.start ≡ a
  pub ordered : h.start ≤ e
  pub within : next h.start k ≤ suc e
  pub inside : Inside h.start e h.held

-- The closed children of a node of level l that starts at a: each is one level below, the first starts at a, each later one right after the end of the one
-- before it.
abbrev pub Good : ℕ → ℕ → Subtrees → Type 0
Good l a childless = Unit {0}
Good zero a (also ks h e k) = ⊥
Good (suc l) a (also ks h e k) = Good (suc l) a ks × Fits l (next a ks) h e k × Good l h.start k

-- An open node, where S is the largest end stored so far.
pub record Stands (S : ℕ) (f : Open) : Type 0 where
  pub begun : f.head.start ≤ S
  pub within : next f.head.start f.closed ≤ suc S
  pub inside : Inside f.head.start S f.head.held
  pub good : Good f.head.level f.head.start f.closed

-- An open node of level l that starts at a, and what is above it: its parent is one level higher, and a is where the parent's next child starts; a root starts at
-- the history's start o.
abbrev pub Under : ℕ → ℕ → ℕ → List Open → Type 0
Under o l a [] = a ≡ o
Under o l a (p ∷ above) = (p.head.level ≡ suc l) × (a ≡ next p.head.start p.closed)

-- the open branch, the lowest node first
abbrev pub Branch : ℕ → ℕ → List Open → Type 0
Branch o S [] = Unit {0}
Branch o S (f ∷ above) = Stands S f × Under o f.head.level f.head.start above × Branch o S above

-- there is an open node
abbrev pub Some : List Open → Type 0
Some [] = ⊥
Some (f ∷ above) = Unit {0}

pub record Sound (t : Tree) : Type 0 where
  pub branch : Branch t.start t.largest t.branch
  pub some : Some t.branch
  pub low : t.start ≤ t.largest

-- ═══ Counts ═══

abbrev pub HasChild : Subtrees → Type 0
HasChild childless = ⊥
HasChild (also ks h e k) = Unit {0}

-- closed nodes have at most K intervals and C children
abbrev pub Sizes : Shape → Subtrees → Type 0
Sizes sh childless = Unit {0}
Sizes sh (also ks h e k) = Sizes sh ks × (length h.held ≤ sh.K) × (many k ≤ sh.C) × Sizes sh k

-- so have open nodes: those that have an open child have fewer than C closed ones
abbrev pub Upper : Shape → List Open → Type 0
Upper sh [] = Unit {0}
Upper sh (p ∷ above) = (length p.head.held ≤ sh.K) × (many p.closed < sh.C) × Sizes sh p.closed × Upper sh above

-- and the lowest open node, if it is above level 0, has a closed child
abbrev pub Rooms : Shape → List Open → Type 0
Rooms sh [] = Unit {0}
Rooms sh (f ∷ above) =
    (length f.head.held ≤ sh.K) × (many f.closed ≤ sh.C) × Sizes sh f.closed × (0 < f.head.level → HasChild f.closed) × Upper sh above
