-- The nodes of a tree in the order of their sequence numbers: the values that the byte layout encodes. Document 01, "Node layout".
use Rattle.std.specs.Prelude.{ℕ, zero, suc, ◌-◌, ◌^◌, cond, List, [], ◌∷◌, ◌++◌, eqb}
use Rattle.std.proofs.Math.Option.{Option, none, some}
use Rattle.model.specs.Transient.{Interval, History}
use Rattle.model.specs.Build.{Head, Subtrees, childless, also, Open, Shape, Tree, adopt, build}

-- "end u64 (2^64-1 while open)"
abbrev pub ∞ : ℕ
∞ = 2 ^ 64 - 1

-- "state u8 (1 open, 2 closed)", from the end: no node closes with 2^64-1
abbrev pub state_of : ℕ → ℕ
state_of e = cond (eqb e ∞) 1 2

-- "start; end; sequence; parent (2^32-1 for none); .. level", its "child entries of sequence and start", its intervals
pub record Node : Type 0 where
  pub level : ℕ
  pub seq : ℕ
  pub start : ℕ
  pub end : ℕ
  pub parent : Option ℕ
  pub children : List (ℕ × ℕ)
  pub held : List Interval

-- what stands where no node is
abbrev pub blank : Node
blank = record { level = 0; seq = 0; start = 0; end = 0; parent = none; children = []; held = [] }

abbrev pub entries : Subtrees → List (ℕ × ℕ)
entries childless = []
entries (also ks h e k) = entries ks ++ (h.seq, h.start) ∷ []

-- the node with the parent p, the head h, the end e and the children k
abbrev pub node : Option ℕ → Head → ℕ → Subtrees → Node
node p h e k = record { level = h.level; seq = h.seq; start = h.start; end = e; parent = p; children = entries k; held = h.held }

-- All nodes below the parent p, each before those below it, child after child.
abbrev pub preorder : Option ℕ → Subtrees → List Node
preorder p childless = []
preorder p (also ks h e k) = preorder p ks ++ node p h e k ∷ preorder (some h.seq) k

-- The same nodes in the order of their making: a root is made after its first child and all that is below that, and before its other children. The theorems
-- `Numbered` and `EachNodeOnce` say that this is the order of the sequence numbers, and that no node is left out.
abbrev pub if_childless : Subtrees → List Node → List Node → List Node
if_childless childless a b = a
if_childless (also ks h e k) a b = b

abbrev pub spine : Node → Subtrees → List Node
spine x childless = x ∷ []
spine x (also ks h e k) = let n = node (some x.seq) h e k in
    if_childless ks (spine n k ++ x ∷ []) (spine x ks ++ n ∷ preorder (some h.seq) k)

abbrev pub nodes : Subtrees → List Node
nodes childless = []
nodes (also ks h e k) = spine (node none h e k) k

-- The place of the i-th node made. The tree knows nodes by the order of their making only, and this alone says where they stand: "Node i stands at i times the
-- node size."
abbrev pub placed : ℕ → ℕ
placed i = i

-- ═══ The tree of a history ═══

-- A branch with all its open nodes closed with the end e, as the one child of nothing: "then closes all open nodes with end T". With 2^64-1 for e it is the
-- tree as it stands while it is open.
abbrev pub close_up : ℕ → Open → List Open → Subtrees
close_up e f [] = also childless f.head e f.closed
close_up e f (p ∷ above) = close_up e (adopt e f p) above

abbrev pub close_all : ℕ → List Open → Subtrees
close_all e [] = childless
close_all e (f ∷ above) = close_up e f above

-- the tree that "the build rule makes afresh from the accepted calls"
abbrev pub tree_of : Shape → History → Tree
tree_of sh l = build sh l.start l.stored

-- the end of the nodes that the build rule left open: 2^64-1, and after "Finish at T" it is T
abbrev pub open_end : History → ℕ
open_end l = cond l.finished l.latest ∞

unfoldable pub standing : Shape → History → Subtrees
standing sh l = close_all (open_end l) (tree_of sh l).branch

-- ═══ Numbers ═══

abbrev pub seqs : List Node → List ℕ
seqs [] = []
seqs (n ∷ ns) = n.seq ∷ seqs ns

-- 0, 1, .. up to n - 1
abbrev pub upto : ℕ → List ℕ
upto zero = []
upto (suc n) = upto n ++ n ∷ []

-- all intervals of these nodes
abbrev pub intervals : List Node → List Interval
intervals [] = []
intervals (n ∷ ns) = n.held ++ intervals ns
