-- The nodes of a model stand in the bytes: what is read of a node at its place is what it has. Assumes nothing.
use Prim.Native.Nat.{ℕ, zero, suc, ◌+◌, ◌*◌, ◌^◌, ◌≤◌, ◌<◌}
use mathlib.Core.Bool.{Bool, true, false, cond}
use mathlib.Core.Path.{◌≡◌, sym, ap, subst, ◌∙◌}
use mathlib.Core.List.{List, [], ◌∷◌, ◌++◌, map}
use native.Mathlib.Omega.{arith}
use lib.Dec.{eqb}
use lib.ListN.{length, get_or, length-map, get_or-map}
use Rattle.layout.specs.declared.Shape.{Shape}
use Rattle.layout.specs.declared.Child.{Child}
use Rattle.layout.specs.declared.Entry.{Entry}
use Rattle.layout.specs.Layout as L
use Rattle.layout.specs.Layout.{child_size, entry_size, node_size, child_at, entry_at, read_header, read_child, read_entry, HeaderFits, ChildFits, EntryFits}
use Rattle.layout.proofs.Read.{read_header_lem, read_child_lem, read_entry_lem}
use Rattle.walk.specs.declared.View.{View}
use Rattle.model.specs.State.{State, null, int, kind_of}
use Rattle.model.specs.Transient.{Interval}
use Rattle.model.specs.Nodes.{∞, state_of, Node, blank, intervals}
use Rattle.model.specs.Rules.{Known}
use Rattle.represents.specs.Represents.{header_of, child_of, entry_of, node_of, bytes_of}
use Rattle.represents.specs.Readable.{ChildrenFit, IntervalsFit, NodeFits, Readable}

-- ---- what fits the model's fields fits the layout's

state_fits : (e : ℕ) → state_of e < 2 ^ 8
state_fits e = go (eqb e ∞)
  where
    go : (b : Bool) → cond b 1 2 < 2 ^ 8
    go true = omega arith
    go false = omega arith

header_fits : (m : Node) → NodeFits m → HeaderFits (header_of m)
header_fits m f = record {
  start = f.start;
  end = f.end;
  sequence = f.sequence;
  parent = f.parent;
  intervals = f.intervals;
  children = f.children;
  level = f.level;
  state = state_fits m.end;
}

-- what stands where no child and no interval is
abbrev pub no_child : ℕ × ℕ
no_child = (0, 0)

abbrev pub no_interval : Interval
no_interval = record { quark = 0; state = null; start = 0; end = 0 }

child_fits : (cs : List (ℕ × ℕ)) (j : ℕ) → ChildrenFit cs → j < length cs → ChildFits (child_of (get_or cs j no_child))
child_fits [] j f h = absurd (omega arith)
child_fits (c ∷ cs) zero f h = record { sequence = f.0; start = f.1 }
child_fits (c ∷ cs) (suc j) f h = child_fits cs j f.2 (omega arith)

kind_fits : (s : State) → kind_of s < 2 ^ 8
kind_fits null = omega arith
kind_fits (int z) = omega arith

entry_fits_lem : (xs : List Interval) (j : ℕ) → IntervalsFit xs → j < length xs → EntryFits (entry_of (get_or xs j no_interval))
entry_fits_lem [] j f h = absurd (omega arith)
entry_fits_lem (x ∷ xs) zero f h = record { quark = f.0; kind = kind_fits x.state; start = f.1; end = f.2; value = f.3 }
entry_fits_lem (x ∷ xs) (suc j) f h = entry_fits_lem xs j f.4 (omega arith)

-- ---- what stands at byte p

-- child entries from byte p on
abbrev pub ChildrenAt : List ℕ → ℕ → List (ℕ × ℕ) → Type 0
ChildrenAt l p [] = Unit {0}
ChildrenAt l p (c ∷ cs) = (read_child l p ≡ child_of c) × ChildrenAt l (p + child_size) cs

-- interval entries from byte p on
abbrev pub HeldAt : List ℕ → ℕ → List Interval → Type 0
HeldAt l p [] = Unit {0}
HeldAt l p (x ∷ xs) = (read_entry l p ≡ entry_of x) × HeldAt l (p + entry_size) xs

-- a node
pub record NodeAt (s : Shape) (l : List ℕ) (p : ℕ) (m : Node) : Type 0 where
  pub header : read_header l p ≡ header_of m
  pub children : ChildrenAt l (p + child_at 0) m.children
  pub held : HeldAt l (p + entry_at s 0) m.held

children_from : (l : List ℕ) (p : ℕ) (cs : List (ℕ × ℕ)) → ((j : ℕ) → j < length cs → read_child l (p + child_size * j) ≡ child_of (get_or cs j no_child)) → ChildrenAt l p cs
children_from l p [] f = tt
children_from l p (c ∷ cs) f = (
  ap (read_child l) (omega arith) ∙ f 0 (omega arith),
  children_from l (p + child_size) cs (λ j h. ap (read_child l) (omega arith) ∙ f (suc j) (omega arith)),
)

held_from : (l : List ℕ) (p : ℕ) (xs : List Interval) → ((j : ℕ) → j < length xs → read_entry l (p + entry_size * j) ≡ entry_of (get_or xs j no_interval)) → HeldAt l p xs
held_from l p [] f = tt
held_from l p (x ∷ xs) f = (
  ap (read_entry l) (omega arith) ∙ f 0 (omega arith),
  held_from l (p + entry_size) xs (λ j h. ap (read_entry l) (omega arith) ∙ f (suc j) (omega arith)),
)

-- ---- every node at its place

module _ (s : Shape) (ns : List Node) (rest l : List ℕ) (is : l ≡ bytes_of s ns ++ rest) (i : ℕ) (h : i < length ns) where
  abbrev m : Node
  m = get_or ns i blank

  here : get_or (map node_of ns) i (node_of blank) ≡ node_of m
  here = get_or-map node_of ns i blank

  among : i < length (map node_of ns)
  among = omega (arith, length-map ns node_of)

  header_read : NodeFits m → read_header l (i * node_size s) ≡ header_of m
  header_read f =
      subst (λ (n : L.Node). HeaderFits n.header → read_header l (i * node_size s) ≡ n.header) here (read_header_lem s (map node_of ns) rest l is i (node_of blank) among) (header_fits m f)

  child_read : NodeFits m → length m.children ≤ s.c → (j : ℕ) → j < length m.children → read_child l (i * node_size s + child_at j) ≡ child_of (get_or m.children j no_child)
  child_read f few j g =
      let e : get_or (map child_of m.children) j (child_of no_child) ≡ child_of (get_or m.children j no_child) = get_or-map child_of m.children j no_child in
      let k = length-map m.children child_of in
      subst (λ (n : L.Node). j < length n.children → length n.children ≤ s.c → ChildFits (get_or n.children j (child_of no_child)) → read_child l (i * node_size s + child_at j) ≡ get_or n.children j (child_of no_child))
      here (read_child_lem s (map node_of ns) rest l is i (node_of blank) among j (child_of no_child)) (omega arith) (omega arith)
      (subst (λ (c : Child). ChildFits c) (sym e) (child_fits m.children j f.below g))
      ∙ e

  entry_read : NodeFits m → length m.held ≤ s.k → (j : ℕ) → j < length m.held → read_entry l (i * node_size s + entry_at s j) ≡ entry_of (get_or m.held j no_interval)
  entry_read f few j g =
      let e : get_or (map entry_of m.held) j (entry_of no_interval) ≡ entry_of (get_or m.held j no_interval) = get_or-map entry_of m.held j no_interval in
      let k = length-map m.held entry_of in
      subst (λ (n : L.Node). j < length n.entries → length n.entries ≤ s.k → EntryFits (get_or n.entries j (entry_of no_interval)) → read_entry l (i * node_size s + entry_at s j) ≡ get_or n.entries j (entry_of no_interval))
      here (read_entry_lem s (map node_of ns) rest l is i (node_of blank) among j (entry_of no_interval)) (omega arith) (omega arith)
      (subst (λ (x : Entry). EntryFits x) (sym e) (entry_fits_lem m.held j f.held g))
      ∙ e

  pub stands : NodeFits m → length m.held ≤ s.k → length m.children ≤ s.c → NodeAt s l (i * node_size s) m
  unfolding child_at entry_at
  stands f few less = record {
    header = header_read f;
    children = children_from l (i * node_size s + child_at 0) m.children (λ j g. ap (read_child l) (omega arith) ∙ child_read f less j g);
    held = held_from l (i * node_size s + entry_at s 0) m.held (λ j g. ap (read_entry l) (omega arith) ∙ entry_read f few j g);
  }

-- ---- the quarks of one node

known_split : (n : ℕ) (xs ys : List Interval) → Known n (xs ++ ys) → Known n xs × Known n ys
known_split n [] ys k = (tt, k)
known_split n (x ∷ xs) ys k = let r = known_split n xs ys k.1 in ((k.0, r.0), r.1)

pub known_at : (n : ℕ) (ns : List Node) (i : ℕ) → i < length ns → Known n (intervals ns) → Known n (get_or ns i blank).held
known_at n [] i h k = absurd (omega arith)
known_at n (m ∷ ns) zero h k = (known_split n m.held (intervals ns) k).0
known_at n (m ∷ ns) (suc i) h k = known_at n ns i (omega arith) (known_split n m.held (intervals ns) k).1

-- ---- what a readable node gives

module _ {v : View} {l : List ℕ} {ns : List Node} (r : Readable v l ns) (i : ℕ) (h : i < length ns) where
  pub at : NodeAt v.shape l (i * node_size v.shape) (get_or ns i blank)
  at = let s = (r.sits i h).1 in stands v.shape ns r.rest l r.bytes i h (r.fits i h) s.intervals s.children
