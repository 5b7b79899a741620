-- The nodes of a run fit their fields, so they can be read from a buffer that begins with their bytes. Assumes nothing.
use Prim.Native.Nat.{ℕ, zero, suc, ◌*◌, ◌^◌, ◌≤◌, ◌<◌}
use mathlib.Core.Bool.{Bool, true, false, cond}
use mathlib.Core.Path.{◌≡◌, refl, sym, ap, subst, ◌∙◌}
use mathlib.Core.Logic.{◌⊎◌, inl, inr}
use mathlib.Core.List.Memᴰ
use mathlib.Core.List.{List, [], ◌∷◌, ◌++◌, Memᴰ}
use mathlib.Core.Option.{Option, none, some}
use native.Mathlib.Omega.{arith}
use lib.IntN.{pos}
use lib.ListN.{length, get_or}
use mir.Syntax.{w64}
use mir.Val.{SFits}
use Rattle.layout.specs.Layout.{node_size}
use Rattle.record.specs.declared.History.{History}
use Rattle.record.specs.Levels.{place_at}
use Rattle.record.proofs.Facts.{sound_shape, sound_numbers, sound_root}
use Rattle.record.proofs.Room.{nodes_room}
use Rattle.walk.specs.View.{view_of}
use Rattle.model.specs.State.{State, null, int, value_of, Within64}
use Rattle.model.specs.Transient.{Interval}
use Rattle.model.specs.Build as M
use Rattle.model.specs.Build.{Subtrees, childless, also, next}
use Rattle.model.specs.Nodes.{∞, Node, blank, node, preorder, open_end, intervals}
use Rattle.model.specs.Invariant.{Inside, Good}
use Rattle.model.specs.Rules.{Child, Sits, Known}
use Rattle.model.specs.Theorems.{Run, Allowed, taken, left, tree, stands, made, Calls64, All64}
use Rattle.model.proofs.Answers.{standing_good}
use Rattle.model.proofs.Bounded.{within_fits}
use Rattle.model.proofs.ByPlace.{At, at_mem, length_upto, length_seqs}
use Rattle.model.proofs.Kept.{from_nodes}
use Rattle.model.proofs.Legal.{Legal, legal_accepted}
use Rattle.model.proofs.Passes.{at_places}
use Rattle.model.proofs.Proved.{nodes_numbered, nodes_sit, quarks_known, values_64}
use Rattle.represents.specs.Represents.{parent_of}
use Rattle.represents.specs.Readable.{ChildrenFit, IntervalsFit, NodeFits, Readable}
use Rattle.represents.specs.Mirrors.{Mirrors}
use Rattle.represents.proofs.Holding.{known_at}

-- ---- as many nodes as were made

pub made_used : (r : Run) → Allowed r → length (made r) ≡ (tree r).used
made_used r allowed = sym (length_seqs (made r)) ∙ ap length (nodes_numbered r allowed) ∙ length_upto (tree r).used

-- ---- levels, ends and parents

pub record Below (L E : ℕ) (m : Node) : Type 0 where
  pub level : m.level < L
  pub end : m.end ≤ E
  pub parent : parent_of m.parent < 2 ^ 32

below_later : (L E e : ℕ) (m : Node) → e ≤ E → Below L e m → Below L E m
below_later L E e m h b = record { level = b.level; end = omega (arith, b.end); parent = b.parent }

module _ (ns : List Node) (few : length ns ≤ 65536) (L : ℕ) where
  below : (l a E : ℕ) (p : Option ℕ) (ks : Subtrees) → l ≤ L → parent_of p < 2 ^ 32 → next a ks ≤ suc E → Good l a ks → At ns p ks
      → (m : Node) → Memᴰ m (preorder p ks) → Below L E m
  below l a E p childless x y z g t m d = absurd (Memᴰ.not-nil d)
  below zero a E p (also ks h e k) x y z g t m d = absurd g
  below (suc l) a E p (also ks h e k) x y z g t m d = go (Memᴰ.append_cases (preorder p ks) d)
      (below (suc l) a E p ks x y (omega (arith, g.1.start, g.1.ordered)) g.0 t.0 m)
      (λ c. below_later L E e m (omega arith) (below l h.start e (some h.seq) k (omega arith) (omega (arith, t.1.0)) g.1.within g.2 t.2 m c))
    where
      this : Below L E (node p h e k)
      this = record { level = omega (arith, g.1.level); end = omega arith; parent = y }

      last : (m ≡ node p h e k) ⊎ Memᴰ m (preorder (some h.seq) k) → (Memᴰ m (preorder (some h.seq) k) → Below L E m) → Below L E m
      last (inl c) j = subst (λ (n : Node). Below L E n) (sym c) this
      last (inr c) j = j c

      go : Memᴰ m (preorder p ks) ⊎ Memᴰ m (node p h e k ∷ preorder (some h.seq) k) → (Memᴰ m (preorder p ks) → Below L E m)
          → (Memᴰ m (preorder (some h.seq) k) → Below L E m) → Below L E m
      go (inl c) i j = i c
      go (inr c) i j = last (Memᴰ.cases_cons c) j

-- the root's level and end bound all of them
root_bounds : (k a : ℕ) (r : M.Head) (e : ℕ) (b : Subtrees) → Good k a (also childless r e b) → k ≡ suc r.level
root_bounds zero a r e b g = absurd g
root_bounds (suc k) a r e b g = omega (arith, g.1.level)

-- ---- entries

children_fit : (cs : List (ℕ × ℕ)) → ((c a : ℕ) → Memᴰ (c, a) cs → (c < 2 ^ 32) × (a < 2 ^ 64)) → ChildrenFit cs
children_fit [] f = tt
children_fit (c ∷ cs) f =
    let h = f c.0 c.1 (Memᴰ.head refl) in
    (h.0, h.1, children_fit cs (λ x a d. f x a (Memᴰ.tail d)))

value_fits : (s : State) → Within64 s → SFits w64 (value_of s)
value_fits null w = within_fits (pos 0) (omega arith)
value_fits (int z) w = within_fits z w

intervals_fit : (n a e : ℕ) (xs : List Interval) → n ≤ 4096 → e < 2 ^ 64 → Known n xs → Inside a e xs → All64 xs → IntervalsFit xs
intervals_fit n a e [] x y k i w = tt
intervals_fit n a e (v ∷ xs) x y k i w =
    (omega arith, omega arith, omega arith, value_fits v.state w.0, intervals_fit n a e xs x y k.1 i.3 w.1)

all64_split : (xs ys : List Interval) → All64 (xs ++ ys) → All64 xs × All64 ys
all64_split [] ys w = (tt, w)
all64_split (x ∷ xs) ys w = let r = all64_split xs ys w.1 in ((w.0, r.0), r.1)

all64_at : (ns : List Node) (i : ℕ) → i < length ns → All64 (intervals ns) → All64 (get_or ns i blank).held
all64_at [] i h w = absurd (omega arith)
all64_at (m ∷ ns) zero h w = (all64_split m.held (intervals ns) w).0
all64_at (m ∷ ns) (suc i) h w = all64_at ns i (omega arith) (all64_split m.held (intervals ns) w).1

-- ---- a run

module _ {r : Run} {h : History} {nodes table : List ℕ} (allowed : Allowed r) (values : Calls64 r.calls) (μ : Mirrors r h nodes table) where
  abbrev ns : List Node
  ns = made r

  legal : Legal r.start r.attributes (taken r)
  legal = legal_accepted r.shape r.room r.entries r.start r.attributes r.calls allowed.begins

  many_used : h.used ≡ length (made r)
  many_used = μ.used ∙ sym (made_used r allowed)

  few : length (made r) ≤ 65536
  few = let a = sound_shape h μ.whole in let b = sound_numbers h μ.whole in omega (arith, many_used)

  filled : length (made r) * node_size h.shape ≤ 2 ^ 32
  filled = let a = sound_shape h μ.whole in nodes_room (length (made r)) (node_size h.shape) few a.size

  here : At (made r) none (stands r)
  here = at_places r.shape allowed.shaped r.start r.attributes (taken r) legal

  open_end_lem : open_end (left r) ≤ ∞
  open_end_lem = go (left r).finished
    where
      late : (left r).latest ≤ ∞
      late = let b = sound_numbers h μ.whole in omega (arith, μ.latest)

      go : (b : Bool) → cond b (left r).latest ∞ ≤ ∞
      go true = late
      go false = omega arith

  all_below : (m : Node) → Memᴰ m (made r) → Below 16 ∞ m
  all_below m d =
      let g = standing_good r.shape r.start r.attributes (taken r) allowed.shaped legal in
      let b = sound_numbers h μ.whole in
      let k : g.0 ≡ suc μ.root.level = root_bounds g.0 (left r).start μ.root (open_end (left r)) μ.below (subst (λ (z : Subtrees). Good g.0 (left r).start z) μ.rooted g.1) in
      let n : next (left r).start (stands r) ≡ suc (open_end (left r)) = ap (next (left r).start) μ.rooted in
      below (made r) few 16 g.0 (left r).start ∞ none (stands r) (omega (arith, μ.level)) (omega arith) (omega (arith, open_end_lem)) g.1 here m
      (from_nodes r.shape (left r) m d)

  module _ (i : ℕ) (lt : i < length (made r)) where
    abbrev m : Node
    m = get_or (made r) i blank

    sits : Sits r.shape (made r) (get_or (made r) i blank)
    sits = (nodes_sit r allowed i lt).1

    child_small : (c a : ℕ) → Memᴰ (c, a) (get_or (made r) i blank).children → (c < 2 ^ 32) × (a < 2 ^ 64)
    child_small c a d =
        let k : Child (made r) (get_or (made r) i blank) c a = sits.each c a d in
        let o = (nodes_sit r allowed c k.used).1.ordered in
        (omega (arith, k.used, few), omega (arith, k.start, k.end, o, (all_below (get_or (made r) i blank) (at_mem (made r) i lt)).end))

    node_fits : NodeFits (get_or (made r) i blank)
    node_fits =
        let b = all_below m (at_mem (made r) i lt) in
        let s = nodes_sit r allowed i lt in
        let z = sound_shape h μ.whole in
        let n = sound_numbers h μ.whole in
        let K : r.shape.K ≡ h.shape.k = ap (λ (x : M.Shape). x.K) μ.shape in
        let C : r.shape.C ≡ h.shape.c = ap (λ (x : M.Shape). x.C) μ.shape in
        record {
          start = omega (arith, s.1.ordered, b.end);
          end = omega (arith, b.end);
          sequence = omega (arith, s.0, few);
          parent = b.parent;
          intervals = omega (arith, s.1.intervals);
          children = omega (arith, s.1.children);
          level = omega (arith, b.level);
          below = children_fit m.children child_small;
          held = intervals_fit (left r).attributes m.start m.end m.held (omega (arith, μ.attributes)) (omega (arith, b.end))
              (known_at (left r).attributes (made r) i lt (quarks_known r allowed)) s.1.inside (all64_at (made r) i lt (values_64 r allowed values).held);
        }

  pub readable : Readable (view_of h) nodes (made r)
  unfolding view_of
  readable =
      let w = subst (λ (z : Subtrees). At (made r) none z) μ.rooted here in
      let e : get_or (made r) (place_at h.branch h.top) blank ≡ node none μ.root (open_end (left r)) μ.below = ap (λ (z : ℕ). get_or (made r) z blank) μ.place ∙ w.1.1 in
      record {
        rest = μ.rest;
        bytes = μ.bytes;
        used = many_used;
        small = filled;
        fits = node_fits;
        sits = λ i lt. let s = nodes_sit r allowed i lt in (s.0, subst (λ (z : M.Shape). Sits z (made r) (get_or (made r) i blank)) μ.shape s.1);
        known = subst (λ (z : ℕ). Known z (intervals (made r))) (sym μ.attributes) (quarks_known r allowed);
        root = omega (arith, sound_root h μ.whole, many_used);
        level = ap (λ (z : Node). z.level) e ∙ sym μ.level;
      }
