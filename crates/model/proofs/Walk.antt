-- The nodes that the walk enters are the nodes whose bounds hold t, of all nodes.
use Prim.Native.Nat.{ℕ, zero, suc, ◌≤◌, ◌<◌}
use mathlib.Core.Bool.{Bool, true, false, and-false}
use mathlib.Core.Path.{◌≡◌, refl, ◌∙◌}
use mathlib.Core.List.{[], ◌∷◌, ◌++◌, append-nil}
use mathlib.Core.Option.{Option, some}
use mathlib.Core.Logic.{◌⊎◌, inl, inr}
use native.Mathlib.Omega.{arith}
use lib.Dec.{leb}
use borrow.Author.Tests.{leb-true, leb-false, lt-leb}
use Rattle.model.specs.Build.{Subtrees, childless, also, next}
use Rattle.model.specs.Nodes.{Node, node, preorder}
use Rattle.model.specs.Questions.{holds, walk, only}
use Rattle.model.specs.Invariant.{Good}
use Rattle.model.proofs.Lists.{only_append}

pub next_from : (l a : ℕ) (ks : Subtrees) → Good l a ks → a ≤ next a ks
next_from l a childless g = omega arith
next_from zero a (also ks h e k) g = absurd g
next_from (suc l) a (also ks h e k) g = let i = next_from (suc l) a ks g.0 in omega (arith, g.1.start, g.1.ordered)

not_held : (t : ℕ) (n : Node) → (t < n.start) ⊎ (n.end < t) → holds t n ≡ false
not_held t n (inl h) = rw (lt-leb n.start t h)
not_held t n (inr h) = rw (lt-leb t n.end h, and-false (leb n.start t))

-- nothing below a node holds a time outside the children's place
miss : (t l a : ℕ) (p : Option ℕ) (ks : Subtrees) → Good l a ks → (t < a) ⊎ (next a ks ≤ t) → only (holds t) (preorder p ks) ≡ []
miss t l a p childless g h = refl
miss t zero a p (also ks h e k) g o = absurd g
miss t (suc l) a p (also ks h e k) g (inl o) =
    let n : a ≤ next a ks = next_from (suc l) a ks g.0 in
    let s : t < h.start = omega (arith, g.1.start) in
    only_append (holds t) (preorder p ks) _
    ∙ rw (miss t (suc l) a p ks g.0 (inl o), not_held t (node p h e k) (inl s), miss t l h.start (some h.seq) k g.2 (inl s))
miss t (suc l) a p (also ks h e k) g (inr o) =
    let f : next a ks ≤ t = omega (arith, g.1.start, g.1.ordered) in
    let s : next h.start k ≤ t = omega (arith, g.1.within) in
    only_append (holds t) (preorder p ks) _
    ∙ rw (miss t (suc l) a p ks g.0 (inr f), not_held t (node p h e k) (inr o), miss t l h.start (some h.seq) k g.2 (inr s))

pub hit : (t l a : ℕ) (p : Option ℕ) (ks : Subtrees) → Good l a ks → only (holds t) (preorder p ks) ≡ walk t p ks
hit t l a p childless g = refl
hit t zero a p (also ks h e k) g = absurd g
hit t (suc l) a p (also ks h e k) g =
    only_append (holds t) (preorder p ks) _
    ∙ go (leb h.start t) (leb t e) refl refl (hit t (suc l) a p ks g.0) (hit t l h.start (some h.seq) k g.2)
  where
    go : (b c : Bool) → leb h.start t ≡ b → leb t e ≡ c → only (holds t) (preorder p ks) ≡ walk t p ks
        → only (holds t) (preorder (some h.seq) k) ≡ walk t (some h.seq) k
        → only (holds t) (preorder p ks) ++ only (holds t) (node p h e k ∷ preorder (some h.seq) k) ≡ walk t p (also ks h e k)
    go true true x y i j = rw (miss t (suc l) a p ks g.0 (inr (omega (arith, g.1.start, leb-true h.start t x))), x, y, j)
    go true false x y i j =
        rw (
          miss t (suc l) a p ks g.0 (inr (omega (arith, g.1.start, leb-true h.start t x))),
          miss t l h.start (some h.seq) k g.2 (inr (omega (arith, g.1.within, leb-false t e y))),
          x,
          y,
        )
    go false c x y i j = rw (i, miss t l h.start (some h.seq) k g.2 (inl (leb-false h.start t x)), x) (append-nil _)
