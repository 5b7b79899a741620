-- Every stored interval stands in exactly one node: the intervals of all nodes are those stored, in another order.
use Prim.Native.Nat.{ℕ, zero, suc, ◌<◌}
use mathlib.Core.Path.{◌≡◌, refl, ◌∙◌}
use mathlib.Core.List.Permᴰ
use mathlib.Core.List.{List, [], ◌∷◌, ◌++◌, append_assoc, append-nil, Permᴰ}
use mathlib.Core.Option.{Option, none, some}
use native.Mathlib.Omega.{arith}
use Rattle.model.specs.Transient.{Interval}
use Rattle.model.specs.Build.{Subtrees, childless, also, next, Open, Shape, store, adopt, chain, Grown, insert, build}
use Rattle.model.specs.Nodes.{close_up, close_all, Node, preorder, intervals}
use Rattle.model.specs.Invariant.{Shaped}
use Rattle.model.proofs.Keep.{tree_steps, sane_at, build_sound}
use Rattle.model.proofs.Legal.{Sanes}
use Rattle.model.proofs.Steps.{Storing, close, raise, grows, keeps}

-- the intervals below a node, and those of an open branch, in preorder
abbrev pub content : Subtrees → List Interval
content childless = []
content (also ks h e k) = content ks ++ (h.held ++ content k)

abbrev pub contents : List Open → List Interval
contents [] = []
contents (f ∷ above) = contents above ++ (f.head.held ++ content f.closed)

intervals_append : (xs ys : List Node) → intervals (xs ++ ys) ≡ intervals xs ++ intervals ys
intervals_append [] ys = refl
intervals_append (x ∷ xs) ys = rw (intervals_append xs ys, append_assoc)

preorder_content : (p : Option ℕ) (ks : Subtrees) → intervals (preorder p ks) ≡ content ks
preorder_content p childless = refl
preorder_content p (also ks h e k) = rw (intervals_append, preorder_content p ks, preorder_content (some h.seq) k)

-- closing moves no interval
adopt_content : (S : ℕ) (f p : Open) (above : List Open) → contents (adopt S f p ∷ above) ≡ contents (f ∷ p ∷ above)
adopt_content S f p above = simp append_assoc

close_up_content : (e : ℕ) (f : Open) (above : List Open) → content (close_up e f above) ≡ contents (f ∷ above)
close_up_content e f [] = refl
close_up_content e f (p ∷ above) = close_up_content e (adopt e f p) above ∙ adopt_content e f p above

close_all_content : (e : ℕ) (fs : List Open) → content (close_all e fs) ≡ contents fs
close_all_content e [] = refl
close_all_content e (f ∷ above) = close_up_content e f above

module _ (iv : Interval) where
  held_more : (xs ys : List Interval) → Permᴰ ((xs ++ iv ∷ []) ++ ys) (iv ∷ xs ++ ys)
  held_more xs ys = rw append_assoc (Permᴰ.middle iv xs ys)

  store_content : (below : List Open) (f : Open) (above : List Open)
      → Permᴰ (contents (below ++ store iv f ∷ above)) (iv ∷ contents (below ++ f ∷ above))
  store_content [] f above =
      Permᴰ.trans (Permᴰ.append_left (contents above) (held_more f.head.held (content f.closed)))
      (Permᴰ.middle iv (contents above) (f.head.held ++ content f.closed))
  store_content (g ∷ below) f above = Permᴰ.append_right (g.head.held ++ content g.closed) (store_content below f above)

  chain_content : (n q a : ℕ) (fs : List Open) → 0 < n → Permᴰ (contents (chain n q a iv fs)) (iv ∷ contents fs)
  chain_content zero q a fs h = absurd (omega arith)
  chain_content (suc zero) q a fs h = rw (append-nil (contents fs)) at (Permᴰ.middle iv (contents fs) [])
  chain_content (suc (suc n)) q a fs h =
      let g : Open = record { head = record { level = suc n; seq = q; start = a; held = [] }; closed = childless } in
      rw (append-nil (contents fs)) at (chain_content (suc n) (suc q) a (g ∷ fs) (omega arith))

  steps_content : {sh : Shape} {o S q : ℕ} {fs : List Open} {r : Grown} → Storing sh iv o S q fs r → Permᴰ (contents r.branch) (iv ∷ contents fs)
  steps_content {S = S} (close {f = f} {p = p} {above = above} s) = rw (← adopt_content S f p above) (steps_content s)
  steps_content (raise s) = steps_content s
  steps_content (grows f above x y z) = chain_content f.head.level _ (next f.head.start f.closed) (f ∷ above) x
  steps_content (keeps below f above x y) = store_content below f above

pub build_once : (sh : Shape) (o : ℕ) (ivs : List Interval) → Shaped sh → Sanes o ivs → Permᴰ (contents (build sh o ivs).branch) ivs
unfolding build insert
build_once sh o [] d h = Permᴰ.nil
build_once sh o (iv ∷ ivs) d h =
    let s = tree_steps sh iv (build sh o ivs) d (sane_at sh o iv ivs h.0) (build_sound sh o ivs d h.1) in
    Permᴰ.trans (steps_content iv s) (Permᴰ.cons refl (build_once sh o ivs d h.1))

-- the nodes, whatever end e the open ones are given
pub all_once : (sh : Shape) (o e : ℕ) (ivs : List Interval) → Shaped sh → Sanes o ivs
    → Permᴰ (intervals (preorder none (close_all e (build sh o ivs).branch))) ivs
all_once sh o e ivs d h = rw (preorder_content, close_all_content) (build_once sh o ivs d h)
