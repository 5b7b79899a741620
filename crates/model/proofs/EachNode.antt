-- The nodes in the order of their making are all nodes, each once.
use mathlib.Core.Path.{refl, subst}
use Prim.Native.Nat.{ℕ}
use mathlib.Core.List.Permᴰ
use mathlib.Core.List.{List, [], ◌∷◌, append_assoc, Memᴰ, Permᴰ}
use mathlib.Core.Option.{none, some}
use Rattle.model.specs.Build.{Subtrees, childless, also, Open, adopt}
use Rattle.model.specs.Nodes.{Node, node, preorder, spine, nodes, close_up, close_all, intervals}
use Rattle.model.proofs.Lists.{perm_mem}

spine_perm : (x : Node) (ks : Subtrees) → Permᴰ (spine x ks) (x ∷ preorder (some x.seq) ks)
spine_perm x childless = Permᴰ.refl _
spine_perm x (also ks h e k) = go ks (spine_perm x ks) (spine_perm n k)
  where
    n : Node
    n = node (some x.seq) h e k

    go : (ks : Subtrees) → Permᴰ (spine x ks) (x ∷ preorder (some x.seq) ks) → Permᴰ (spine n k) (n ∷ preorder (some h.seq) k)
        → Permᴰ (spine x (also ks h e k)) (x ∷ preorder (some x.seq) (also ks h e k))
    go childless i j = Permᴰ.trans (Permᴰ.append_comm (spine n k) (x ∷ [])) (Permᴰ.cons refl j)
    go (also ks h' e' k') i j = Permᴰ.append_right (n ∷ preorder (some h.seq) k) i

close_up_perm : (e : ℕ) (f : Open) (above : List Open) → Permᴰ (nodes (close_up e f above)) (preorder none (close_up e f above))
close_up_perm e f [] = spine_perm (node none f.head e f.closed) f.closed
close_up_perm e f (p ∷ above) = close_up_perm e (adopt e f p) above

pub nodes_perm : (e : ℕ) (fs : List Open) → Permᴰ (nodes (close_all e fs)) (preorder none (close_all e fs))
nodes_perm e [] = Permᴰ.nil
nodes_perm e (f ∷ above) = close_up_perm e f above

-- so a node is in the one list if it is in the other
pub close_all_from : (e : ℕ) (fs : List Open) (m : Node) → Memᴰ m (nodes (close_all e fs)) → Memᴰ m (preorder none (close_all e fs))
close_all_from e fs m d = perm_mem (nodes_perm e fs) d

pub close_all_has : (e : ℕ) (fs : List Open) (m : Node) → Memᴰ m (preorder none (close_all e fs)) → Memᴰ m (nodes (close_all e fs))
close_all_has e fs m d = perm_mem (Permᴰ.symm (nodes_perm e fs)) d

-- and their intervals are the same in another order
pub perm_intervals : {xs ys : List Node} → Permᴰ xs ys → Permᴰ (intervals xs) (intervals ys)
perm_intervals Permᴰ.nil = Permᴰ.nil
perm_intervals (Permᴰ.cons {a = a} {l₁ = xs} {l₂ = ys} e d) =
    subst (λ z. Permᴰ (intervals (a ∷ xs)) (intervals (z ∷ ys))) e (Permᴰ.append_left a.held (perm_intervals d))
perm_intervals (Permᴰ.swap {a = a} {b = b} {a' = a'} {l = xs} e₁ e₂) =
    subst (λ z. Permᴰ (intervals (a ∷ b ∷ xs)) (intervals (a' ∷ z ∷ xs))) e₁
    (subst (λ z. Permᴰ (intervals (a ∷ b ∷ xs)) (intervals (z ∷ a ∷ xs))) e₂
    (rw (← append_assoc a.held b.held (intervals xs), ← append_assoc b.held a.held (intervals xs))
    (Permᴰ.append_right (intervals xs) (Permᴰ.append_comm a.held b.held))))
perm_intervals (Permᴰ.trans c d) = Permᴰ.trans (perm_intervals c) (perm_intervals d)
