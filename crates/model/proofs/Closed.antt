-- What is closed stays as it is: the closed nodes of a branch are among the closed nodes of every later one.
use Prim.Native.Nat.{ℕ, zero, suc, ◌≤◌}
use mathlib.Core.Path.{◌≡◌, refl, sym, ap, ◌∙◌, subst}
use mathlib.Core.Logic.{◌⊎◌, inl, inr}
use mathlib.Core.List.Memᴰ
use mathlib.Core.List.Sublistᴰ
use mathlib.Core.List.{List, [], ◌∷◌, ◌++◌, append_assoc, append-nil, Sublistᴰ, Memᴰ}
use mathlib.Core.Option.{Option, none, some}
use native.Mathlib.Omega.{arith}
use Rattle.model.specs.Transient.{Interval}
use Rattle.model.specs.Build.{Subtrees, childless, also, next, Open, Shape, Tree, store, adopt, chain, Grown, insert, build}
use Rattle.model.specs.Nodes.{close_up, close_all, Node, node, preorder}
use Rattle.model.specs.Invariant.{Shaped, Good, Branch, Sound}
use Rattle.model.proofs.Keep.{tree_steps, sane_at, build_sound}
use Rattle.model.proofs.Legal.{Sane, Sanes}
use Rattle.model.proofs.Steps.{Storing, close, raise, grows, keeps}

-- the closed nodes below an open branch
abbrev pub closed : List Open → List Node
closed [] = []
closed (f ∷ above) = closed above ++ preorder (some f.head.seq) f.closed

chain_closed : (n q a : ℕ) (iv : Interval) (fs : List Open) → closed (chain n q a iv fs) ≡ closed fs
chain_closed zero q a iv fs = refl
chain_closed (suc n) q a iv fs = chain_closed n (suc q) a iv _ ∙ append-nil (closed fs)

store_closed : (iv : Interval) (below : List Open) (f : Open) (above : List Open) → closed (below ++ store iv f ∷ above) ≡ closed (below ++ f ∷ above)
store_closed iv [] f above = refl
store_closed iv (g ∷ below) f above = rw (store_closed iv below f above)

adopt_closed : (e : ℕ) (f p : Open) (above : List Open) → Sublistᴰ (closed (f ∷ p ∷ above)) (closed (adopt e f p ∷ above))
adopt_closed e f p above =
    let q = Sublistᴰ.refl (preorder (some p.head.seq) p.closed) in
    rw append_assoc (Sublistᴰ.append (Sublistᴰ.refl (closed above)) (Sublistᴰ.append q (Sublistᴰ.cons (Sublistᴰ.refl _))))

steps_closed : {sh : Shape} {iv : Interval} {o S q : ℕ} {fs : List Open} {r : Grown} → Storing sh iv o S q fs r → Sublistᴰ (closed fs) (closed r.branch)
steps_closed {S = S} (close {f = f} {p = p} {above = above} s) = Sublistᴰ.trans (adopt_closed S f p above) (steps_closed s)
steps_closed (raise s) = Sublistᴰ.trans (Sublistᴰ.cons (Sublistᴰ.refl _)) (steps_closed s)
steps_closed {iv = iv} (grows {q = q} f above x y z) =
    rw (chain_closed f.head.level q (next f.head.start f.closed) iv (f ∷ above)) (Sublistᴰ.refl _)
steps_closed {iv = iv} (keeps below f above x y) = rw (store_closed iv below f above) (Sublistᴰ.refl _)

-- the nodes that are closed before an insert stand after it as they were, in the same order
pub insert_closed : (sh : Shape) (iv : Interval) (t : Tree) → Shaped sh → Sane t.start iv → Sound t
    → Sublistᴰ (closed t.branch) (closed (insert sh iv t).branch)
unfolding insert
insert_closed sh iv t d h s = steps_closed (tree_steps sh iv t d h s)

pub build_closed : (sh : Shape) (o : ℕ) (more ivs : List Interval) → Shaped sh → Sanes o (more ++ ivs)
    → Sublistᴰ (closed (build sh o ivs).branch) (closed (build sh o (more ++ ivs)).branch)
unfolding build
build_closed sh o [] ivs d h = Sublistᴰ.refl _
build_closed sh o (iv ∷ more) ivs d h = let t = build sh o (more ++ ivs) in
    Sublistᴰ.trans (build_closed sh o more ivs d h.1)
    (insert_closed sh iv t d (sane_at sh o iv (more ++ ivs) h.0) (build_sound sh o (more ++ ivs) d h.1))

-- the nodes as they are shown: those that are closed, and the open ones with the end e
close_up_closed : (e : ℕ) (f : Open) (above : List Open) → Sublistᴰ (closed (f ∷ above)) (preorder none (close_up e f above))
close_up_closed e f [] = Sublistᴰ.cons (Sublistᴰ.refl _)
close_up_closed e f (p ∷ above) = Sublistᴰ.trans (adopt_closed e f p above) (close_up_closed e (adopt e f p) above)

pub close_all_closed : (e : ℕ) (fs : List Open) → Sublistᴰ (closed fs) (preorder none (close_all e fs))
close_all_closed e [] = Sublistᴰ.slnil
close_all_closed e (f ∷ above) = close_up_closed e f above

close_up_split : (e : ℕ) (f : Open) (above : List Open) (m : Node) → Memᴰ m (preorder none (close_up e f above))
    → Memᴰ m (closed (f ∷ above)) ⊎ (m.end ≡ e)
close_up_split e f [] m i = go (Memᴰ.cases_cons i)
  where
    go : (m ≡ node none f.head e f.closed) ⊎ Memᴰ m (preorder (some f.head.seq) f.closed) → Memᴰ m (closed (f ∷ [])) ⊎ (m.end ≡ e)
    go (inl x) = inr (ap (λ n. n.end) x)
    go (inr x) = inl x
close_up_split e f (p ∷ above) m i = go (close_up_split e (adopt e f p) above m i)
  where
    last : (m ≡ node (some p.head.seq) f.head e f.closed) ⊎ Memᴰ m (preorder (some f.head.seq) f.closed)
        → Memᴰ m (closed (f ∷ p ∷ above)) ⊎ (m.end ≡ e)
    last (inl x) = inr (ap (λ n. n.end) x)
    last (inr x) = inl (Memᴰ.append_right (closed (p ∷ above)) x)

    inner : Memᴰ m (preorder (some p.head.seq) p.closed)
        ⊎ Memᴰ m (node (some p.head.seq) f.head e f.closed ∷ preorder (some f.head.seq) f.closed)
        → Memᴰ m (closed (f ∷ p ∷ above)) ⊎ (m.end ≡ e)
    inner (inl x) = inl (Memᴰ.append_left _ (Memᴰ.append_right (closed above) x))
    inner (inr x) = last (Memᴰ.cases_cons x)

    outer : Memᴰ m (closed above) ⊎ Memᴰ m (preorder (some p.head.seq) (adopt e f p).closed)
        → Memᴰ m (closed (f ∷ p ∷ above)) ⊎ (m.end ≡ e)
    outer (inl x) = inl (Memᴰ.append_left _ (Memᴰ.append_left _ x))
    outer (inr x) = inner (Memᴰ.append_cases (preorder (some p.head.seq) p.closed) x)

    go : Memᴰ m (closed (adopt e f p ∷ above)) ⊎ (m.end ≡ e) → Memᴰ m (closed (f ∷ p ∷ above)) ⊎ (m.end ≡ e)
    go (inl x) = outer (Memᴰ.append_cases (closed above) x)
    go (inr x) = inr x

pub close_all_split : (e : ℕ) (fs : List Open) (m : Node) → Memᴰ m (preorder none (close_all e fs)) → Memᴰ m (closed fs) ⊎ (m.end ≡ e)
close_all_split e [] m i = inl i
close_all_split e (f ∷ above) m i = close_up_split e f above m i

pub sub_mem : {m : Node} {xs ys : List Node} → Sublistᴰ xs ys → Memᴰ m xs → Memᴰ m ys
sub_mem Sublistᴰ.slnil d = d
sub_mem (Sublistᴰ.cons s) d = Memᴰ.tail (sub_mem s d)
sub_mem {m = m} (Sublistᴰ.cons-cons {a = a} {b = b} {l₁ = xs} {l₂ = ys} e s) d = go (Memᴰ.cases_cons d) (sub_mem s)
  where
    go : (m ≡ a) ⊎ Memᴰ m xs → (Memᴰ m xs → Memᴰ m ys) → Memᴰ m (b ∷ ys)
    go (inl x) ih = Memᴰ.head (x ∙ e)
    go (inr x) ih = Memᴰ.tail (ih x)

-- and what is closed ended by S
preorder_ends : (l a S : ℕ) (p : Option ℕ) (ks : Subtrees) → Good l a ks → next a ks ≤ suc S → (m : Node) → Memᴰ m (preorder p ks) → m.end ≤ S
preorder_ends l a S p childless g w m d = absurd (Memᴰ.not-nil d)
preorder_ends zero a S p (also ks h e k) g w m d = absurd g
preorder_ends (suc l) a S p (also ks h e k) g w m d = go (Memᴰ.append_cases (preorder p ks) d)
    (preorder_ends (suc l) a S p ks g.0 (omega (arith, g.1.start, g.1.ordered)) m)
    (preorder_ends l h.start S (some h.seq) k g.2 (omega (arith, g.1.within)) m)
  where
    last : (m ≡ node p h e k) ⊎ Memᴰ m (preorder (some h.seq) k) → (Memᴰ m (preorder (some h.seq) k) → m.end ≤ S) → m.end ≤ S
    last (inl x) j = subst (λ (z : ℕ). z ≤ S) (sym (ap (λ n. n.end) x)) (omega arith)
    last (inr x) j = j x

    go : Memᴰ m (preorder p ks) ⊎ Memᴰ m (node p h e k ∷ preorder (some h.seq) k) → (Memᴰ m (preorder p ks) → m.end ≤ S)
        → (Memᴰ m (preorder (some h.seq) k) → m.end ≤ S) → m.end ≤ S
    go (inl x) i j = i x
    go (inr x) i j = last (Memᴰ.cases_cons x) j

pub closed_ends : (o S : ℕ) (fs : List Open) → Branch o S fs → (m : Node) → Memᴰ m (closed fs) → m.end ≤ S
closed_ends o S [] b m d = absurd (Memᴰ.not-nil d)
closed_ends o S (f ∷ above) b m d = go (Memᴰ.append_cases (closed above) d) (closed_ends o S above b.2 m)
  where
    go : Memᴰ m (closed above) ⊎ Memᴰ m (preorder (some f.head.seq) f.closed) → (Memᴰ m (closed above) → m.end ≤ S) → m.end ≤ S
    go (inl x) i = i x
    go (inr x) i = preorder_ends f.head.level f.head.start S (some f.head.seq) f.closed b.0.good b.0.within m x
