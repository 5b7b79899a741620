-- Sequence numbers are places: the nodes, as `nodes` lists them, have the numbers 0, 1, 2, ..
use Prim.Native.Nat.{ℕ, zero, suc, ◌+◌, ◌<◌}
use mathlib.Core.Path.{◌≡◌, refl, sym, ap, ◌∙◌, subst}
use mathlib.Core.List.{List, [], ◌∷◌, ◌++◌, append_assoc}
use mathlib.Core.Option.{Option, none, some}
use native.Mathlib.Omega.{arith}
use native.Mathlib.Nat.{add-zero}
use Rattle.model.specs.Transient.{Interval}
use Rattle.model.specs.Build.{Subtrees, childless, also, next, Open, Shape, store, adopt, chain, Grown, insert, build}
use Rattle.model.specs.Nodes.{seqs, upto, close_up, close_all, Node, node, preorder, spine, nodes}
use Rattle.model.specs.Invariant.{Shaped, HasChild}
use Rattle.model.proofs.Keep.{tree_steps, sane_at, build_sound}
use Rattle.model.proofs.Legal.{Sanes}
use Rattle.model.proofs.Steps.{Storing, close, raise, grows, keeps}

seqs_append : (xs ys : List Node) → seqs (xs ++ ys) ≡ seqs xs ++ seqs ys
seqs_append [] ys = refl
seqs_append (x ∷ xs) ys = rw (seqs_append xs ys)

-- the numbers alone, of the preorder and of a spine
abbrev pub preorder_n : Subtrees → List ℕ
preorder_n childless = []
preorder_n (also ks h e k) = preorder_n ks ++ h.seq ∷ preorder_n k

abbrev pub if_childless_n : Subtrees → List ℕ → List ℕ → List ℕ
if_childless_n childless a b = a
if_childless_n (also ks h e k) a b = b

abbrev pub spine_n : ℕ → Subtrees → List ℕ
spine_n q childless = q ∷ []
spine_n q (also ks h e k) = if_childless_n ks (spine_n h.seq k ++ q ∷ []) (spine_n q ks ++ h.seq ∷ preorder_n k)

preorder_seqs : (p : Option ℕ) (ks : Subtrees) → seqs (preorder p ks) ≡ preorder_n ks
preorder_seqs p childless = refl
preorder_seqs p (also ks h e k) = rw (seqs_append, preorder_seqs p ks, preorder_seqs (some h.seq) k)

spine_seqs : (x : Node) (ks : Subtrees) → seqs (spine x ks) ≡ spine_n x.seq ks
spine_seqs x childless = refl
spine_seqs x (also ks h e k) = go ks (spine_seqs x ks) (spine_seqs n k)
  where
    n : Node
    n = node (some x.seq) h e k

    go : (ks : Subtrees) → seqs (spine x ks) ≡ spine_n x.seq ks → seqs (spine n k) ≡ spine_n h.seq k
        → seqs (spine x (also ks h e k)) ≡ spine_n x.seq (also ks h e k)
    go childless i j = seqs_append (spine n k) (x ∷ []) ∙ ap (λ z. z ++ x.seq ∷ []) j
    go (also ks h' e' k') i j = seqs_append (spine x (also ks h' e' k')) (n ∷ preorder (some h.seq) k) ∙ rw (i, preorder_seqs (some h.seq) k)

-- the numbers of the nodes of an open branch, in the order of `nodes`
abbrev pub order : Open → List Open → List ℕ
order f [] = spine_n f.head.seq f.closed
order f (p ∷ above) = order p above ++ f.head.seq ∷ preorder_n f.closed

abbrev pub orders : List Open → List ℕ
orders [] = []
orders (f ∷ above) = order f above

-- a root that has a child has a closed one: it was made on top of it
abbrev pub Root : Open → List Open → Type 0
Root f [] = HasChild f.closed
Root f (p ∷ above) = Root p above

abbrev pub Firm : Open → List Open → Type 0
Firm f [] = 0 < f.head.level → HasChild f.closed
Firm f (p ∷ above) = Root p above

abbrev pub Firms : List Open → Type 0
Firms [] = Unit {0}
Firms (f ∷ above) = Firm f above

pub adopt_order : (e : ℕ) (f p : Open) (above : List Open) → Root p above → order (adopt e f p) above ≡ order f (p ∷ above)
adopt_order e f p [] r = go p.closed r
  where
    go : (k : Subtrees) → HasChild k
        → if_childless_n k (spine_n f.head.seq f.closed ++ p.head.seq ∷ []) (spine_n p.head.seq k ++ f.head.seq ∷ preorder_n f.closed)
        ≡ spine_n p.head.seq k ++ f.head.seq ∷ preorder_n f.closed
    go childless x = absurd x
    go (also ks h e k) x = refl
adopt_order e f p (r ∷ above) x = sym (append_assoc (order r above) (p.head.seq ∷ preorder_n p.closed) (f.head.seq ∷ preorder_n f.closed))

pub adopt_firm : (e : ℕ) (f p : Open) (above : List Open) → Root p above → Firm (adopt e f p) above
adopt_firm e f p [] r = λ x. tt
adopt_firm e f p (r ∷ above) x = x

-- the interval that a node takes changes neither
store_here : (iv : Interval) (f : Open) (above : List Open)
    → (order (store iv f) above ≡ order f above) × (Firm f above → Firm (store iv f) above) × (Root f above → Root (store iv f) above)
store_here iv f [] = (refl, (λ x. x), (λ x. x))
store_here iv f (p ∷ above) = (refl, (λ x. x), (λ x. x))

pub store_in : (iv : Interval) (g : Open) (below : List Open) (f : Open) (above : List Open)
    → (order g (below ++ store iv f ∷ above) ≡ order g (below ++ f ∷ above)) × (Firm g (below ++ f ∷ above) → Firm g (below ++ store iv f ∷ above))
    × (Root g (below ++ f ∷ above) → Root g (below ++ store iv f ∷ above))
store_in iv g [] f above = let h = store_here iv f above in (ap (λ z. z ++ g.head.seq ∷ preorder_n g.closed) h.0, h.2, h.2)
store_in iv g (g' ∷ below) f above = let h = store_in iv g' below f above in (ap (λ z. z ++ g.head.seq ∷ preorder_n g.closed) h.0, h.2, h.2)

unfoldable pub Counted : ℕ → List Open → Type 0
Counted q fs = (orders fs ≡ upto q) × Firms fs

pub store_counted : (iv : Interval) (q : ℕ) (below : List Open) (f : Open) (above : List Open) → Counted q (below ++ f ∷ above)
    → Counted q (below ++ store iv f ∷ above)
unfolding Counted
store_counted iv q [] f above c = let h = store_here iv f above in (h.0 ∙ c.0, h.1 c.1)
store_counted iv q (g ∷ below) f above c = let h = store_in iv g below f above in (h.0 ∙ c.0, h.1 c.1)

chain_counted : (n q a : ℕ) (iv : Interval) (f : Open) (above : List Open) → Root f above → Counted q (f ∷ above)
    → Counted (q + n) (chain n q a iv (f ∷ above))
unfolding Counted
chain_counted zero q a iv f above r c = (c.0 ∙ ap upto (sym (add-zero q)), c.1)
chain_counted (suc n) q a iv f above r c = let e : suc q + n ≡ q + suc n = omega arith in subst (λ (m : ℕ). Counted m (chain (suc n) q a iv (f ∷ above))) e
    (chain_counted n (suc q) a iv _ (f ∷ above) r (ap (λ z. z ++ q ∷ []) c.0, r))

pub full_root : (f : Open) (above : List Open) → 0 < f.head.level → Firm f above → Root f above
full_root f [] h x = x h
full_root f (p ∷ above) h x = x

steps_counted : {sh : Shape} {iv : Interval} {o S q : ℕ} {fs : List Open} {r : Grown} → Storing sh iv o S q fs r → Counted q fs
    → Counted r.used r.branch
unfolding Counted
steps_counted {S = S} (close {f = f} {p = p} {above = above} s) c = steps_counted s (adopt_order S f p above c.1 ∙ c.0, adopt_firm S f p above c.1)
steps_counted (raise {q = q} {f = f} s) c = steps_counted s (ap (λ z. z ++ q ∷ []) c.0, (λ x. tt))
steps_counted {iv = iv} (grows {q = q} f above x y z) c =
    chain_counted f.head.level q (next f.head.start f.closed) iv f above (full_root f above x c.1) c
steps_counted {iv = iv} (keeps {q = q} below f above x y) c = store_counted iv q below f above c

pub build_counted : (sh : Shape) (o : ℕ) (ivs : List Interval) → Shaped sh → Sanes o ivs → Counted (build sh o ivs).used (build sh o ivs).branch
unfolding build insert Counted
build_counted sh o [] d h = (refl, (λ x. absurd (omega arith)))
build_counted sh o (iv ∷ ivs) d h =
    steps_counted (tree_steps sh iv (build sh o ivs) d (sane_at sh o iv ivs h.0) (build_sound sh o ivs d h.1)) (build_counted sh o ivs d h.1)

close_up_order : (e : ℕ) (f : Open) (above : List Open) → Firm f above → seqs (nodes (close_up e f above)) ≡ order f above
close_up_order e f [] x = spine_seqs (node none f.head e f.closed) f.closed
close_up_order e f (p ∷ above) x = close_up_order e (adopt e f p) above (adopt_firm e f p above x) ∙ adopt_order e f p above x

pub close_all_order : (e : ℕ) (fs : List Open) → Firms fs → seqs (nodes (close_all e fs)) ≡ orders fs
close_all_order e [] x = refl
close_all_order e (f ∷ above) x = close_up_order e f above x

pub places : (sh : Shape) (o e : ℕ) (ivs : List Interval) → Shaped sh → Sanes o ivs
    → seqs (nodes (close_all e (build sh o ivs).branch)) ≡ upto (build sh o ivs).used
unfolding Counted
places sh o e ivs d h = let c = build_counted sh o ivs d h in close_all_order e (build sh o ivs).branch c.1 ∙ c.0
