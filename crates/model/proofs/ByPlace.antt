-- The list of the nodes by places: each node stands at its sequence number, and the walk by places is the walk.
use Prim.Native.Nat.{ℕ, zero, suc, ◌≤◌, ◌<◌}
use mathlib.Core.Bool.{Bool, true, false, cond}
use mathlib.Core.Path.{◌≡◌, refl, sym, ap, ◌∙◌}
use mathlib.Core.List.Memᴰ
use mathlib.Core.List.{List, [], ◌∷◌, ◌++◌, Memᴰ}
use mathlib.Core.Option.{Option, none, some}
use native.Mathlib.Omega.{arith}
use lib.Dec.{leb, ltb}
use lib.ListN.{length, get_or, length-append, get_or-append}
use lib.Seq.{get_or_at}
use borrow.Author.Tests.{ltb-true, ltb-false, le-leb}
use Rattle.model.specs.Build.{Head, Subtrees, childless, also, Open, adopt}
use Rattle.model.specs.Nodes.{close_up, close_all, Node, entries, node, preorder, blank, upto, seqs}
use Rattle.model.specs.Questions.{walk, or_else, last_at, onward, chase}
use Rattle.model.specs.Invariant.{Good, Some}

-- lookup
pub length_upto : (n : ℕ) → length (upto n) ≡ n
length_upto zero = refl
length_upto (suc n) = length-append (upto n) (n ∷ []) ∙ omega (arith, length_upto n)

pub length_seqs : (ns : List Node) → length (seqs ns) ≡ length ns
length_seqs [] = refl
length_seqs (n ∷ ns) = ap suc (length_seqs ns)

pub get_or_upto : (n i : ℕ) → i < n → get_or (upto n) i 0 ≡ i
get_or_upto zero i h = absurd (omega arith)
get_or_upto (suc n) i h = go (ltb i n) refl (get_or_upto n i)
  where
    go : (b : Bool) → ltb i n ≡ b → (i < n → get_or (upto n) i 0 ≡ i) → get_or (upto n ++ n ∷ []) i 0 ≡ i
    go true e ih = let k = ltb-true i n e in get_or-append (upto n) (n ∷ []) 0 i (omega (arith, length_upto n)) ∙ ih k
    go false e ih =
        let k = ltb-false i n e in
        let j : length (upto n) ≡ i = omega (arith, length_upto n) in let w : n ≡ i = omega arith in get_or_at (upto n) n [] 0 i j ∙ w

get_or_seqs : (ns : List Node) (i : ℕ) → get_or (seqs ns) i 0 ≡ (get_or ns i blank).seq
get_or_seqs [] i = refl
get_or_seqs (n ∷ ns) zero = refl
get_or_seqs (n ∷ ns) (suc i) = get_or_seqs ns i

mem_at : {m : Node} {ns : List Node} → Memᴰ m ns → (i : ℕ) × (i < length ns) × (get_or ns i blank ≡ m)
mem_at (Memᴰ.head e) = (0, omega arith, sym e)
mem_at (Memᴰ.tail d) = let r = mem_at d in (suc r.0, omega (arith, r.1), r.2)

pub at_mem : (ns : List Node) (i : ℕ) → i < length ns → Memᴰ (get_or ns i blank) ns
at_mem [] i h = absurd (omega arith)
at_mem (n ∷ ns) zero h = Memᴰ.head refl
at_mem (n ∷ ns) (suc i) h = Memᴰ.tail (at_mem ns i (omega arith))

pub place_at : (k : ℕ) (ns : List Node) (i : ℕ) → seqs ns ≡ upto k → i < length ns → (get_or ns i blank).seq ≡ i
place_at k ns i e h = sym (get_or_seqs ns i) ∙ (ap (λ z. get_or z i 0) e ∙ get_or_upto k i (omega (arith, length_seqs ns, ap length e, length_upto k)))

-- m stands in ns at its number
abbrev pub Here : List Node → Node → Type 0
Here ns m = (m.seq < length ns) × (get_or ns m.seq blank ≡ m)

pub in_place : (k : ℕ) (ns : List Node) (m : Node) → seqs ns ≡ upto k → Memᴰ m ns → Here ns m
in_place k ns m e d =
    let r = mem_at d in
    let w : m.seq ≡ r.0 = ap (λ n. n.seq) (sym r.2) ∙ place_at k ns r.0 e r.1 in
    (omega (arith, r.1), ap (λ z. get_or ns z blank) w ∙ r.2)

pub at_place : (k : ℕ) (ns : List Node) (m : Node) → seqs ns ≡ upto k → Memᴰ m ns → get_or ns m.seq blank ≡ m
at_place k ns m e d = (in_place k ns m e d).1

-- every node of these subtrees does
abbrev pub At : List Node → Option ℕ → Subtrees → Type 0
At ns p childless = Unit {0}
At ns p (also ks h e k) = At ns p ks × Here ns (node p h e k) × At ns (some h.seq) k

pub preorder_at : (ns : List Node) (p : Option ℕ) (ks : Subtrees) → ((m : Node) → Memᴰ m (preorder p ks) → Here ns m) → At ns p ks
preorder_at ns p childless f = tt
preorder_at ns p (also ks h e k) f = (
  preorder_at ns p ks (λ m d. f m (Memᴰ.append_left _ d)),
  f (node p h e k) (Memᴰ.append_right (preorder p ks) (Memᴰ.head refl)),
  preorder_at ns (some h.seq) k (λ m d. f m (Memᴰ.append_right (preorder p ks) (Memᴰ.tail d))),
)

-- the walk by places: the last entry of two lists of entries is that of the second, if it has one
last_append : (t : ℕ) (xs ys : List (ℕ × ℕ)) → last_at t (xs ++ ys) ≡ or_else (last_at t ys) (last_at t xs)
last_append t [] ys = go (last_at t ys)
  where
    go : (o : Option ℕ) → o ≡ or_else o none
    go none = refl
    go (some a) = refl
last_append t (x ∷ xs) ys = rw (last_append t xs ys) (go (last_at t ys) (last_at t xs) (cond (leb x.1 t) (some x.0) none))
  where
    go : (a b c : Option ℕ) → or_else (or_else a b) c ≡ or_else a (or_else b c)
    go none b c = refl
    go (some a) b c = refl

chase_walk : (t l a : ℕ) (ns : List Node) (p : Option ℕ) (ks : Subtrees) → Good l a ks → At ns p ks
    → onward t ns (chase l t ns) (last_at t (entries ks)) ≡ walk t p ks
chase_walk t l a ns p childless g w = refl
chase_walk t zero a ns p (also ks h e k) g w = absurd g
chase_walk t (suc l) a ns p (also ks h e k) g w = rw (last_append t (entries ks) ((h.seq, h.start) ∷ [])) (go (leb h.start t) (leb t e) refl refl
    (chase_walk t (suc l) a ns p ks g.0 w.0) (chase_walk t l h.start ns (some h.seq) k g.2 w.2))
  where
    go : (b c : Bool) → leb h.start t ≡ b → leb t e ≡ c → onward t ns (chase (suc l) t ns) (last_at t (entries ks)) ≡ walk t p ks
        → onward t ns (chase l t ns) (last_at t (entries k)) ≡ walk t (some h.seq) k
        → onward t ns (chase (suc l) t ns) (or_else (cond b (some h.seq) none) (last_at t (entries ks)))
        ≡ cond b (cond c (node p h e k ∷ walk t (some h.seq) k) []) (walk t p ks)
    go true true x y i j = rw (w.1.1, x, y, j)
    go true false x y i j = rw (w.1.1, x, y)
    go false c x y i j = i

-- what is shown has one root
close_up_root : (e : ℕ) (f : Open) (above : List Open) → (r : Head) × (k : Subtrees) × (close_up e f above ≡ also childless r e k)
close_up_root e f [] = (f.head, f.closed, refl)
close_up_root e f (p ∷ above) = close_up_root e (adopt e f p) above

pub close_all_root : (e : ℕ) (fs : List Open) → Some fs → (r : Head) × (k : Subtrees) × (close_all e fs ≡ also childless r e k)
close_all_root e [] s = absurd s
close_all_root e (f ∷ above) s = close_up_root e f above

pub chase_root : (t l a e : ℕ) (ns : List Node) (r : Head) (k : Subtrees) → Good l a (also childless r e k) → At ns none (also childless r e k)
    → a ≤ t → t ≤ e
    → chase (suc r.level) t ns r.seq ≡ walk t none (also childless r e k)
chase_root t zero a e ns r k g w h i = absurd g
chase_root t (suc l) a e ns r k g w h i = rw (le-leb r.start t (omega (arith, g.1.start)), le-leb t e i, w.1.1) (ap (λ z. node none r e k ∷ z)
    (ap (λ z. onward t ns (chase z t ns) (last_at t (entries k))) g.1.level ∙ chase_walk t l r.start ns (some r.seq) k g.2 w.2))
