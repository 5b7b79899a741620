-- The places of open nodes: below the nodes used, and falling upwards, since sequence numbers are given in the order of making. Assumes nothing.
use Prim.Native.Nat.{ℕ, zero, suc, ◌≤◌, ◌<◌}
use mathlib.Core.Bool.{Bool, true, false}
use mathlib.Core.Path.{◌≡◌, refl, sym, ap, ◌∙◌}
use mathlib.Core.List.{List, [], ◌∷◌, ◌++◌, append_assoc}
use native.Mathlib.Omega.{arith}
use lib.Dec.{ltb}
use lib.ListN.{length, get_or, take, length-append}
use lib.Seq.{get_or_at, take_all, take-append-le, take-append_seam}
use borrow.Author.Tests.{ltb-true, ltb-false}
use Rattle.model.specs.Build.{Subtrees, childless, also, Open}
use Rattle.model.specs.Nodes.{upto}
use Rattle.model.proofs.ByPlace.{length_upto, get_or_upto}
use Rattle.model.proofs.Places.{preorder_n, spine_n, order, Counted}

-- ---- 0, 1, .. cut in two

take_upto : (n i : ℕ) → i ≤ n → take i (upto n) ≡ upto i
take_upto zero zero h = refl
take_upto zero (suc i) h = absurd (omega arith)
take_upto (suc n) i h = go (ltb i (suc n)) refl (take_upto n i)
  where
    go : (b : Bool) → ltb i (suc n) ≡ b → (i ≤ n → take i (upto n) ≡ upto i) → take i (upto n ++ n ∷ []) ≡ upto i
    go true e ih = let k = ltb-true i (suc n) e in take-append-le i (upto n) (n ∷ []) (omega (arith, length_upto n)) ∙ ih (omega arith)
    go false e ih =
        let k = ltb-false i (suc n) e in
        let w : suc n ≡ i = omega arith in
        take_all i (upto (suc n)) (omega (arith, length_upto (suc n))) ∙ ap upto w

-- what stands behind a first part is its length, and the first part is 0, 1, .. itself
pub upto_split : (q : ℕ) (xs : List ℕ) (y : ℕ) (ys : List ℕ) → xs ++ y ∷ ys ≡ upto q → (y < q) × (xs ≡ upto y)
upto_split q xs y ys e =
    let n : length xs < q = omega (arith, length-append xs (y ∷ ys), ap length e, length_upto q) in
    let at : y ≡ length xs = sym (get_or_at xs y ys 0 (length xs) refl) ∙ ap (λ (z : List ℕ). get_or z (length xs) 0) e ∙ get_or_upto q (length xs) n in
    let first : xs ≡ upto (length xs) = sym (take-append_seam xs (y ∷ ys)) ∙ ap (take (length xs)) e ∙ take_upto q (length xs) (omega arith) in
    (omega arith, first ∙ ap upto (sym at))

-- ---- the root is among the nodes of its spine

spine_split : (q : ℕ) (k : Subtrees) → (xs : List ℕ) × (ys : List ℕ) × (spine_n q k ≡ xs ++ q ∷ ys)
spine_split q childless = ([], [], refl)
spine_split q (also ks h e k) = go ks (spine_split q ks)
  where
    go : (ks : Subtrees) → (xs : List ℕ) × (ys : List ℕ) × (spine_n q ks ≡ xs ++ q ∷ ys) → (xs : List ℕ) × (ys : List ℕ) × (spine_n q (also ks h e k) ≡ xs ++ q ∷ ys)
    go childless r = (spine_n h.seq k, [], refl)
    go (also js g d j) r =
        (r.0, r.1 ++ h.seq ∷ preorder_n k, ap (λ (z : List ℕ). z ++ h.seq ∷ preorder_n k) r.2 ∙ append_assoc r.0 (q ∷ r.1) (h.seq ∷ preorder_n k))

-- ---- the open branch

-- each place is below q, and those of the nodes above are below it
abbrev pub Falls : ℕ → List Open → Type 0
Falls q [] = Unit {0}
Falls q (f ∷ above) = (f.head.seq < q) × Falls f.head.seq above

order_falls : (q : ℕ) (f : Open) (above : List Open) → order f above ≡ upto q → Falls q (f ∷ above)
order_falls q f [] e =
    let r = spine_split f.head.seq f.closed in
    ((upto_split q r.0 f.head.seq r.1 (sym r.2 ∙ e)).0, tt)
order_falls q f (p ∷ above) e =
    let r = upto_split q (order p above) f.head.seq (preorder_n f.closed) e in (r.0, order_falls f.head.seq p above r.1)

pub falls : (q : ℕ) (fs : List Open) → Counted q fs → Falls q fs
unfolding Counted
falls q [] c = tt
falls q (f ∷ above) c = order_falls q f above c.0

-- a place below q is below any larger number
pub falls_more : (q r : ℕ) (fs : List Open) → q ≤ r → Falls q fs → Falls r fs
falls_more q r [] le d = tt
falls_more q r (f ∷ above) le d = (omega arith, d.1)
