-- Laws of `sets`, a run of stores into a list: over its parts, over what lies beside it, over a part that was lent. Assumes nothing.
use Prim.Native.Nat.{ℕ, zero, suc, ◌+◌, ◌-◌, ◌<◌, ◌≤◌}
use mathlib.Core.Path.{◌≡◌, refl, sym, ap, ◌∙◌}
use mathlib.Core.List.{List, [], ◌∷◌, ◌++◌, append_assoc, append-nil}
use native.Mathlib.Nat.{not-suc-le-zero, le_of_suc-le-suc, add-zero, add-suc, suc-add, zero-add}
use native.Mathlib.Omega.{arith}
use lib.ListN.{length, get_or, take, drop, set, length-set, length-drop, length-replicate, take-append-drop, replicate, replicate-append-replicate, drop_of_length-le}
use borrow.Rule.Slice.PartMut.{mid_of, post_of, put_mid}
use lib.Seq.{sets, sets-eq, length-sets, length-take-le, set-append_left, set_comm, get_or-set_other}

-- ---- runs of stores

pub sets_append : (l : List ℕ) (i : ℕ) (xs ys : List ℕ) → sets l i (xs ++ ys) ≡ sets (sets l i xs) (i + length xs) ys
sets_append l i [] ys = ap (λ (k : ℕ). sets l k ys) (sym (add-zero i))
sets_append l i (x ∷ xs) ys =
    sets_append (set l i x) (suc i) xs ys
    ∙ ap (λ (k : ℕ). sets (sets (set l i x) (suc i) xs) k ys) (omega (arith, add-suc i (length xs)))

sets_cons : (x : ℕ) (l : List ℕ) (i : ℕ) (vs : List ℕ) → sets (x ∷ l) (suc i) vs ≡ x ∷ sets l i vs
sets_cons x l i [] = refl
sets_cons x l i (v ∷ vs) = sets_cons x (set l i v) (suc i) vs

-- a run of stores to the stretch from n on, seen in the whole
pub sets_stretch : (n : ℕ) (l : List ℕ) (i : ℕ) (vs : List ℕ) → n ≤ length l → take n l ++ sets (drop n l) i vs ≡ sets l (n + i) vs
sets_stretch zero l i vs h = ap (λ (k : ℕ). sets l k vs) (sym (zero-add i))
sets_stretch (suc n) [] i vs h = absurd (not-suc-le-zero h)
sets_stretch (suc n) (x ∷ l) i vs h =
    ap (λ (t : List ℕ). x ∷ t) (sets_stretch n l i vs (le_of_suc-le-suc h))
    ∙ sym (sets_cons x l (n + i) vs)
    ∙ ap (λ (k : ℕ). sets (x ∷ l) k vs) (sym (suc-add n i))

pub get_or_sets_below : (l : List ℕ) (i : ℕ) (vs : List ℕ) (j d : ℕ) → j < i → get_or (sets l i vs) j d ≡ get_or l j d
get_or_sets_below l i [] j d h = refl
get_or_sets_below l i (v ∷ vs) j d h =
    get_or_sets_below (set l i v) (suc i) vs j d (omega arith) ∙ get_or-set_other l i j v d (λ e. omega arith)

pub get_or_sets_above : (l : List ℕ) (i : ℕ) (vs : List ℕ) (j d : ℕ) → i + length vs ≤ j → get_or (sets l i vs) j d ≡ get_or l j d
get_or_sets_above l i [] j d h = refl
get_or_sets_above l i (v ∷ vs) j d h =
    get_or_sets_above (set l i v) (suc i) vs j d (omega (arith, add-suc i (length vs)))
    ∙ get_or-set_other l i j v d (λ e. omega (arith, add-suc i (length vs)))

set_sets_comm : (l : List ℕ) (i : ℕ) (a : ℕ) (j : ℕ) (vs : List ℕ) → i < j → sets (set l i a) j vs ≡ set (sets l j vs) i a
set_sets_comm l i a j [] h = refl
set_sets_comm l i a j (v ∷ vs) h =
    ap (λ (t : List ℕ). sets t (suc j) vs) (set_comm l i j a v (λ e. omega arith))
    ∙ set_sets_comm (set l j v) i a (suc j) vs (omega arith)

-- two runs of stores that do not meet may change places
pub sets_comm : (l : List ℕ) (i : ℕ) (xs : List ℕ) (j : ℕ) (ys : List ℕ) → i + length xs ≤ j → sets (sets l i xs) j ys ≡ sets (sets l j ys) i xs
sets_comm l i [] j ys h = refl
sets_comm l i (x ∷ xs) j ys h =
    sets_comm (set l i x) (suc i) xs j ys (omega (arith, add-suc i (length xs)))
    ∙ ap (λ (t : List ℕ). sets t (suc i) xs) (set_sets_comm l i x j ys (omega (arith, add-suc i (length xs))))

-- ---- over a list that is written as one part after another

-- stores behind the first part
pub sets_after : (P l : List ℕ) (i : ℕ) (vs : List ℕ) → sets (P ++ l) (length P + i) vs ≡ P ++ sets l i vs
sets_after [] l i vs = ap (λ (k : ℕ). sets l k vs) (zero-add i)
sets_after (x ∷ P) l i vs = ap (λ (k : ℕ). sets (x ∷ P ++ l) k vs) (suc-add (length P) i) ∙ (sets_cons x (P ++ l) (length P + i) vs ∙ ap (λ (z : List ℕ). x ∷ z) (sets_after P l i vs))

-- stores over the first part
pub sets_front : (X B Y : List ℕ) → length X ≡ length Y → sets (X ++ B) 0 Y ≡ Y ++ B
sets_front [] B [] e = refl
sets_front [] B (y ∷ Y) e = absurd (omega arith)
sets_front (x ∷ X) B [] e = absurd (omega arith)
sets_front (x ∷ X) B (y ∷ Y) e = sets_cons y (X ++ B) 0 Y ∙ ap (λ (z : List ℕ). y ∷ z) (sets_front X B Y (omega arith))

-- stores over a part in the middle
pub sets_over : (A X B Y : List ℕ) (n : ℕ) → length A ≡ n → length X ≡ length Y → sets (A ++ (X ++ B)) n Y ≡ A ++ (Y ++ B)
sets_over A X B Y n a e = ap (λ (k : ℕ). sets (A ++ (X ++ B)) k Y) (sym a ∙ sym (add-zero (length A))) ∙ (sets_after A (X ++ B) 0 Y ∙ ap (λ (z : List ℕ). A ++ z) (sets_front X B Y e))

-- stores within the first part: the rest stays
pub sets_left : (xs ys : List ℕ) (i : ℕ) (vs : List ℕ) → i + length vs ≤ length xs → sets (xs ++ ys) i vs ≡ sets xs i vs ++ ys
sets_left xs ys i [] h = refl
sets_left xs ys i (v ∷ vs) h =
    ap (λ (l : List ℕ). sets l (suc i) vs) (set-append_left xs ys i v (omega (arith, add-suc i (length vs))))
    ∙ sets_left (set xs i v) ys (suc i) vs (rw length-set (omega (arith, add-suc i (length vs))))

pub sets_in : (P M Q : List ℕ) (n i : ℕ) (vs : List ℕ) → length P ≡ n → i + length vs ≤ length M → sets (P ++ (M ++ Q)) (n + i) vs ≡ P ++ (sets M i vs ++ Q)
sets_in P M Q n i vs e h = ap (λ (k : ℕ). sets (P ++ (M ++ Q)) (k + i) vs) (sym e) ∙ (sets_after P (M ++ Q) i vs ∙ ap (λ (z : List ℕ). P ++ z) (sets_left M Q i vs h))

-- stores into what was just stored: one run of stores is enough
pub sets_within : (c : List ℕ) (i : ℕ) (X : List ℕ) (off : ℕ) (Y : List ℕ) → i + length X ≤ length c → off + length Y ≤ length X → sets (sets c i X) (i + off) Y ≡ sets c i (sets X off Y)
sets_within c i X off Y h k =
    let P = take i c in let Q = drop (i + length X) c in
    let e : sets c i X ≡ P ++ (X ++ Q) = sets-eq X c i h ∙ append_assoc P X Q in
    let n : length (sets X off Y) ≡ length X = length-sets X off Y in
    let f : sets c i (sets X off Y) ≡ P ++ (sets X off Y ++ Q) = (sets-eq (sets X off Y) c i (omega arith) ∙ append_assoc P (sets X off Y) _) ∙ ap (λ (z : ℕ). P ++ (sets X off Y ++ drop (i + z) c)) n in
    ap (λ (z : List ℕ). sets z (i + off) Y) e ∙ (sets_in P X Q i off Y (length-take-le i c (omega arith)) k ∙ sym f)

-- ---- the whole list

-- a run of stores over the whole list
pub sets_all : (l vs : List ℕ) → length vs ≡ length l → sets l 0 vs ≡ vs
sets_all l vs e =
    sets-eq vs l 0 (omega arith)
    ∙ ap (λ (t : List ℕ). vs ++ t) (drop_of_length-le l {i = 0 + length vs} (omega arith))
    ∙ append-nil vs

-- ---- a part of a slice that was lent and comes back

-- it has the length that was asked for
pub length_mid : (a k : ℕ) (xs : List ℕ) → a + k ≤ length xs → length (mid_of a k xs) ≡ k
length_mid a k xs h = length-take-le k (drop a xs) (rw length-drop (omega arith))

-- what a callee stored from i on in the k elements that were lent from a on is stored from a + i on in the whole
pub sets_part : (a k : ℕ) (xs : List ℕ) (i : ℕ) (vs : List ℕ) → a ≤ length xs → i + length vs ≤ length (mid_of a k xs) → put_mid a k xs (sets (mid_of a k xs) i vs) ≡ sets xs (a + i) vs
sets_part a k xs i vs h g =
    ap (λ (l : List ℕ). take a xs ++ l)
    (sym (sets_left (mid_of a k xs) (post_of a k xs) i vs g) ∙ ap (λ (l : List ℕ). sets l i vs) (take-append-drop k (drop a xs)))
    ∙ sets_stretch a xs i vs h

-- the same of `&mut xs[a..e]`, k being e - a: ys is what the callee left
pub sets_lent : (a k : ℕ) (xs ys : List ℕ) (vs : List ℕ) → ys ≡ sets (mid_of a k xs) 0 vs → a + k ≤ length xs → length vs ≤ k → put_mid a k xs ys ≡ sets xs a vs
sets_lent a k xs ys vs e h g =
    ap (λ (l : List ℕ). put_mid a k xs l) e ∙ sets_part a k xs 0 vs (omega arith) (omega (arith, length_mid a k xs h)) ∙ rw add-zero

-- and where the callee wrote all of it
pub sets_whole : (a k : ℕ) (xs ys vs : List ℕ) → ys ≡ vs → length vs ≡ k → a + k ≤ length xs → put_mid a k xs ys ≡ sets xs a vs
sets_whole a k xs ys vs e g h = sets_lent a k xs ys vs (e ∙ sym (sets_all (mid_of a k xs) vs (omega (arith, length_mid a k xs h)))) h (omega arith)

-- and of `&mut xs[a..]`
pub sets_tail : (a : ℕ) (xs ys : List ℕ) (vs : List ℕ) → ys ≡ sets (mid_of a (length xs - a) xs) 0 vs → a + length vs ≤ length xs → put_mid a (length xs - a) xs ys ≡ sets xs a vs
sets_tail a xs ys vs e h = sets_lent a (length xs - a) xs ys vs e (omega arith) (omega arith)

-- ---- zeros

-- the first unused entries of a padded stretch are taken
pub pad_more : (m : ℕ) (xs ys : List ℕ) → sets (xs ++ replicate (length ys + m) 0) (length xs) ys ≡ (xs ++ ys) ++ replicate m 0
pad_more m xs ys =
    ap (λ (z : List ℕ). sets (xs ++ z) (length xs) ys) (sym (replicate-append-replicate (length ys) m 0))
    ∙ (sets_over xs (replicate (length ys) 0) (replicate m 0) ys (length xs) refl (length-replicate {A = ℕ} (length ys) 0)
    ∙ sym (append_assoc xs ys (replicate m 0)))
