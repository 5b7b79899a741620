-- Laws of `le` and `num`, a number's bytes and the number in bytes: the loops that write and read, the round trip, what a store elsewhere leaves. Assumes nothing.
use Prim.Native.Nat.{ℕ, zero, suc, ◌+◌, ◌-◌, ◌*◌, ◌/◌, ◌%◌, ◌^◌, ◌<◌, ◌≤◌}
use mathlib.Core.Path.{◌≡◌, refl, sym, ap, subst, ◌∙◌}
use mathlib.Core.List.{List, [], ◌∷◌, ◌++◌}
use native.Mathlib.Nat.{add-zero, add-suc, suc-add, zero-add, mul_comm, mul_assoc, div-add-mod', div-lt_iff_lt-mul, pow-suc}
use lib.Dec.{lit<}
use native.Mathlib.Numerals.{add-one}
use native.Mathlib.Omega.{arith}
use lib.ListN.{length, get_or, set, take, drop, replicate, length-set, get_or-append}
use borrow.Rule.Slice.PartMut.{mid_of}
use lib.Seq.{sets, length-sets, get_or-set_same, get_or-take, get_or-drop, get_or-append-add, drop-cons}
use Rattle.std.specs.Int.{w64, from_le_bytes}
use Rattle.words.specs.Words.{le, num}
use Rattle.words.proofs.Stores.{length_mid, sets_all, sets_append, get_or_sets_below, get_or_sets_above}

pub length_le : (n v : ℕ) → length (le n v) ≡ n
unfolding le
length_le zero v = refl
length_le (suc n) v = ap suc (length_le n (v / 256))

-- the bytes of two numbers, one behind the other, are the bytes of one
pub le_join : (n m a b : ℕ) → a < 256 ^ n → le (n + m) (a + 256 ^ n * b) ≡ le n a ++ le m b
unfolding le
le_join zero m a b h =
    let e : a + 256 ^ zero * b ≡ b = omega (arith, h) in
    ap (λ (k : ℕ). le k (a + 256 ^ zero * b)) (zero-add m) ∙ ap (λ (k : ℕ). le m k) e
le_join (suc n) m a b h =
    let v : ℕ = a + 256 ^ suc n * b in
    let high : ℕ = 256 ^ n * b in
    let e : 256 ^ suc n * b ≡ 256 * high = ap (λ (k : ℕ). k * b) (pow-suc 256 n ∙ mul_comm (256 ^ n) 256) ∙ mul_assoc 256 (256 ^ n) b in
    let r : v % 256 ≡ a % 256 = omega arith in
    let q : v / 256 ≡ a / 256 + high = omega arith in
    let small : a / 256 < 256 ^ n = (div-lt_iff_lt-mul {k = 256} (omega arith)).1 (subst (λ (p : ℕ). a < p) (pow-suc 256 n) h) in
    ap (λ (k : ℕ). le k v) (suc-add n m)
    ∙ ap (λ (k : ℕ). k ∷ le (n + m) (v / 256)) r
    ∙ ap (λ (k : ℕ). a % 256 ∷ le (n + m) k) q
    ∙ ap (λ (l : List ℕ). a % 256 ∷ l) (le_join n m (a / 256) b small)

-- a number put in more bytes than it needs has zeros behind it
pub le_wide : (n m v : ℕ) → v < 256 ^ n → le (n + m) v ≡ le n v ++ le m 0
le_wide n m v b = ap (λ (k : ℕ). le (n + m) k) (omega arith) ∙ le_join n m v 0 b

-- the loop that writes n bytes has written nothing
pub put_none : (l : List ℕ) (n v : ℕ) → length l ≡ n → sets l 0 (le (n - 0) v) ≡ le n v
put_none l n v e = ap (λ (k : ℕ). sets l 0 (le k v)) (omega arith) ∙ sets_all l (le n v) (length_le n v ∙ sym e)

-- a turn of it: one store, and what is left to write
pub put_step : (l : List ℕ) (i n v : ℕ) → i < n → sets l i (le (n - i) v) ≡ sets (set l i (v % 256)) (i + 1) (le (n - (i + 1)) (v / 256))
unfolding le
put_step l i n v h =
    let e : n - i ≡ suc (n - (i + 1)) = omega arith in
    ap (λ (k : ℕ). sets l i (le k v)) e ∙ ap (λ (k : ℕ). sets (set l i (v % 256)) k (le (n - (i + 1)) (v / 256))) (sym (add-one i))

-- it has nothing left
pub put_done : (l : List ℕ) (i n v : ℕ) → n ≤ i → sets l i (le (n - i) v) ≡ l
unfolding le
put_done l i n v h = let e : n - i ≡ 0 = omega arith in ap (λ (k : ℕ). sets l i (le k v)) e

-- the same bytes make the same number
pub num_ext : (l m : List ℕ) (i j n : ℕ) → ((k : ℕ) → k < n → get_or l (i + k) 0 ≡ get_or m (j + k) 0) → num l i n ≡ num m j n
unfolding num
num_ext l m i j zero h = refl
num_ext l m i j (suc n) h =
    let e : get_or l i 0 ≡ get_or m j 0 = ap (λ (k : ℕ). get_or l k 0) (sym (add-zero i)) ∙ h 0 (omega arith) ∙ ap (λ (k : ℕ). get_or m k 0) (add-zero j) in
    let r : num l (suc i) n ≡ num m (suc j) n =
    num_ext l m (suc i) (suc j) n
    (λ k b. ap (λ (t : ℕ). get_or l t 0) (suc-add i k ∙ sym (add-suc i k)) ∙ h (suc k) (omega arith) ∙ ap (λ (t : ℕ). get_or m t 0) (add-suc j k ∙ sym (suc-add j k)))
    in
    omega arith

-- a run of stores elsewhere leaves a number as it was
pub num_sets_above : (l : List ℕ) (i : ℕ) (vs : List ℕ) (at n : ℕ) → i + length vs ≤ at → num (sets l i vs) at n ≡ num l at n
num_sets_above l i vs at n h = num_ext (sets l i vs) l at at n (λ k b. get_or_sets_above l i vs (at + k) 0 (omega arith))

pub num_sets_below : (l : List ℕ) (i : ℕ) (vs : List ℕ) (at n : ℕ) → at + n ≤ i → num (sets l i vs) at n ≡ num l at n
num_sets_below l i vs at n h = num_ext (sets l i vs) l at at n (λ k b. get_or_sets_below l i vs (at + k) 0 (omega arith))

-- what was written is read back
pub num_put : (l : List ℕ) (at n v : ℕ) → at + n ≤ length l → v < 256 ^ n → num (sets l at (le n v)) at n ≡ v
unfolding le num
num_put l at zero v h b = omega (arith, b)
num_put l at (suc n) v h b =
    let small : v / 256 < 256 ^ n = (div-lt_iff_lt-mul {k = 256} (omega arith)).1 (subst (λ (p : ℕ). v < p) (pow-suc 256 n) b) in
    let rest : num (sets (set l at (v % 256)) (suc at) (le n (v / 256))) (suc at) n ≡ v / 256 =
    num_put (set l at (v % 256)) (suc at) n (v / 256) (rw length-set (omega (arith, add-suc at n))) small
    in
    let first : get_or (sets (set l at (v % 256)) (suc at) (le n (v / 256))) at 0 ≡ v % 256 =
    get_or_sets_below (set l at (v % 256)) (suc at) (le n (v / 256)) at 0 (omega arith)
    ∙ get_or-set_same l at (v % 256) 0 (omega (arith, add-suc at n))
    in
    omega (arith, div-add-mod' v 256)

-- a number stored between xs and ys is read back
pub num_field : (l : List ℕ) (at : ℕ) (xs : List ℕ) (n v : ℕ) (ys : List ℕ) → at + length xs + n ≤ length l → v < 256 ^ n → num (sets l at (xs ++ (le n v ++ ys))) (at + length xs) n ≡ v
num_field l at xs n v ys h b =
    ap (λ (m : List ℕ). num m (at + length xs) n)
    (sets_append l at xs (le n v ++ ys) ∙ sets_append (sets l at xs) (at + length xs) (le n v) ys)
    ∙ num_sets_below (sets (sets l at xs) (at + length xs) (le n v)) (at + length xs + length (le n v)) ys (at + length xs) n (rw length_le (omega arith))
    ∙ num_put (sets l at xs) (at + length xs) n v (rw length-sets h) b

-- and a byte
pub get_or_field : (l : List ℕ) (at : ℕ) (xs : List ℕ) (x : ℕ) (ys : List ℕ) → at + length xs < length l → get_or (sets l at (xs ++ (x ∷ ys))) (at + length xs) 0 ≡ x
get_or_field l at xs x ys h =
    ap (λ (m : List ℕ). get_or m (at + length xs) 0) (sets_append l at xs (x ∷ ys))
    ∙ get_or_sets_below (set (sets l at xs) (at + length xs) x) (suc (at + length xs)) ys (at + length xs) 0 (omega arith)
    ∙ get_or-set_same (sets l at xs) (at + length xs) x 0 (rw length-sets h)

-- ---- reading a list that is a part of another, or is made of parts

-- behind the first a bytes
pub num_drop : (a : ℕ) (l : List ℕ) (at n : ℕ) → num (drop a l) at n ≡ num l (a + at) n
num_drop a l at n = num_ext (drop a l) l at (a + at) n (λ k b. get_or-drop a l (at + k) 0 ∙ ap (λ (j : ℕ). get_or l j 0) (omega arith))

-- within the first a bytes
pub num_take : (a : ℕ) (l : List ℕ) (at n : ℕ) → at + n ≤ a → num (take a l) at n ≡ num l at n
num_take a l at n h = num_ext (take a l) l at at n (λ k b. get_or-take a l (at + k) 0 (omega arith))

-- within k bytes that were lent from a on
pub num_part : (a k : ℕ) (l : List ℕ) (at n : ℕ) → at + n ≤ k → num (mid_of a k l) at n ≡ num l (a + at) n
num_part a k l at n h = num_take k (drop a l) at n h ∙ num_drop a l at n

-- within the first of two parts
pub num_left : (xs ys : List ℕ) (at n : ℕ) → at + n ≤ length xs → num (xs ++ ys) at n ≡ num xs at n
num_left xs ys at n h = num_ext (xs ++ ys) xs at at n (λ k b. get_or-append xs ys 0 (at + k) (omega arith))

-- within the second
pub num_right : (xs ys : List ℕ) (at n : ℕ) → num (xs ++ ys) (length xs + at) n ≡ num ys at n
num_right xs ys at n = num_ext (xs ++ ys) ys (length xs + at) at n (λ k b. ap (λ (j : ℕ). get_or (xs ++ ys) j 0) (omega arith) ∙ get_or-append-add xs ys (at + k) 0)

-- a number's bytes, whatever stands behind them
pub num_le : (n v : ℕ) (ys : List ℕ) → v < 256 ^ n → num (le n v ++ ys) 0 n ≡ v
unfolding le num
num_le zero v ys b = omega (arith, b)
num_le (suc n) v ys b =
    let small : v / 256 < 256 ^ n = (div-lt_iff_lt-mul {k = 256} (omega arith)).1 (subst (λ (p : ℕ). v < p) (pow-suc 256 n) b) in
    let rest : num (le (suc n) v ++ ys) 1 n ≡ v / 256 = num_right (v % 256 ∷ []) (le n (v / 256) ++ ys) 0 n ∙ num_le n (v / 256) ys small in
    omega (arith, rest, div-add-mod' v 256)

-- a number whose bytes stand between xs and ys
pub num_between : (xs : List ℕ) (n v : ℕ) (ys : List ℕ) (p : ℕ) → length xs ≡ p → v < 256 ^ n → num (xs ++ (le n v ++ ys)) p n ≡ v
num_between xs n v ys p e b =
    ap (λ (k : ℕ). num (xs ++ (le n v ++ ys)) k n) (sym e ∙ sym (add-zero (length xs)))
    ∙ num_right xs (le n v ++ ys) 0 n
    ∙ num_le n v ys b

-- ---- std's number in eight bytes

pub from_le_bytes_num : (l : List ℕ) → from_le_bytes w64 l ≡ num l 0 8
unfolding num
from_le_bytes_num l = omega arith

-- zeros are 0
num_zero : (l : List ℕ) (at n : ℕ) → ((k : ℕ) → at ≤ k → get_or l k 0 ≡ 0) → num l at n ≡ 0
unfolding num
num_zero l at zero h = refl
num_zero l at (suc n) h = omega (arith, h at (omega arith), num_zero l (suc at) n (λ k b. h k (omega arith)))

-- zeros behind n bytes add nothing
num_narrow : (l : List ℕ) (at n m : ℕ) → ((k : ℕ) → at + n ≤ k → get_or l k 0 ≡ 0) → num l at (n + m) ≡ num l at n
unfolding num
num_narrow l at zero m h = num_zero l at (zero + m) (λ k b. h k (omega arith))
num_narrow l at (suc n) m h =
    let r : num l (suc at) (n + m) ≡ num l (suc at) n = num_narrow l (suc at) n m (λ k b. h k (omega (arith, add-suc at n))) in
    ap (λ (k : ℕ). num l at k) (suc-add n m) ∙ ap (λ (x : ℕ). get_or l at 0 + 256 * x) r

get_or_zeros : (n k : ℕ) → get_or (replicate {A = ℕ} n 0) k 0 ≡ 0
get_or_zeros zero k = refl
get_or_zeros (suc n) zero = refl
get_or_zeros (suc n) (suc k) = get_or_zeros n k

-- n bytes copied over the first of eight zeros
num_padded : (xs : List ℕ) (n : ℕ) → length xs ≡ n → n ≤ 8 → from_le_bytes w64 (xs ++ drop n (replicate 8 0)) ≡ num xs 0 n
num_padded xs n long h =
    let zs : List ℕ = drop n (replicate 8 0) in
    let behind : (j : ℕ) → 0 + n ≤ j → get_or (xs ++ zs) j 0 ≡ 0 =
    λ j b. ap (λ (i : ℕ). get_or (xs ++ zs) i 0) (omega arith) ∙ get_or-append-add xs zs (j - n) 0 ∙ get_or-drop n (replicate 8 0) (j - n) 0 ∙ get_or_zeros 8 (n + (j - n))
    in
    from_le_bytes_num (xs ++ zs) ∙ ap (λ (i : ℕ). num (xs ++ zs) 0 i) (omega arith) ∙ num_narrow (xs ++ zs) 0 n (8 - n) behind ∙ num_left xs zs 0 n (omega arith)

-- and copied from index at of l
pub num_copied : (l xs : List ℕ) (at n : ℕ) → at + n ≤ length l → n ≤ 8 → xs ≡ mid_of at (at + n - at) l → from_le_bytes w64 (xs ++ drop n (replicate 8 0)) ≡ num l at n
num_copied l xs at n h b e =
    num_padded xs n (ap length e ∙ length_mid at (at + n - at) l (omega arith) ∙ omega arith) b
    ∙ ap (λ (z : List ℕ). num z 0 n) e
    ∙ num_part at (at + n - at) l 0 n (omega arith)
    ∙ ap (λ (i : ℕ). num l i n) (add-zero at)

-- ---- the other round trip, of bytes below 256

module _ (l : List ℕ) (bytes : (k : ℕ) → k < length l → get_or l k 0 < 256) where
  -- what was read is below 256 to the number of its bytes
  pub num_below : (at n : ℕ) → at + n ≤ length l → num l at n < 256 ^ n
  unfolding num
  num_below at zero h = lit< tt
  num_below at (suc n) h =
      let b : get_or l at 0 < 256 = bytes at (omega (arith, add-suc at n)) in
      let r : num l (suc at) n < 256 ^ n = num_below (suc at) n (omega (arith, add-suc at n)) in
      rw pow-suc (omega arith)

  -- what was read is written as the bytes that it was read from
  pub le_num : (at n : ℕ) → at + n ≤ length l → le n (num l at n) ≡ take n (drop at l)
  unfolding le num
  le_num at zero h = refl
  le_num at (suc n) h =
      let b : get_or l at 0 < 256 = bytes at (omega (arith, add-suc at n)) in
      let r : ℕ = num l (suc at) n in
      let m : (get_or l at 0 + 256 * r) % 256 ≡ get_or l at 0 = omega arith in
      let q : (get_or l at 0 + 256 * r) / 256 ≡ r = omega arith in
      ap (λ (k : ℕ). (get_or l at 0 + 256 * r) % 256 ∷ le n k) q
      ∙ ap (λ (k : ℕ). k ∷ le n r) m
      ∙ ap (λ (z : List ℕ). get_or l at 0 ∷ z) (le_num (suc at) n (omega (arith, add-suc at n)))
      ∙ ap (λ (z : List ℕ). take (suc n) z) (sym (drop-cons l at 0 (omega (arith, add-suc at n))))
