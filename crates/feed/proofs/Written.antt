-- A written record is read back. Assumes nothing.
use Prim.Native.Nat.{ℕ, ◌+◌, ◌^◌, ◌≤◌, ◌<◌}
use mathlib.Core.Path.{◌≡◌, refl, sym, ap, ◌∙◌}
use mathlib.Core.Bool.{true}
use mathlib.Core.List.{List, ◌++◌}
use native.Mathlib.Nat.{add-zero, add_assoc}
use native.Mathlib.Omega.{arith}
use lib.ListN.{length, get_or, length-append}
use lib.Seq.{get_or-append-add}
use borrow.Author.Tests.{lt-leb, le-ltb}
use mir.Syntax.{w64}
use mir.Val.{to_z, of_z}
use mir.Facts.{to_z-of_z, Fits-of_z}
use Rattle.std.specs.Prelude.{Ok}
use Rattle.words.specs.Words.{le, num}
use Rattle.words.proofs.Stores.{sets_all}
use Rattle.words.proofs.Numbers.{length_le, num_ext, num_put}
use Rattle.feed.specs.declared.Record.{Record}
use Rattle.feed.specs.declared.Record.TheVariants.{Open, Set, Remove, Increment, Add, Finish, Single, Full}
use Rattle.feed.specs.Feed.{longest, tag_known, length_allowed, tag_at, size_at, open_at, set_at, payload_at, whole_at, reading, reading_at, tag_of, payload_bytes, record_bytes, RecordFits}

-- ---- numbers behind other bytes

num_skip : (xs ys : List ℕ) (k n : ℕ) → num (xs ++ ys) (length xs + k) n ≡ num ys k n
num_skip xs ys k n = num_ext (xs ++ ys) ys (length xs + k) k n (λ i b. ap (λ (j : ℕ). get_or (xs ++ ys) j 0) (add_assoc (length xs) k i) ∙ get_or-append-add xs ys (k + i) 0)

payload_skip : (xs ys : List ℕ) (tag k : ℕ) → payload_at (xs ++ ys) tag (length xs + k) ≡ payload_at ys tag k
unfolding payload_at open_at set_at
payload_skip xs ys tag k = simp (add_assoc, num_skip)

-- a number's own bytes
num_le : (n v : ℕ) → v < 256 ^ n → num (le n v) 0 n ≡ v
num_le n v b =
    ap (λ (l : List ℕ). num l 0 n) (sym (sets_all (le n v) (le n v) refl))
    ∙ num_put (le n v) 0 n v (let e : length (le n v) ≡ n = length_le n v in omega arith) b

-- ---- a record's own bytes

record Back (r : Record) (ys : List ℕ) : Type 0 where
  tag : num (record_bytes r ++ ys) 0 1 ≡ tag_of r
  size : num (record_bytes r ++ ys) 1 2 ≡ length (payload_bytes r)
  known : tag_known (tag_of r) ≡ true
  allowed : length_allowed (tag_of r) (length (payload_bytes r)) ≡ true
  payload : payload_at (record_bytes r ++ ys) (tag_of r) 3 ≡ r
  long : length (record_bytes r) ≡ 3 + length (payload_bytes r)

back : (r : Record) (ys : List ℕ) → RecordFits r → Back r ys
unfolding RecordFits record_bytes payload_bytes tag_of tag_known length_allowed payload_at open_at set_at num le
back (Open start attributes k c n) ys f = record { tag = refl; size = refl; known = refl; allowed = refl; long = refl; payload = λ i. Open (num_le 8 start f.0 i) (num_le 4 attributes f.1 i) (num_le 2 k f.2 i) (num_le 2 c f.3 i) (num_le 4 n f.4 i) }
back (Set t q v) ys f = record { tag = refl; size = refl; known = refl; allowed = refl; long = refl; payload = λ i. Set (num_le 8 t f.0 i) (record { 0 = num_le 4 q.0 f.1 i }) ((ap (to_z w64) (num_le 8 (of_z w64 v) (Fits-of_z f.2).fits) ∙ to_z-of_z f.2) i) }
back (Remove t q) ys f = record { tag = refl; size = refl; known = refl; allowed = refl; long = refl; payload = λ i. Remove (num_le 8 t f.0 i) (record { 0 = num_le 4 q.0 f.1 i }) }
back (Increment t q) ys f = record { tag = refl; size = refl; known = refl; allowed = refl; long = refl; payload = λ i. Increment (num_le 8 t f.0 i) (record { 0 = num_le 4 q.0 f.1 i }) }
back Add ys f = record { tag = refl; size = refl; known = refl; allowed = refl; long = refl; payload = refl }
back (Finish t) ys f = record { tag = refl; size = refl; known = refl; allowed = refl; long = refl; payload = λ i. Finish (num_le 8 t f i) }
back (Single t q) ys f = record { tag = refl; size = refl; known = refl; allowed = refl; long = refl; payload = λ i. Single (num_le 8 t f.0 i) (record { 0 = num_le 4 q.0 f.1 i }) }
back (Full t) ys f = record { tag = refl; size = refl; known = refl; allowed = refl; long = refl; payload = λ i. Full (num_le 8 t f i) }

-- ---- a written record, with any bytes before and behind it

module _ (xs : List ℕ) (r : Record) (ys : List ℕ) (fits : RecordFits r) (short : length (xs ++ (record_bytes r ++ ys)) ≤ longest) where
  abbrev l : List ℕ
  l = xs ++ (record_bytes r ++ ys)

  abbrev m : ℕ
  m = length (payload_bytes r)

  pub read_back : reading_at (xs ++ (record_bytes r ++ ys)) (length xs) ≡ reading (Ok r) (length xs + length (record_bytes r))
  unfolding reading_at whole_at
  read_back =
      let b = back r ys fits in
      let long : length l ≡ length xs + (3 + m + length ys) = simp (length-append, b.long) in
      let in-feed : length xs < length l = omega arith in
      let tag : tag_at l (length xs) ≡ tag_of r = ap (λ (k : ℕ). num l k 1) (sym (add-zero (length xs))) ∙ num_skip xs (record_bytes r ++ ys) 0 1 ∙ b.tag in
      let size : size_at l (length xs) ≡ m = num_skip xs (record_bytes r ++ ys) 1 2 ∙ b.size in
      let inside : length xs + 3 + size_at l (length xs) ≤ length l = omega arith in
      let payload : payload_at l (tag_of r) (length xs + 3) ≡ r = payload_skip xs (record_bytes r ++ ys) (tag_of r) 3 ∙ b.payload in
      let next : length xs + 3 + m ≡ length xs + length (record_bytes r) = rw b.long (omega arith) in
      rw (lt-leb (length l) (length xs) in-feed, le-ltb longest (length l) short, le-ltb (length l) (length xs + 3 + size_at l (length xs)) inside, tag, size, b.known, b.allowed, payload, next)
