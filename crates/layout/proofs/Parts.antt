-- A header's, a child entry's and an interval entry's bytes: how many they are, and the stores one after the other that write them. Assumes nothing.
use Prim.Native.Nat.{ℕ, suc, ◌+◌, ◌-◌, ◌*◌, ◌≤◌, ◌^◌, ◌<◌}
use mathlib.Core.Path.{◌≡◌, ap, ◌∙◌}
use mathlib.Core.List.{List, ◌++◌, append_assoc}
use native.Mathlib.Nat.{suc-mul, mul-le-mul_right}
use native.Mathlib.Omega.{arith}
use lib.ListN.{length, get_or, replicate, length-append}
use lib.Seq.{sets}
use mir.Syntax.{w64}
use mir.Val.{to_z, of_z}
use lib.IntN.{ℤ}
use Rattle.words.specs.Words.{le, num}
use Rattle.words.proofs.Stores.{sets_append}
use Rattle.words.proofs.Numbers.{length_le, le_join, le_wide}
use Rattle.layout.specs.declared.Shape.{Shape}
use Rattle.layout.specs.declared.Header.{Header}
use Rattle.layout.specs.declared.Child.{Child}
use Rattle.layout.specs.declared.Entry.{Entry}
use Rattle.layout.specs.Layout.{header_size, child_size, entry_size, node_size, child_at, entry_at, bounds, counts, header_bytes, child_bytes, entry_bytes, entry_name, read_header, read_child, read_entry}

-- ---- lengths

pub length_bounds : (h : Header) → length (bounds h) ≡ 24
unfolding bounds
length_bounds h = simp (length-append, length_le)

pub length_counts : (h : Header) → length (counts h) ≡ 8
unfolding counts
length_counts h = simp (length-append, length_le)

pub length_header : (h : Header) → length (header_bytes h) ≡ header_size
unfolding header_bytes
length_header h = simp (length-append, length_bounds, length_counts)

pub length_child : (c : Child) → length (child_bytes c) ≡ child_size
unfolding child_bytes
length_child c = simp (length-append, length_le)

pub length_entry : (e : Entry) → length (entry_bytes e) ≡ entry_size
unfolding entry_bytes
length_entry e = simp (length-append, length_le)

-- ---- the parts lie within a node

module _ (s : Shape) where
  pub header_room : header_size ≤ node_size s
  unfolding node_size
  header_room = omega arith

  pub child_room : (j : ℕ) → j < s.c → child_at j + child_size ≤ node_size s
  unfolding node_size child_at
  child_room j h = omega arith

  pub entry_room : (j : ℕ) → j < s.k → entry_at s j + entry_size ≤ node_size s
  unfolding node_size entry_at
  entry_room j h = omega arith

  -- node i of n lies in the bytes that the n take
  pub node_room : (i n m : ℕ) → i < n → n * node_size s ≤ m → i * node_size s + node_size s ≤ m
  node_room i n m h g =
      let e : suc i * node_size s ≡ i * node_size s + node_size s = suc-mul i (node_size s) in
      let p : suc i * node_size s ≤ n * node_size s = mul-le-mul_right (node_size s) h in
      omega arith

-- ---- the stores, each into the list that the one before it left

-- counts, level, state and two zero bytes are put as one number of eight bytes
pub counts_word_lem : (h : Header) → h.intervals < 2 ^ 16 → h.children < 2 ^ 16 → h.level < 2 ^ 8 → h.state < 2 ^ 8
    → le 8 (h.intervals + 65536 * h.children + 4294967296 * (h.level + 256 * h.state)) ≡ counts h
unfolding counts
counts_word_lem h i c v t =
    let w : le 3 h.state ≡ le 1 h.state ++ le 2 0 = le_wide 1 2 h.state t in
    let n : le 4 (h.intervals + 65536 * h.children) ≡ le 2 h.intervals ++ le 2 h.children = le_join 2 2 h.intervals h.children i in
    let m : le 4 (h.level + 256 * h.state) ≡ le 1 h.level ++ le 3 h.state = le_join 1 3 h.level h.state v in
    le_join 4 4 (h.intervals + 65536 * h.children) (h.level + 256 * h.state) (omega arith)
    ∙ rw (n, m, w, append_assoc)

pub header_put : (l l₁ l₂ l₃ l₄ : List ℕ) (h : Header) (v w : ℕ)
    → l₁ ≡ sets l 0 (le 8 h.start)
    → l₂ ≡ sets l₁ 8 (le 8 h.end)
    → le 8 v ≡ le 4 h.sequence.0 ++ le 4 h.parent.0
    → l₃ ≡ sets l₂ 16 (le 8 v)
    → le 8 w ≡ counts h
    → l₄ ≡ sets l₃ 24 (le 8 w)
    → l₄ ≡ sets l 0 (header_bytes h)
unfolding header_bytes bounds
header_put l l₁ l₂ l₃ l₄ h v w p₁ p₂ q₃ p₃ q₄ p₄ =
    let e : sets l 0 (header_bytes h) ≡ sets (sets (sets (sets l 0 (le 8 h.start)) 8 (le 8 h.end)) 16 (le 4 h.sequence.0 ++ le 4 h.parent.0)) 24 (counts h) = simp (sets_append, length-append, length_le) in
    cc e

-- a header and zeros behind it
pub empty_put : (l l₁ l₂ : List ℕ) (size : ℕ) (h : Header) → l₁ ≡ sets l 0 (header_bytes h) → l₂ ≡ sets l₁ header_size (replicate (size - header_size) 0) → l₂ ≡ sets l 0 (header_bytes h ++ replicate (size - header_size) 0)
empty_put l l₁ l₂ size h p₁ p₂ =
    let e : sets l 0 (header_bytes h ++ replicate (size - header_size) 0) ≡ sets (sets l 0 (header_bytes h)) header_size (replicate (size - header_size) 0) = simp (sets_append, length_header) in
    cc e

pub child_put : (l l₁ l₂ : List ℕ) (at : ℕ) (c : Child)
    → l₁ ≡ sets l at (le 4 c.sequence.0)
    → l₂ ≡ sets l₁ (at + 4) (le 8 c.start)
    → l₂ ≡ sets l at (child_bytes c)
unfolding child_bytes
child_put l l₁ l₂ at c p₁ p₂ =
    let e : sets l at (child_bytes c) ≡ sets (sets l at (le 4 c.sequence.0)) (at + 4) (le 8 c.start) = simp (sets_append, length_le) in
    cc e

-- quark, kind and three zero bytes are put as one number of eight bytes
pub entry_put : (l l₁ l₂ l₃ l₄ : List ℕ) (at n v : ℕ) (x : Entry)
    → x.quark.0 < 2 ^ 32
    → x.kind < 2 ^ 8
    → n ≡ entry_name x
    → l₁ ≡ sets l at (le 8 n)
    → l₂ ≡ sets l₁ (at + 8) (le 8 x.start)
    → l₃ ≡ sets l₂ (at + 16) (le 8 x.end)
    → v ≡ of_z w64 x.value
    → l₄ ≡ sets l₃ (at + 24) (le 8 v)
    → l₄ ≡ sets l at (entry_bytes x)
unfolding entry_bytes
entry_put l l₁ l₂ l₃ l₄ at n v x f g m p₁ p₂ p₃ q p₄ =
    let w : le 8 n ≡ le 4 x.quark.0 ++ (le 1 x.kind ++ le 3 0) =
    ap (le 8) m ∙ le_join 4 4 x.quark.0 x.kind f ∙ ap (λ (z : List ℕ). le 4 x.quark.0 ++ z) (le_wide 1 3 x.kind g)
    in
    let rest : List ℕ = le 8 x.start ++ (le 8 x.end ++ le 8 (of_z w64 x.value)) in
    let d : entry_bytes x ≡ le 8 n ++ rest = rw w (simp append_assoc) in
    let j : at + 8 + 8 ≡ at + 16 = omega arith in
    let k : at + 16 + 8 ≡ at + 24 = omega arith in
    let e : sets l at (le 8 n ++ rest) ≡ sets (sets (sets (sets l at (le 8 n)) (at + 8) (le 8 x.start)) (at + 16) (le 8 x.end)) (at + 24) (le 8 (of_z w64 x.value)) = simp (sets_append, length_le, j, k) in
    cc (e, d)

-- ---- a header and a child entry read

pub header_read : (l : List ℕ) (at a b q p n m v t : ℕ)
    → a ≡ num l at 8
    → b ≡ num l (at + 8) 8
    → q ≡ num l (at + 16) 4
    → p ≡ num l (at + 20) 4
    → n ≡ num l (at + 24) 2
    → m ≡ num l (at + 26) 2
    → v ≡ num l (at + 28) 1
    → t ≡ num l (at + 29) 1
    → record { start = a; end = b; sequence = record { 0 = q }; parent = record { 0 = p }; intervals = n; children = m; level = v; state = t } ≡ read_header l at
header_read l at a b q p n m v t p₁ p₂ p₃ p₄ p₅ p₆ p₇ p₈ = cc

pub child_read : (l : List ℕ) (at q a : ℕ) → q ≡ num l at 4 → a ≡ num l (at + 4) 8 → record { sequence = record { 0 = q }; start = a } ≡ read_child l at
child_read l at q a p₁ p₂ = cc

-- ---- an interval entry read, its value from the eight bytes of its bits

pub entry_read : (l : List ℕ) (at q k a b v : ℕ) (z y : ℤ)
    → q ≡ num l at 4
    → k ≡ num l (at + 4) 1
    → a ≡ num l (at + 8) 8
    → b ≡ num l (at + 16) 8
    → v ≡ num l (at + 24) 8
    → z ≡ to_z w64 v
    → y ≡ z
    → record { quark = record { 0 = q }; kind = k; start = a; end = b; value = y } ≡ read_entry l at
entry_read l at q k a b v z y p₁ p₂ p₃ p₄ p₅ p₆ p₇ = cc

-- its quark and kind are the number in its first five bytes
pub name_read : (l : List ℕ) (at n : ℕ) → n ≡ num l at 5 → n ≡ entry_name (read_entry l at)
unfolding num
name_read l at n p = let e : suc (suc (suc (suc at))) ≡ at + 4 = omega arith in omega (arith, p, ap (λ (k : ℕ). get_or l k 0) e)
