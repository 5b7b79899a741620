-- What the specification lets be written, over the bytes of the model's nodes: a header, a header and an entry, a new node behind the last. Assumes nothing.
use Prim.Native.Nat.{ℕ, zero, suc, ◌+◌, ◌*◌, ◌≤◌, ◌<◌}
use mathlib.Core.Path.{◌≡◌, refl, sym, ap, ◌∙◌}
use mathlib.Core.List.{List, [], ◌∷◌, ◌++◌, map, map-append}
use native.Mathlib.Omega.{arith}
use native.Mathlib.Nat.{suc-mul, mul-le-mul_right}
use lib.ListN.{length, get_or, set, take, drop, length-append, length-drop, length-map, get_or-map}
use lib.Seq.{sets, set_at, drop-drop, drop_at, take_at}
use Rattle.layout.specs.Layout as L
use Rattle.layout.specs.declared.Shape.{Shape}
use Rattle.layout.specs.declared.Header.{Header}
use Rattle.layout.specs.declared.Child.{Child}
use Rattle.layout.specs.Layout.{node_size, child_at, entry_at, header_bytes, child_bytes, entry_bytes, encode, encode_all}
use Rattle.layout.proofs.Encoded.{length_encode}
use Rattle.layout.proofs.Nodes.{length_all, all_around, length_before, all_append, all_header, all_child, all_entry}
use Rattle.model.specs.Transient.{Interval}
use Rattle.model.specs.Nodes.{Node, blank, seqs, upto}
use Rattle.model.proofs.Stood.{Stood}
use Rattle.represents.specs.Represents.{header_of, child_of, entry_of, node_of, bytes_of}

-- ---- node X, which stands at its number, made Y

module _ (s : Shape) (ns : List Node) (X Y : Node) (rest b : List ℕ) (at : ℕ) (h : Header) (st : Stood ns X) (is : b ≡ bytes_of s ns ++ rest) (place : at ≡ X.seq * node_size s) (head : h ≡ header_of Y) where
  abbrev before : List L.Node
  before = map node_of st.before

  abbrev after : List L.Node
  after = map node_of st.after

  number : length before ≡ X.seq
  number = length-map st.before node_of ∙ st.place

  here : b ≡ encode_all s (before ++ node_of X ∷ after) ++ rest
  here = is ∙ ap (λ (z : List L.Node). encode_all s z ++ rest) (ap (map node_of) st.here ∙ map-append node_of st.before (X ∷ st.after))

  there : encode_all s (before ++ node_of Y ∷ after) ++ rest ≡ bytes_of s (set ns X.seq Y) ++ rest
  there = ap (λ (z : List L.Node). encode_all s z ++ rest) (sym (
      ap (λ (z : List Node). map node_of (set z X.seq Y)) st.here
      ∙ ap (map node_of) (set_at st.before X st.after Y X.seq st.place)
      ∙ map-append node_of st.before (Y ∷ st.after)
      ))

  -- its header written again
  pub header_written : X.children ≡ Y.children → X.held ≡ Y.held → sets b at (header_bytes h) ≡ bytes_of s (set ns X.seq Y) ++ rest
  header_written c k =
      (λ i. sets (here i) (place i) (header_bytes (head i)))
      ∙ all_header s before (node_of X) (node_of Y) after rest X.seq number (ap (map child_of) c) (ap (map entry_of) k)
      ∙ there

  -- and a child entry behind the others
  pub child_written : (on k : ℕ) (z : Child) (c : ℕ × ℕ) → on ≡ X.seq * node_size s → k ≡ length X.children → z ≡ child_of c → length X.children < s.c
      → X.children ++ c ∷ [] ≡ Y.children → X.held ≡ Y.held
      → sets (sets b at (header_bytes h)) (on + child_at k) (child_bytes z) ≡ bytes_of s (set ns X.seq Y) ++ rest
  child_written on k z c p m y lt e x =
      let count : k ≡ length (map child_of X.children) = m ∙ sym (length-map X.children child_of) in
      (λ i. sets (sets (here i) (place i) (header_bytes (head i))) (p i + child_at (count i)) (child_bytes (y i)))
      ∙ all_child s before (node_of X) (node_of Y) after rest X.seq number (child_of c) (omega (arith, length-map X.children child_of))
      (sym (map-append child_of X.children (c ∷ [])) ∙ ap (map child_of) e) (ap (map entry_of) x)
      ∙ there

  -- and an interval entry behind the others
  pub entry_written : (on k : ℕ) (sh : Shape) (x : Interval) → on ≡ X.seq * node_size s → sh ≡ s → k ≡ length X.held → length X.held < s.k
      → X.children ≡ Y.children → X.held ++ x ∷ [] ≡ Y.held
      → sets (sets b at (header_bytes h)) (on + entry_at sh k) (entry_bytes (entry_of x)) ≡ bytes_of s (set ns X.seq Y) ++ rest
  entry_written on k sh x p r m lt c e =
      let count : k ≡ length (map entry_of X.held) = m ∙ sym (length-map X.held entry_of) in
      (λ i. sets (sets (here i) (place i) (header_bytes (head i))) (p i + entry_at (r i) (count i)) (entry_bytes (entry_of x)))
      ∙ all_entry s before (node_of X) (node_of Y) after rest X.seq number (entry_of x) (omega (arith, length-map X.held entry_of))
      (ap (map child_of) c) (sym (map-append entry_of X.held (x ∷ [])) ∙ ap (map entry_of) e)
      ∙ there

-- ---- as many nodes as numbers

length_seqs : (ns : List Node) → length (seqs ns) ≡ length ns
length_seqs [] = refl
length_seqs (n ∷ ns) = ap suc (length_seqs ns)

length_upto : (k : ℕ) → length (upto k) ≡ k
length_upto zero = refl
length_upto (suc k) = length-append (upto k) (k ∷ []) ∙ omega (arith, length_upto k)

pub many_nodes : (q : ℕ) (ns : List Node) → seqs ns ≡ upto q → length ns ≡ q
many_nodes q ns e = sym (length_seqs ns) ∙ (ap length e ∙ length_upto q)

pub length_bytes : (s : Shape) (q : ℕ) (ns : List Node) → length ns ≡ q → length (bytes_of s ns) ≡ q * node_size s
length_bytes s q ns e = length_all s (map node_of ns) ∙ ap (λ (z : ℕ). z * node_size s) (length-map ns node_of ∙ e)

-- ---- a new node behind the last, in the buffer b as it came

pub node_appended : (s : Shape) (q : ℕ) (b : List ℕ) (ns : List Node) (Y : Node) (c : List ℕ) (at : ℕ) (bs : List ℕ) → c ≡ bytes_of s ns ++ drop (q * node_size s) b → length ns ≡ q → q < s.n
    → s.n * node_size s ≤ length b → at ≡ q * node_size s → bs ≡ encode s (node_of Y) → sets c at bs ≡ bytes_of s (ns ++ Y ∷ []) ++ drop (suc q * node_size s) b
node_appended s q b ns Y c at bs e l lt room p g =
    let fits : node_size s ≤ length (drop (q * node_size s) b) = omega (arith, length-drop (q * node_size s) b, mul-le-mul_right (node_size s) lt, suc-mul q (node_size s)) in
    let next : q * node_size s + node_size s ≡ suc q * node_size s = sym (suc-mul q (node_size s)) in
    (λ i. sets (e i) (p i) (g i))
    ∙ all_append s (map node_of ns) (node_of Y) (drop (q * node_size s) b) q (length-map ns node_of ∙ l) fits
    ∙ ap (λ (z : List L.Node). encode_all s z ++ drop (node_size s) (drop (q * node_size s) b)) (sym (map-append node_of ns (Y ∷ [])))
    ∙ ap (λ (z : List ℕ). bytes_of s (ns ++ Y ∷ []) ++ z) (drop-drop (node_size s) (q * node_size s) b ∙ ap (λ (z : ℕ). drop z b) next)

-- ---- a node's stretch of the bytes

pub node_bytes : (s : Shape) (ns : List Node) (rest : List ℕ) (i : ℕ) → i < length ns
    → take (node_size s) (drop (i * node_size s) (bytes_of s ns ++ rest)) ≡ encode s (node_of (get_or ns i blank))
node_bytes s ns rest i lt =
    let ms = map node_of ns in
    let lt' : i < length ms = omega (arith, length-map ns node_of) in
    let X = get_or ms i (node_of blank) in
    let Q = encode_all s (drop (suc i) ms) ++ rest in
    ap (λ (z : List ℕ). take (node_size s) (drop (i * node_size s) z)) (all_around s ms i (node_of blank) rest lt')
    ∙ ap (take (node_size s)) (drop_at (encode_all s (take i ms)) (encode s X ++ Q) (i * node_size s) (length_before s ms i lt'))
    ∙ take_at (encode s X) Q (node_size s) (length_encode s X)
    ∙ ap (encode s) (get_or-map node_of ns i blank)
