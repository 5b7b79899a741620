-- Laws of `encode_all`, the bytes of nodes in the order of their places with anything behind them: a run of stores into one node, a node behind the last. Assumes nothing.
use Prim.Native.Nat.{ℕ, suc, ◌+◌, ◌*◌, ◌≤◌, ◌<◌}
use mathlib.Core.Path.{◌≡◌, sym, ap, ◌∙◌}
use mathlib.Core.List.{List, [], ◌∷◌, ◌++◌, append_assoc}
use native.Mathlib.Omega.{arith}
use native.Mathlib.Nat.{add-zero, suc-mul}
use lib.ListN.{length, get_or, set, take, drop, length-append, take-append-drop}
use lib.Seq.{sets, length-sets, length-take-le, split_at, set_split}
use Rattle.words.proofs.Stores.{sets_over, sets_in}
use Rattle.layout.specs.declared.Shape.{Shape}
use Rattle.layout.specs.declared.Child.{Child}
use Rattle.layout.specs.declared.Entry.{Entry}
use Rattle.layout.specs.Layout.{node_size, child_at, entry_at, header_bytes, child_bytes, entry_bytes, Node, spread, encode, encode_all}
use Rattle.layout.proofs.Parts.{length_header, length_child, length_entry, header_room, child_room, entry_room}
use Rattle.layout.proofs.Encoded.{spread_append, length_encode, head_rewritten, child_written, interval_written}

module _ (s : Shape) where
  pub length_all : (ns : List Node) → length (encode_all s ns) ≡ length ns * node_size s
  unfolding encode_all
  length_all [] = omega arith
  length_all (n ∷ ns) = length-append (encode s n) (spread (encode s) ns) ∙ omega (arith, length_encode s n, length_all ns, suc-mul (length ns) (node_size s))

  -- the bytes of nodes around the one at place i
  pub all_split : (A : List Node) (X : Node) (B : List Node) (rest : List ℕ) → encode_all s (A ++ X ∷ B) ++ rest ≡ encode_all s A ++ (encode s X ++ (encode_all s B ++ rest))
  unfolding encode_all
  all_split A X B rest =
      ap (λ (z : List ℕ). z ++ rest) (spread_append (encode s) A (X ∷ B))
      ∙ (append_assoc (spread (encode s) A) (encode s X ++ spread (encode s) B) rest ∙ ap (λ (z : List ℕ). spread (encode s) A ++ z) (append_assoc (encode s X) (spread (encode s) B) rest))

  pub all_around : (ns : List Node) (i : ℕ) (d : Node) (rest : List ℕ) → i < length ns → encode_all s ns ++ rest ≡ encode_all s (take i ns) ++ (encode s (get_or ns i d) ++ (encode_all s (drop (suc i) ns) ++ rest))
  all_around ns i d rest h = ap (λ (z : List Node). encode_all s z ++ rest) (split_at ns i d h) ∙ all_split (take i ns) (get_or ns i d) (drop (suc i) ns) rest

  pub length_before : (ns : List Node) (i : ℕ) → i < length ns → length (encode_all s (take i ns)) ≡ i * node_size s
  length_before ns i h = length_all (take i ns) ∙ ap (λ (z : ℕ). z * node_size s) (length-take-le i ns (omega arith))

  -- a run of stores within the node at place i makes Y of X
  pub all_set : (A : List Node) (X Y : Node) (B : List Node) (rest : List ℕ) (i off : ℕ) (vs : List ℕ) → length A ≡ i → off + length vs ≤ node_size s → sets (encode s X) off vs ≡ encode s Y
      → sets (encode_all s (A ++ X ∷ B) ++ rest) (i * node_size s + off) vs ≡ encode_all s (A ++ Y ∷ B) ++ rest
  all_set A X Y B rest i off vs a h e =
      let Q = encode_all s B ++ rest in
      ap (λ (z : List ℕ). sets z (i * node_size s + off) vs) (all_split A X B rest)
      ∙ (sets_in (encode_all s A) (encode s X) Q (i * node_size s) off vs (length_all A ∙ ap (λ (z : ℕ). z * node_size s) a) (omega (arith, h, length_encode s X))
      ∙ (ap (λ (z : List ℕ). encode_all s A ++ (z ++ Q)) e ∙ sym (all_split A Y B rest)))

  -- the same by the node's place
  pub all_at : (ns : List Node) (Y d : Node) (rest : List ℕ) (i off : ℕ) (vs : List ℕ) → i < length ns → off + length vs ≤ node_size s → sets (encode s (get_or ns i d)) off vs ≡ encode s Y
      → sets (encode_all s ns ++ rest) (i * node_size s + off) vs ≡ encode_all s (set ns i Y) ++ rest
  all_at ns Y d rest i off vs h k e =
      ap (λ (z : List Node). sets (encode_all s z ++ rest) (i * node_size s + off) vs) (split_at ns i d h)
      ∙ (all_set (take i ns) (get_or ns i d) Y (drop (suc i) ns) rest i off vs (length-take-le i ns (omega arith)) k e
      ∙ ap (λ (z : List Node). encode_all s z ++ rest) (sym (set_split ns i Y h)))

  -- one run of stores from the node's first byte on
  pub all_one : (A : List Node) (X Y : Node) (B : List Node) (rest : List ℕ) (i : ℕ) (vs : List ℕ) → length A ≡ i → length vs ≤ node_size s → sets (encode s X) 0 vs ≡ encode s Y
      → sets (encode_all s (A ++ X ∷ B) ++ rest) (i * node_size s) vs ≡ encode_all s (A ++ Y ∷ B) ++ rest
  all_one A X Y B rest i vs a h e = ap (λ (z : ℕ). sets (encode_all s (A ++ X ∷ B) ++ rest) z vs) (sym (add-zero (i * node_size s))) ∙ all_set A X Y B rest i 0 vs a (omega (arith, h)) e

  -- and a second run within it
  pub all_two : (A : List Node) (X Y : Node) (B : List Node) (rest : List ℕ) (i : ℕ) (vs : List ℕ) (off : ℕ) (ws : List ℕ) → length A ≡ i → length vs ≤ node_size s → off + length ws ≤ node_size s
      → sets (sets (encode s X) 0 vs) off ws ≡ encode s Y
      → sets (sets (encode_all s (A ++ X ∷ B) ++ rest) (i * node_size s) vs) (i * node_size s + off) ws ≡ encode_all s (A ++ Y ∷ B) ++ rest
  all_two A X Y B rest i vs off ws a h k e =
      let P = encode_all s A in let Q = encode_all s B ++ rest in
      let n : length P ≡ i * node_size s = length_all A ∙ ap (λ (z : ℕ). z * node_size s) a in
      ap (λ (z : List ℕ). sets (sets z (i * node_size s) vs) (i * node_size s + off) ws) (all_split A X B rest)
      ∙ (ap (λ (z : ℕ). sets (sets (P ++ (encode s X ++ Q)) z vs) (i * node_size s + off) ws) (sym (add-zero (i * node_size s)))
      ∙ (ap (λ (z : List ℕ). sets z (i * node_size s + off) ws) (sets_in P (encode s X) Q (i * node_size s) 0 vs n (omega (arith, h, length_encode s X)))
      ∙ (sets_in P (sets (encode s X) 0 vs) Q (i * node_size s) off ws n (omega (arith, k, length_encode s X, length-sets (encode s X) 0 vs))
      ∙ (ap (λ (z : List ℕ). P ++ (z ++ Q)) e ∙ sym (all_split A Y B rest)))))

  -- a whole node behind the last
  pub all_append : (ns : List Node) (Y : Node) (rest : List ℕ) (q : ℕ) → length ns ≡ q → node_size s ≤ length rest
      → sets (encode_all s ns ++ rest) (q * node_size s) (encode s Y) ≡ encode_all s (ns ++ Y ∷ []) ++ drop (node_size s) rest
  unfolding encode_all
  all_append ns Y rest q e h =
      ap (λ (z : List ℕ). sets (encode_all s ns ++ z) (q * node_size s) (encode s Y)) (sym (take-append-drop (node_size s) rest))
      ∙ (sets_over (encode_all s ns) (take (node_size s) rest) (drop (node_size s) rest) (encode s Y) (q * node_size s) (length_all ns ∙ ap (λ (z : ℕ). z * node_size s) e) (length-take-le (node_size s) rest h ∙ sym (length_encode s Y))
      ∙ sym (all_split ns Y [] (drop (node_size s) rest)))

  -- ---- node i made another by what document 01 lets be written: its header; its header and a child entry; its header and an interval entry

  module _ (A : List Node) (X Y : Node) (B : List Node) (rest : List ℕ) (i : ℕ) (a : length A ≡ i) where
    pub all_header : X.children ≡ Y.children → X.entries ≡ Y.entries
        → sets (encode_all s (A ++ X ∷ B) ++ rest) (i * node_size s) (header_bytes Y.header) ≡ encode_all s (A ++ Y ∷ B) ++ rest
    all_header c e = all_one A X Y B rest i (header_bytes Y.header) a (omega (arith, length_header Y.header, header_room s)) (head_rewritten s X Y c e)

    pub all_child : (c : Child) → length X.children < s.c → X.children ++ c ∷ [] ≡ Y.children → X.entries ≡ Y.entries
        → sets (sets (encode_all s (A ++ X ∷ B) ++ rest) (i * node_size s) (header_bytes Y.header)) (i * node_size s + child_at (length X.children)) (child_bytes c) ≡ encode_all s (A ++ Y ∷ B) ++ rest
    all_child c k p e =
        all_two A X Y B rest i (header_bytes Y.header) (child_at (length X.children)) (child_bytes c) a
        (omega (arith, length_header Y.header, header_room s)) (omega (arith, length_child c, child_room s (length X.children) k)) (child_written s X Y c k p e)

    pub all_entry : (x : Entry) → length X.entries < s.k → X.children ≡ Y.children → X.entries ++ x ∷ [] ≡ Y.entries
        → sets (sets (encode_all s (A ++ X ∷ B) ++ rest) (i * node_size s) (header_bytes Y.header)) (i * node_size s + entry_at s (length X.entries)) (entry_bytes x) ≡ encode_all s (A ++ Y ∷ B) ++ rest
    all_entry x k p e =
        all_two A X Y B rest i (header_bytes Y.header) (entry_at s (length X.entries)) (entry_bytes x) a
        (omega (arith, length_header Y.header, header_room s)) (omega (arith, length_entry x, entry_room s (length X.entries) k)) (interval_written s X Y x k p e)
