-- Reading from the bytes of nodes: the parts of node i are read at its place as the node has them. Assumes nothing.
use Prim.Native.Nat.{ℕ, suc, ◌+◌, ◌-◌, ◌*◌, ◌≤◌, ◌<◌}
use mathlib.Core.Path.{◌≡◌, ap, ◌∙◌}
use mathlib.Core.List.{List, ◌∷◌, ◌++◌, append_assoc}
use native.Mathlib.Omega.{arith}
use lib.ListN.{length, get_or, take, drop, replicate, length-append}
use lib.Seq.{length-take-le, split_at}
use Rattle.layout.specs.declared.Shape.{Shape}
use Rattle.layout.specs.declared.Child.{Child}
use Rattle.layout.specs.declared.Entry.{Entry}
use Rattle.layout.specs.Layout.{header_size, child_size, entry_size, node_size, child_at, entry_at, header_bytes, child_bytes, entry_bytes, read_header, read_child, read_entry, Node, spread, padded, body, encode, encode_all, HeaderFits, ChildFits, EntryFits}
use Rattle.layout.proofs.Parts.{length_header}
use Rattle.layout.proofs.Encoded.{spread_append, length_children, length_entries, pad_is, length_padded}
use Rattle.layout.proofs.Nodes.{all_around, length_before}
use Rattle.layout.proofs.Back.{header_between, child_between, entry_between}

-- the j-th of entries one after the other, with what is before and behind it
spread_around : {A : Type 0} (f : A → List ℕ) (xs : List A) (j : ℕ) (d : A) → j < length xs → spread f xs ≡ spread f (take j xs) ++ (f (get_or xs j d) ++ spread f (drop (suc j) xs))
spread_around f xs j d h = ap (spread f) (split_at xs j d h) ∙ spread_append f (take j xs) (get_or xs j d ∷ drop (suc j) xs)

-- ---- one node, between any bytes

module _ (s : Shape) (n : Node) (P Q : List ℕ) (p : ℕ) (at : length P ≡ p) where
  pub node_header : HeaderFits n.header → read_header (P ++ (encode s n ++ Q)) p ≡ n.header
  unfolding encode
  node_header f =
      ap (λ (z : List ℕ). read_header (P ++ z) p) (append_assoc (header_bytes n.header) (body s n.children n.entries) Q)
      ∙ header_between P (body s n.children n.entries ++ Q) p at n.header f

  pub node_child : (j : ℕ) (d : Child) → j < length n.children → length n.children ≤ s.c → ChildFits (get_or n.children j d)
      → read_child (P ++ (encode s n ++ Q)) (p + child_at j) ≡ get_or n.children j d
  unfolding encode body child_at
  node_child j d h k f =
      let cs = n.children in
      let H = header_bytes n.header in
      let X = spread child_bytes (take j cs) in
      let C = child_bytes (get_or cs j d) in
      let Y = spread child_bytes (drop (suc j) cs) in
      let Z : List ℕ = replicate (child_size * s.c - length (spread child_bytes cs)) 0 in
      let E = padded (entry_size * s.k) (spread entry_bytes n.entries) in
      let e : padded (child_size * s.c) (spread child_bytes cs) ≡ (X ++ (C ++ Y)) ++ Z =
      pad_is (child_size * s.c) (spread child_bytes cs) (omega (arith, length_children cs)) ∙ ap (λ (z : List ℕ). z ++ Z) (spread_around child_bytes cs j d h)
      in
      let g : P ++ ((H ++ (((X ++ (C ++ Y)) ++ Z) ++ E)) ++ Q) ≡ (P ++ (H ++ X)) ++ (C ++ (Y ++ (Z ++ (E ++ Q)))) = simp append_assoc in
      let m : length (P ++ (H ++ X)) ≡ p + (header_size + child_size * j) =
      omega (arith, at, length-append P (H ++ X), length-append H X, length_header n.header, length_children (take j cs), length-take-le j cs (omega arith))
      in
      ap (λ (z : List ℕ). read_child (P ++ ((H ++ (z ++ E)) ++ Q)) (p + (header_size + child_size * j))) e
      ∙ ap (λ (z : List ℕ). read_child z (p + (header_size + child_size * j))) g
      ∙ child_between (P ++ (H ++ X)) (Y ++ (Z ++ (E ++ Q))) (p + (header_size + child_size * j)) m (get_or cs j d) f

  pub node_entry : (j : ℕ) (d : Entry) → j < length n.entries → length n.entries ≤ s.k → EntryFits (get_or n.entries j d)
      → read_entry (P ++ (encode s n ++ Q)) (p + entry_at s j) ≡ get_or n.entries j d
  unfolding encode body entry_at
  node_entry j d h k f =
      let xs = n.entries in
      let H = header_bytes n.header in
      let M = padded (child_size * s.c) (spread child_bytes n.children) in
      let X = spread entry_bytes (take j xs) in
      let E = entry_bytes (get_or xs j d) in
      let Y = spread entry_bytes (drop (suc j) xs) in
      let Z : List ℕ = replicate (entry_size * s.k - length (spread entry_bytes xs)) 0 in
      let e : padded (entry_size * s.k) (spread entry_bytes xs) ≡ (X ++ (E ++ Y)) ++ Z =
      pad_is (entry_size * s.k) (spread entry_bytes xs) (omega (arith, length_entries xs)) ∙ ap (λ (z : List ℕ). z ++ Z) (spread_around entry_bytes xs j d h)
      in
      let g : P ++ ((H ++ (M ++ ((X ++ (E ++ Y)) ++ Z))) ++ Q) ≡ (P ++ (H ++ (M ++ X))) ++ (E ++ (Y ++ (Z ++ Q))) = simp append_assoc in
      let m : length (P ++ (H ++ (M ++ X))) ≡ p + (header_size + child_size * s.c + entry_size * j) =
      omega (arith, at, length-append P (H ++ (M ++ X)), length-append H (M ++ X), length-append M X, length_header n.header, length_padded (child_size * s.c) (spread child_bytes n.children), length_entries (take j xs), length-take-le j xs (omega arith))
      in
      ap (λ (z : List ℕ). read_entry (P ++ ((H ++ (M ++ z)) ++ Q)) (p + (header_size + child_size * s.c + entry_size * j))) e
      ∙ ap (λ (z : List ℕ). read_entry z (p + (header_size + child_size * s.c + entry_size * j))) g
      ∙ entry_between (P ++ (H ++ (M ++ X))) (Y ++ (Z ++ Q)) (p + (header_size + child_size * s.c + entry_size * j)) m (get_or xs j d) f

-- ---- node i of all of them, with anything behind them

module _ (s : Shape) (ns : List Node) (rest bytes : List ℕ) (is : bytes ≡ encode_all s ns ++ rest) (i : ℕ) (d : Node) (h : i < length ns) where
  around : bytes ≡ encode_all s (take i ns) ++ (encode s (get_or ns i d) ++ (encode_all s (drop (suc i) ns) ++ rest))
  around = is ∙ all_around s ns i d rest h

  pub read_header_lem : HeaderFits (get_or ns i d).header → read_header bytes (i * node_size s) ≡ (get_or ns i d).header
  read_header_lem f =
      ap (λ (z : List ℕ). read_header z (i * node_size s)) around
      ∙ node_header s (get_or ns i d) (encode_all s (take i ns)) (encode_all s (drop (suc i) ns) ++ rest) (i * node_size s) (length_before s ns i h) f

  pub read_child_lem : (j : ℕ) (c : Child) → j < length (get_or ns i d).children → length (get_or ns i d).children ≤ s.c → ChildFits (get_or (get_or ns i d).children j c)
      → read_child bytes (i * node_size s + child_at j) ≡ get_or (get_or ns i d).children j c
  read_child_lem j c g k f =
      ap (λ (z : List ℕ). read_child z (i * node_size s + child_at j)) around
      ∙ node_child s (get_or ns i d) (encode_all s (take i ns)) (encode_all s (drop (suc i) ns) ++ rest) (i * node_size s) (length_before s ns i h) j c g k f

  pub read_entry_lem : (j : ℕ) (x : Entry) → j < length (get_or ns i d).entries → length (get_or ns i d).entries ≤ s.k → EntryFits (get_or (get_or ns i d).entries j x)
      → read_entry bytes (i * node_size s + entry_at s j) ≡ get_or (get_or ns i d).entries j x
  read_entry_lem j x g k f =
      ap (λ (z : List ℕ). read_entry z (i * node_size s + entry_at s j)) around
      ∙ node_entry s (get_or ns i d) (encode_all s (take i ns)) (encode_all s (drop (suc i) ns) ++ rest) (i * node_size s) (length_before s ns i h) j x g k f
