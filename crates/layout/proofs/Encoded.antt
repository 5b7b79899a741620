-- Laws of `encode`: lengths, and what a change of a node is as a run of stores. Assumes nothing.
use Prim.Native.Nat.{ℕ, ◌+◌, ◌-◌, ◌*◌, ◌≤◌, ◌<◌}
use mathlib.Core.Path.{◌≡◌, refl, sym, ap, ◌∙◌}
use mathlib.Core.List.{List, [], ◌∷◌, ◌++◌, append_assoc, append-nil}
use native.Mathlib.Omega.{arith}
use native.Mathlib.Nat.{sub-zero, mul-suc}
use lib.ListN.{length, take, replicate, length-append, length-replicate, replicate-append-replicate}
use lib.Seq.{sets, take_at, length-take-le}
use Rattle.std.specs.Prelude.{Option, Some, None}
use Rattle.words.proofs.Stores.{sets_front, sets_in, sets_after, pad_more, sets_within}
use Rattle.layout.specs.declared.Shape.{Shape}
use Rattle.layout.specs.declared.Header.{Header}
use Rattle.layout.specs.declared.Child.{Child}
use Rattle.layout.specs.declared.Entry.{Entry}
use Rattle.layout.specs.Layout.{header_size, child_size, entry_size, node_size, child_at, entry_at, header_bytes, child_bytes, entry_bytes, Node, spread, padded, body, encode, new_node, with_header, with_child, with_entry}
use Rattle.layout.proofs.Parts.{length_header, length_child, length_entry}

-- ---- entries one after the other

module _ {A : Type 0} (f : A → List ℕ) where
  pub length_spread : (n : ℕ) → ((x : A) → length (f x) ≡ n) → (xs : List A) → length (spread f xs) ≡ n * length xs
  length_spread n e [] = omega arith
  length_spread n e (x ∷ xs) = length-append (f x) (spread f xs) ∙ omega (arith, e x, length_spread n e xs, mul-suc n (length xs))

  pub spread_append : (xs ys : List A) → spread f (xs ++ ys) ≡ spread f xs ++ spread f ys
  spread_append [] ys = refl
  spread_append (x ∷ xs) ys = ap (λ (z : List ℕ). f x ++ z) (spread_append xs ys) ∙ sym (append_assoc (f x) (spread f xs) (spread f ys))

  pub spread_snoc : (xs : List A) (y : A) → spread f (xs ++ y ∷ []) ≡ spread f xs ++ f y
  spread_snoc xs y = spread_append xs (y ∷ []) ∙ ap (λ (z : List ℕ). spread f xs ++ z) (append-nil (f y))

pub length_children : (cs : List Child) → length (spread child_bytes cs) ≡ child_size * length cs
length_children cs = length_spread child_bytes child_size length_child cs

pub length_entries : (xs : List Entry) → length (spread entry_bytes xs) ≡ entry_size * length xs
length_entries xs = length_spread entry_bytes entry_size length_entry xs

-- ---- a padded stretch

pub pad_is : (n : ℕ) (xs : List ℕ) → length xs ≤ n → padded n xs ≡ xs ++ replicate (n - length xs) 0
unfolding padded
pad_is n xs h =
    let e : n ≡ (n - length xs) + length xs = omega arith in
    let R = replicate {A = ℕ} (n - length xs) 0 in
    let c : replicate {A = ℕ} n 0 ≡ R ++ replicate (length xs) 0 = ap (λ (k : ℕ). replicate {A = ℕ} k 0) e ∙ sym (replicate-append-replicate (n - length xs) (length xs) 0) in
    ap (λ (z : List ℕ). take n (xs ++ z)) c
    ∙ (ap (λ (z : List ℕ). take n z) (sym (append_assoc xs R (replicate (length xs) 0)))
    ∙ take_at (xs ++ R) (replicate (length xs) 0) n (length-append xs R ∙ omega (arith, length-replicate {A = ℕ} (n - length xs) 0)))

pub length_padded : (n : ℕ) (xs : List ℕ) → length (padded n xs) ≡ n
unfolding padded
length_padded n xs = length-take-le n (xs ++ replicate n 0) (omega (arith, length-append xs (replicate n 0), length-replicate {A = ℕ} n 0))

pad_snoc : (n : ℕ) (xs ys : List ℕ) → length xs + length ys ≤ n → sets (padded n xs) (length xs) ys ≡ padded n (xs ++ ys)
pad_snoc n xs ys h =
    let k : n - length xs ≡ length ys + (n - length (xs ++ ys)) = omega (arith, length-append xs ys) in
    ap (λ (z : List ℕ). sets z (length xs) ys) (pad_is n xs (omega arith) ∙ ap (λ (m : ℕ). xs ++ replicate m 0) k)
    ∙ (pad_more (n - length (xs ++ ys)) xs ys ∙ sym (pad_is n (xs ++ ys) (omega (arith, length-append xs ys))))

pad_none : (n : ℕ) → padded n [] ≡ replicate n 0
pad_none n = pad_is n [] (omega arith) ∙ ap (λ (k : ℕ). replicate {A = ℕ} k 0) (sub-zero n)

module _ (s : Shape) where
  pub length_body : (cs : List Child) (xs : List Entry) → length (body s cs xs) ≡ child_size * s.c + entry_size * s.k
  unfolding body
  length_body cs xs =
      length-append (padded (child_size * s.c) (spread child_bytes cs)) (padded (entry_size * s.k) (spread entry_bytes xs))
      ∙ omega (arith, length_padded (child_size * s.c) (spread child_bytes cs), length_padded (entry_size * s.k) (spread entry_bytes xs))

  pub length_encode : (n : Node) → length (encode s n) ≡ node_size s
  unfolding encode node_size
  length_encode n = length-append (header_bytes n.header) (body s n.children n.entries) ∙ omega (arith, length_header n.header, length_body n.children n.entries)

  -- ---- one node: one part written

  -- a header written again
  pub header_again : (n : Node) (h : Header) → sets (encode s n) 0 (header_bytes h) ≡ encode s (with_header n h)
  unfolding encode
  header_again n h = sets_front (header_bytes n.header) (body s n.children n.entries) (header_bytes h) (length_header n.header ∙ sym (length_header h))

  -- a child entry behind the others
  pub child_added : (n : Node) (c : Child) → length n.children < s.c → sets (encode s n) (child_at (length n.children)) (child_bytes c) ≡ encode s (with_child n c)
  unfolding encode body child_at
  child_added n c k =
      let H = header_bytes n.header in let A = spread child_bytes n.children in let Q = padded (entry_size * s.k) (spread entry_bytes n.entries) in
      let p : length A + length (child_bytes c) ≤ child_size * s.c = omega (arith, length_children n.children, length_child c) in
      let i : header_size + child_size * length n.children ≡ header_size + length A = omega (arith, length_children n.children) in
      ap (λ (z : ℕ). sets (H ++ (padded (child_size * s.c) A ++ Q)) z (child_bytes c)) i
      ∙ (sets_in H (padded (child_size * s.c) A) Q header_size (length A) (child_bytes c) (length_header n.header) (omega (arith, p, length_padded (child_size * s.c) A))
      ∙ ap (λ (z : List ℕ). H ++ (z ++ Q)) (pad_snoc (child_size * s.c) A (child_bytes c) p ∙ ap (λ (z : List ℕ). padded (child_size * s.c) z) (sym (spread_snoc child_bytes n.children c))))

  -- an interval entry behind the others
  pub interval_added : (n : Node) (x : Entry) → length n.entries < s.k → sets (encode s n) (entry_at s (length n.entries)) (entry_bytes x) ≡ encode s (with_entry n x)
  unfolding encode body entry_at
  interval_added n x k =
      let H = header_bytes n.header in let A = spread entry_bytes n.entries in let M = padded (child_size * s.c) (spread child_bytes n.children) in let R = padded (entry_size * s.k) A in
      let p : length A + length (entry_bytes x) ≤ entry_size * s.k = omega (arith, length_entries n.entries, length_entry x) in
      let i : header_size + child_size * s.c + entry_size * length n.entries ≡ length (H ++ M) + length A = omega (arith, length_entries n.entries, length_header n.header, length_padded (child_size * s.c) (spread child_bytes n.children), length-append H M) in
      ap (λ (z : ℕ). sets (H ++ (M ++ R)) z (entry_bytes x)) i
      ∙ (ap (λ (z : List ℕ). sets z (length (H ++ M) + length A) (entry_bytes x)) (sym (append_assoc H M R))
      ∙ (sets_after (H ++ M) R (length A) (entry_bytes x)
      ∙ (ap (λ (z : List ℕ). (H ++ M) ++ z) (pad_snoc (entry_size * s.k) A (entry_bytes x) p ∙ ap (λ (z : List ℕ). padded (entry_size * s.k) z) (sym (spread_snoc entry_bytes n.entries x)))
      ∙ append_assoc H M (padded (entry_size * s.k) (spread entry_bytes (n.entries ++ x ∷ []))))))

  -- ---- one node made another by what document 01 lets be written: its header; its header and a child entry; its header and an interval entry

  pub head_rewritten : (X Y : Node) → X.children ≡ Y.children → X.entries ≡ Y.entries → sets (encode s X) 0 (header_bytes Y.header) ≡ encode s Y
  head_rewritten X Y c e = header_again X Y.header ∙ ap (encode s) (λ i. record { header = Y.header; children = c i; entries = e i })

  pub child_written : (X Y : Node) (c : Child) → length X.children < s.c → X.children ++ c ∷ [] ≡ Y.children → X.entries ≡ Y.entries
      → sets (sets (encode s X) 0 (header_bytes Y.header)) (child_at (length X.children)) (child_bytes c) ≡ encode s Y
  child_written X Y c k p e =
      ap (λ (z : List ℕ). sets z (child_at (length X.children)) (child_bytes c)) (header_again X Y.header)
      ∙ (child_added (with_header X Y.header) c k ∙ ap (encode s) (λ i. record { header = Y.header; children = p i; entries = e i }))

  pub interval_written : (X Y : Node) (x : Entry) → length X.entries < s.k → X.children ≡ Y.children → X.entries ++ x ∷ [] ≡ Y.entries
      → sets (sets (encode s X) 0 (header_bytes Y.header)) (entry_at s (length X.entries)) (entry_bytes x) ≡ encode s Y
  interval_written X Y x k p e =
      ap (λ (z : List ℕ). sets z (entry_at s (length X.entries)) (entry_bytes x)) (header_again X Y.header)
      ∙ (interval_added (with_header X Y.header) x k ∙ ap (encode s) (λ i. record { header = Y.header; children = p i; entries = e i }))

  -- ---- a new node: a header and zeros, then its first child if it has one

  new_empty : (h : Header) → header_bytes h ++ replicate (node_size s - header_size) 0 ≡ encode s (new_node h None)
  unfolding encode body new_node node_size
  new_empty h =
      let e : child_size * s.c + entry_size * s.k ≡ header_size + child_size * s.c + entry_size * s.k - header_size = omega arith in
      ap (λ (z : List ℕ). header_bytes h ++ z)
      (sym (ap (λ (z : List ℕ). z ++ padded (entry_size * s.k) []) (pad_none (child_size * s.c))
      ∙ ap (λ (z : List ℕ). replicate (child_size * s.c) 0 ++ z) (pad_none (entry_size * s.k))
      ∙ replicate-append-replicate (child_size * s.c) (entry_size * s.k) 0
      ∙ ap (λ (k : ℕ). replicate {A = ℕ} k 0) e))

  module _ (l l₁ : List ℕ) (size : ℕ) (h : Header) (f : Option Child) (is : size ≡ node_size s) (p : l₁ ≡ sets l 0 (header_bytes h ++ replicate (size - header_size) 0)) where
    empty : l₁ ≡ sets l 0 (encode s (new_node h None))
    empty = p ∙ ap (λ (k : ℕ). sets l 0 (header_bytes h ++ replicate (k - header_size) 0)) is ∙ ap (λ (z : List ℕ). sets l 0 z) (new_empty h)

    pub node_empty : f ≡ None → l₁ ≡ sets l 0 (encode s (new_node h f))
    node_empty e = empty ∙ ap (λ (g : Option Child). sets l 0 (encode s (new_node h g))) (sym e)

    pub node_first : (l₂ : List ℕ) (at : ℕ) (c : Child) → 1 ≤ s.c → node_size s ≤ length l → f ≡ Some c → at ≡ child_at 0 → l₂ ≡ sets l₁ at (child_bytes c) → l₂ ≡ sets l 0 (encode s (new_node h f))
    unfolding new_node child_at node_size
    node_first l₂ at c k room e t q =
        let X = encode s (new_node h None) in
        let m : length X ≡ node_size s = length_encode (new_node h None) in
        q ∙ ap (λ (j : ℕ). sets l₁ j (child_bytes c)) t
        ∙ ap (λ (z : List ℕ). sets z (child_at 0) (child_bytes c)) empty
        ∙ sets_within l 0 X (child_at 0) (child_bytes c) (omega (arith, m, room)) (omega (arith, m, k, length_child c))
        ∙ ap (λ (z : List ℕ). sets l 0 z) (child_added (new_node h None) c k)
        ∙ ap (λ (g : Option Child). sets l 0 (encode s (new_node h g))) (sym e)
