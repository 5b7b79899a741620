-- A header, a child entry and an interval entry that were written are read back, between any bytes; and reading depends on no other bytes. Assumes nothing.
use Prim.Native.Nat.{ℕ, ◌+◌, ◌^◌, ◌≤◌, ◌<◌}
use mathlib.Core.Path.{◌≡◌, refl, ap, ◌∙◌}
use mathlib.Core.List.{List, [], ◌++◌, append_assoc, append-nil}
use native.Mathlib.Nat.{add-zero}
use native.Mathlib.Omega.{arith}
use lib.Dec.{lit≤}
use lib.ListN.{length, get_or, take, drop, length-append}
use lib.Seq.{sets, sets-eq, length-take-le}
use mir.Syntax.{w64}
use mir.Val.{to_z, of_z}
use mir.Facts.{to_z-of_z, Fits-of_z, sfits_to_z}
use Rattle.words.specs.Words.{le, num}
use Rattle.words.proofs.Numbers.{length_le, num_between, num_ext, num_below}
use Rattle.layout.specs.declared.Header.{Header}
use Rattle.layout.specs.declared.Child.{Child}
use Rattle.layout.specs.declared.Entry.{Entry}
use Rattle.layout.specs.Layout.{header_size, child_size, entry_size, bounds, counts, header_bytes, child_bytes, entry_bytes, read_header, read_child, read_entry, HeaderFits, ChildFits, EntryFits}
use Rattle.layout.proofs.Parts.{length_header, length_child, length_entry}

-- ---- between A and B

module _ (A B : List ℕ) (p : ℕ) (at : length A ≡ p) where
  -- a field behind xs in a part that is written as xs, the field and ys
  field : (part : List ℕ) (k n v : ℕ) (xs ys : List ℕ) → part ≡ xs ++ (le n v ++ ys) → length xs ≡ k → v < 256 ^ n → num (A ++ (part ++ B)) (p + k) n ≡ v
  field part k n v xs ys e g b =
      let f : A ++ (part ++ B) ≡ (A ++ xs) ++ (le n v ++ (ys ++ B)) = rw e (simp append_assoc) in
      ap (λ (l : List ℕ). num l (p + k) n) f ∙ num_between (A ++ xs) n v (ys ++ B) (p + k) (length-append A xs ∙ omega (arith, at, g)) b

  pub header_between : (h : Header) → HeaderFits h → read_header (A ++ (header_bytes h ++ B)) p ≡ h
  unfolding header_bytes bounds counts
  header_between h f =
      let x₁ : List ℕ = le 8 h.start in
      let x₂ : List ℕ = x₁ ++ le 8 h.end in
      let x₃ : List ℕ = x₂ ++ le 4 h.sequence.0 in
      let x₄ : List ℕ = x₃ ++ le 4 h.parent.0 in
      let x₅ : List ℕ = x₄ ++ le 2 h.intervals in
      let x₆ : List ℕ = x₅ ++ le 2 h.children in
      let x₇ : List ℕ = x₆ ++ le 1 h.level in
      let y₇ : List ℕ = le 2 0 in
      let y₆ : List ℕ = le 1 h.state ++ y₇ in
      let y₅ : List ℕ = le 1 h.level ++ y₆ in
      let y₄ : List ℕ = le 2 h.children ++ y₅ in
      let y₃ : List ℕ = le 2 h.intervals ++ y₄ in
      let y₂ : List ℕ = le 4 h.parent.0 ++ y₃ in
      let y₁ : List ℕ = le 4 h.sequence.0 ++ y₂ in
      let y₀ : List ℕ = le 8 h.end ++ y₁ in
      let p₀ = simp add-zero at (field (header_bytes h) 0 8 h.start [] y₀ (simp append_assoc) refl f.start) in
      let p₁ = field (header_bytes h) 8 8 h.end x₁ y₁ (simp append_assoc) (simp length_le) f.end in
      let p₂ = field (header_bytes h) 16 4 h.sequence.0 x₂ y₂ (simp append_assoc) (simp (length-append, length_le)) f.sequence in
      let p₃ = field (header_bytes h) 20 4 h.parent.0 x₃ y₃ (simp append_assoc) (simp (length-append, length_le)) f.parent in
      let p₄ = field (header_bytes h) 24 2 h.intervals x₄ y₄ (simp append_assoc) (simp (length-append, length_le)) f.intervals in
      let p₅ = field (header_bytes h) 26 2 h.children x₅ y₅ (simp append_assoc) (simp (length-append, length_le)) f.children in
      let p₆ = field (header_bytes h) 28 1 h.level x₆ y₆ (simp append_assoc) (simp (length-append, length_le)) f.level in
      let p₇ = field (header_bytes h) 29 1 h.state x₇ y₇ (simp append_assoc) (simp (length-append, length_le)) f.state in
      λ i. record { start = p₀ i; end = p₁ i; sequence = record { 0 = p₂ i }; parent = record { 0 = p₃ i }; intervals = p₄ i; children = p₅ i; level = p₆ i; state = p₇ i }

  pub child_between : (c : Child) → ChildFits c → read_child (A ++ (child_bytes c ++ B)) p ≡ c
  unfolding child_bytes
  child_between c f =
      let y₀ : List ℕ = le 8 c.start in
      let p₀ = simp add-zero at (field (child_bytes c) 0 4 c.sequence.0 [] y₀ refl refl f.sequence) in
      let p₁ = field (child_bytes c) 4 8 c.start (le 4 c.sequence.0) [] (simp append-nil) (simp length_le) f.start in
      λ i. record { sequence = record { 0 = p₀ i }; start = p₁ i }

  pub entry_between : (x : Entry) → EntryFits x → read_entry (A ++ (entry_bytes x ++ B)) p ≡ x
  unfolding entry_bytes
  entry_between x f =
      let v : ℕ = of_z w64 x.value in
      let small : v < 2 ^ 64 = (Fits-of_z {w = w64} {z = x.value} f.value).fits in
      let x₁ : List ℕ = le 4 x.quark.0 in
      let x₂ : List ℕ = x₁ ++ (le 1 x.kind ++ le 3 0) in
      let x₃ : List ℕ = x₂ ++ le 8 x.start in
      let x₄ : List ℕ = x₃ ++ le 8 x.end in
      let y₃ : List ℕ = le 8 v in
      let y₂ : List ℕ = le 8 x.end ++ y₃ in
      let y₁ : List ℕ = le 3 0 ++ (le 8 x.start ++ y₂) in
      let y₀ : List ℕ = le 1 x.kind ++ y₁ in
      let p₀ = simp add-zero at (field (entry_bytes x) 0 4 x.quark.0 [] y₀ refl refl f.quark) in
      let p₁ = field (entry_bytes x) 4 1 x.kind x₁ y₁ refl (simp length_le) f.kind in
      let p₂ = field (entry_bytes x) 8 8 x.start x₂ y₂ (simp append_assoc) (simp (length-append, length_le)) f.start in
      let p₃ = field (entry_bytes x) 16 8 x.end x₃ y₃ (simp append_assoc) (simp (length-append, length_le)) f.end in
      let p₄ = field (entry_bytes x) 24 8 v x₄ [] (simp (append_assoc, append-nil)) (simp (length-append, length_le)) small in
      let p₅ : to_z w64 (num (A ++ (entry_bytes x ++ B)) (p + 24) 8) ≡ x.value = ap (to_z w64) p₄ ∙ to_z-of_z f.value in
      λ i. record { quark = record { 0 = p₀ i }; kind = p₁ i; start = p₂ i; end = p₃ i; value = p₅ i }

-- ---- written at p of any bytes

module _ (l : List ℕ) (p : ℕ) where
  stored : (vs : List ℕ) → p + length vs ≤ length l → sets l p vs ≡ take p l ++ (vs ++ drop (p + length vs) l)
  stored vs h = sets-eq vs l p h ∙ append_assoc (take p l) vs (drop (p + length vs) l)

  pub header_back : (h : Header) → HeaderFits h → p + header_size ≤ length l → read_header (sets l p (header_bytes h)) p ≡ h
  header_back h f room =
      ap (λ (z : List ℕ). read_header z p) (stored (header_bytes h) (omega (arith, length_header h)))
      ∙ header_between (take p l) (drop (p + length (header_bytes h)) l) p (length-take-le p l (omega arith)) h f

  pub child_back : (c : Child) → ChildFits c → p + child_size ≤ length l → read_child (sets l p (child_bytes c)) p ≡ c
  child_back c f room =
      ap (λ (z : List ℕ). read_child z p) (stored (child_bytes c) (omega (arith, length_child c)))
      ∙ child_between (take p l) (drop (p + length (child_bytes c)) l) p (length-take-le p l (omega arith)) c f

  pub entry_back : (x : Entry) → EntryFits x → p + entry_size ≤ length l → read_entry (sets l p (entry_bytes x)) p ≡ x
  entry_back x f room =
      ap (λ (z : List ℕ). read_entry z p) (stored (entry_bytes x) (omega (arith, length_entry x)))
      ∙ entry_between (take p l) (drop (p + length (entry_bytes x)) l) p (length-take-le p l (omega arith)) x f

-- ---- the same bytes, elsewhere

module _ (l m : List ℕ) (p q : ℕ) where
  same : (size : ℕ) → ((k : ℕ) → k < size → get_or l (p + k) 0 ≡ get_or m (q + k) 0) → (k n : ℕ) → k + n ≤ size → num l (p + k) n ≡ num m (q + k) n
  same size h k n b =
      num_ext l m (p + k) (q + k) n
      (λ j c. ap (λ (t : ℕ). get_or l t 0) (omega arith) ∙ h (k + j) (omega arith) ∙ ap (λ (t : ℕ). get_or m t 0) (omega arith))

  pub header_same : ((k : ℕ) → k < header_size → get_or l (p + k) 0 ≡ get_or m (q + k) 0) → read_header l p ≡ read_header m q
  header_same h =
      let e = same header_size h in
      let p₀ = simp add-zero at (e 0 8 (lit≤ tt)) in
      λ i. record {
        start = p₀ i;
        end = e 8 8 (lit≤ tt) i;
        sequence = record { 0 = e 16 4 (lit≤ tt) i };
        parent = record { 0 = e 20 4 (lit≤ tt) i };
        intervals = e 24 2 (lit≤ tt) i;
        children = e 26 2 (lit≤ tt) i;
        level = e 28 1 (lit≤ tt) i;
        state = e 29 1 (lit≤ tt) i;
      }

  pub child_same : ((k : ℕ) → k < child_size → get_or l (p + k) 0 ≡ get_or m (q + k) 0) → read_child l p ≡ read_child m q
  child_same h =
      let e = same child_size h in
      let p₀ = simp add-zero at (e 0 4 (lit≤ tt)) in
      λ i. record { sequence = record { 0 = p₀ i }; start = e 4 8 (lit≤ tt) i }

  pub entry_same : ((k : ℕ) → k < entry_size → get_or l (p + k) 0 ≡ get_or m (q + k) 0) → read_entry l p ≡ read_entry m q
  entry_same h =
      let e = same entry_size h in
      let p₀ = simp add-zero at (e 0 4 (lit≤ tt)) in
      λ i. record { quark = record { 0 = p₀ i }; kind = e 4 1 (lit≤ tt) i; start = e 8 8 (lit≤ tt) i; end = e 16 8 (lit≤ tt) i; value = to_z w64 (e 24 8 (lit≤ tt) i) }

-- ---- what is read from bytes fits its fields

module _ (l : List ℕ) (bytes : (k : ℕ) → k < length l → get_or l k 0 < 256) (p : ℕ) where
  pub header_fits : p + header_size ≤ length l → HeaderFits (read_header l p)
  header_fits h = record {
    start = num_below l bytes p 8 (omega arith);
    end = num_below l bytes (p + 8) 8 (omega arith);
    sequence = num_below l bytes (p + 16) 4 (omega arith);
    parent = num_below l bytes (p + 20) 4 (omega arith);
    intervals = num_below l bytes (p + 24) 2 (omega arith);
    children = num_below l bytes (p + 26) 2 (omega arith);
    level = num_below l bytes (p + 28) 1 (omega arith);
    state = num_below l bytes (p + 29) 1 (omega arith);
  }

  pub child_fits : p + child_size ≤ length l → ChildFits (read_child l p)
  child_fits h = record { sequence = num_below l bytes p 4 (omega arith); start = num_below l bytes (p + 4) 8 (omega arith) }

  pub entry_fits_lem : p + entry_size ≤ length l → EntryFits (read_entry l p)
  entry_fits_lem h = record {
    quark = num_below l bytes p 4 (omega arith);
    kind = num_below l bytes (p + 4) 1 (omega arith);
    start = num_below l bytes (p + 8) 8 (omega arith);
    end = num_below l bytes (p + 16) 8 (omega arith);
    value = sfits_to_z (record { fits = num_below l bytes (p + 24) 8 (omega arith) });
  }
