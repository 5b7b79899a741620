-- The full question's table: turn by turn, and that it says of each quark what a single's walk finds. Assumes nothing.
use Prim.Native.Nat.{ℕ, zero, suc, ◌+◌, ◌-◌, ◌≤◌, ◌<◌}
use mathlib.Core.Path.{◌≡◌, refl, sym, ap, subst, ◌∙◌}
use mathlib.Core.Bool.{Bool, true, false, cond, ◌&&◌}
use mathlib.Core.List.{List}
use native.Mathlib.Numerals.{add-one}
use native.Mathlib.Omega.{arith}
use lib.Dec.{leb, eqb}
use lib.ListN.{length, get_or, set, length-set}
use lib.Seq.{get_or-set_same, get_or-set_other}
use borrow.Author.Tests.{eqb-true, eqb-false}
use Rattle.layout.specs.declared.Entry.{Entry}
use Rattle.layout.specs.declared.Header.{Header}
use Rattle.layout.specs.Layout.{entry_size, entry_at, read_header, read_entry}
use Rattle.transient.specs.declared.Ongoing.{Ongoing}
use Rattle.transient.specs.Transient.{ongoing_at}
use Rattle.walk.specs.declared.View.{View}
use Rattle.walk.specs.Standing.{Walk}
use Rattle.walk.specs.Rules.{broken, kept, covers}
use Rattle.walk.specs.Walk.{place_of, step}
use Rattle.questions.specs.Found.{more, noted, look, look_in, look_at, found}
use Rattle.full_question.specs.Table.{ongoing, begun, begun_from, note_if, note, note_all, note_in, note_at, found_from}

-- ---- an entry is noted

module _ (t p : ℕ) (e : Entry) (xs : List ℕ) where
  pub note_told : (a : Bool) (ys : List ℕ) → a ≡ covers t e → ys ≡ note_if a p e xs → ys ≡ note t p e xs
  unfolding note
  note_told a ys is gives = gives ∙ ap (λ (b : Bool). note_if b p e xs) is

  pub length_note : length (note t p e xs) ≡ length xs
  unfolding note note_if
  length_note = go (covers t e)
    where
      go : (b : Bool) → length (cond b (set xs e.quark.0 (more (get_or xs e.quark.0 0) p)) xs) ≡ length xs
      go true = simp length-set
      go false = refl

  note_at_lem : (q : ℕ) → q < length xs → get_or (note t p e xs) q 0 ≡ noted q t p e (get_or xs q 0)
  unfolding note note_if noted
  note_at_lem q h = go (covers t e) (eqb e.quark.0 q) refl
    where
      go : (a d : Bool) → eqb e.quark.0 q ≡ d → get_or (cond a (set xs e.quark.0 (more (get_or xs e.quark.0 0) p)) xs) q 0 ≡ cond (d && a) (more (get_or xs q 0) p) (get_or xs q 0)
      go true true g =
          subst (λ (k : ℕ). get_or (set xs e.quark.0 (more (get_or xs e.quark.0 0) p)) k 0 ≡ more (get_or xs k 0) p) (eqb-true e.quark.0 q g)
          (get_or-set_same xs e.quark.0 (more (get_or xs e.quark.0 0) p) 0 (omega (arith, eqb-true e.quark.0 q g)))
      go true false g = get_or-set_other xs e.quark.0 q (more (get_or xs e.quark.0 0) p) 0 (λ z. eqb-false e.quark.0 q g (sym z))
      go false true g = refl
      go false false g = refl

-- ---- a node's entries

module _ (l : List ℕ) (t p n i : ℕ) (xs : List ℕ) where
  pub all_turn : (e : Entry) (ys : List ℕ) → e ≡ read_entry l p → ys ≡ note t p e xs → i < n → (next : ℕ) → p + entry_size ≡ next → note_all l t p (n - i) xs ≡ note_all l t next (n - (i + 1)) ys
  unfolding note_all
  all_turn e ys is gives lt next to =
      let z : n - i ≡ suc (n - (i + 1)) = omega arith in
      let y : note t p (read_entry l p) xs ≡ ys = ap (λ (x : Entry). note t p x xs) (sym is) ∙ sym gives in
      ap (λ (k : ℕ). note_all l t p k xs) z ∙ ap (λ (x : List ℕ). note_all l t (p + entry_size) (n - (i + 1)) x) y ∙ ap (λ (k : ℕ). note_all l t k (n - (i + 1)) ys) to

  pub all_done : n ≤ i → note_all l t p (n - i) xs ≡ xs
  unfolding note_all
  all_done le = let z : n - i ≡ 0 = omega arith in ap (λ (k : ℕ). note_all l t p k xs) z

pub length_all : (l : List ℕ) (t p n : ℕ) (xs : List ℕ) → length (note_all l t p n xs) ≡ length xs
unfolding note_all
length_all l t p zero xs = refl
length_all l t p (suc n) xs = length_all l t (p + entry_size) n _ ∙ length_note t p (read_entry l p) xs

pub all_at : (l : List ℕ) (q t p n : ℕ) (xs : List ℕ) → q < length xs → get_or (note_all l t p n xs) q 0 ≡ look l q t p n (get_or xs q 0)
unfolding note_all look
all_at l q t p zero xs h = refl
all_at l q t p (suc n) xs h =
    all_at l q t (p + entry_size) n (note t p (read_entry l p) xs) (omega (arith, length_note t p (read_entry l p) xs))
    ∙ ap (λ (s : ℕ). look l q t (p + entry_size) n s) (note_at_lem t p (read_entry l p) xs q h)

-- ---- a node

module _ (l : List ℕ) (v : View) (t level : ℕ) (w : Walk) (xs : List ℕ) where
  length_node : length (note_at l v t level w xs) ≡ length xs
  unfolding note_at note_in
  length_node = go (kept (broken v w level (read_header l (place_of v w.place))))
    where
      go : (b : Bool) → length (cond b (note_all l t (place_of v w.place + entry_at v.shape 0) (read_header l (place_of v w.place)).intervals xs) xs) ≡ length xs
      go true = length_all l t _ _ xs
      go false = refl

  node_at : (q : ℕ) → q < length xs → get_or (note_at l v t level w xs) q 0 ≡ look_at l v q t level w (get_or xs q 0)
  unfolding note_at note_in look_at look_in
  node_at q h = go (kept (broken v w level (read_header l (place_of v w.place))))
    where
      at : ℕ
      at = place_of v w.place + entry_at v.shape 0

      n : ℕ
      n = (read_header l (place_of v w.place)).intervals

      go : (b : Bool) → get_or (cond b (note_all l t at n xs) xs) q 0 ≡ cond b (look l q t at n (get_or xs q 0)) (get_or xs q 0)
      go true = all_at l q t at n xs h
      go false = refl

-- its header h at byte p
pub note_node : (l : List ℕ) (v : View) (t level : ℕ) (w : Walk) (xs : List ℕ) (p : ℕ) (h : Header) (first : ℕ) → p ≡ place_of v w.place → h ≡ read_header l p → kept (broken v w level h) ≡ true → first ≡ entry_at v.shape 0
    → note_at l v t level w xs ≡ note_all l t (p + first) h.intervals xs
unfolding note_at note_in
note_node l v t level w xs p h first at reads good from = rw (← at, ← reads, good, ← from) (ap (λ (x : Header). note_all l t (p + first) x.intervals xs) (sym reads))

-- ---- the walk

module _ (l : List ℕ) (v : View) (t : ℕ) where
  pub from_turn : (n : ℕ) (w : Walk) (xs : List ℕ) → w.go ≡ true → found_from l v t (n + 1) w xs ≡ found_from l v t n (step l v t n w) (note_at l v t n w xs)
  unfolding found_from
  from_turn n w xs going =
      ap (λ (k : ℕ). found_from l v t k w xs) (add-one n)
      ∙ ap (λ (b : Bool). cond b (found_from l v t n (step l v t n w) (note_at l v t n w xs)) xs) going

  pub from_stop : (n : ℕ) (w : Walk) (xs : List ℕ) → w.go ≡ false → xs ≡ found_from l v t n w xs
  unfolding found_from
  from_stop zero w xs e = refl
  from_stop (suc n) w xs e = sym (ap (λ (b : Bool). cond b (found_from l v t n (step l v t n w) (note_at l v t n w xs)) xs) e)

  -- the table says of each quark what a single's walk finds
  pub found_all_at : (q n : ℕ) (w : Walk) (xs : List ℕ) → q < length xs → get_or (found_from l v t n w xs) q 0 ≡ found l v q t n w (get_or xs q 0)
  unfolding found_from found
  found_all_at q zero w xs h = refl
  found_all_at q (suc n) w xs h =
      go w.go
      (found_all_at q n (step l v t n w) (note_at l v t n w xs) (omega (arith, length_node l v t n w xs)) ∙ ap (λ (s : ℕ). found l v q t n (step l v t n w) s) (node_at l v t n w xs q h))
    where
      go : (b : Bool) → get_or (found_from l v t n (step l v t n w) (note_at l v t n w xs)) q 0 ≡ found l v q t n (step l v t n w) (look_at l v q t n w (get_or xs q 0))
          → get_or (cond b (found_from l v t n (step l v t n w) (note_at l v t n w xs)) xs) q 0 ≡ cond b (found l v q t n (step l v t n w) (look_at l v q t n w (get_or xs q 0))) (get_or xs q 0)
      go true e = e
      go false e = refl

-- ---- the ongoing states

module _ (q start t : ℕ) (xs : List ℕ) where
  pub length_begun : length (begun q start t xs) ≡ length xs
  unfolding begun
  length_begun = go (leb start t)
    where
      go : (b : Bool) → length (cond b (set xs q ongoing) xs) ≡ length xs
      go true = simp length-set
      go false = refl

  -- of q, and of any other
  begun_same : q < length xs → get_or (begun q start t xs) q 0 ≡ cond (leb start t) ongoing (get_or xs q 0)
  unfolding begun
  begun_same h = go (leb start t)
    where
      go : (b : Bool) → get_or (cond b (set xs q ongoing) xs) q 0 ≡ cond b ongoing (get_or xs q 0)
      go true = get_or-set_same xs q ongoing 0 h
      go false = refl

  begun_other : (k : ℕ) → (k ≡ q → ⊥) → get_or (begun q start t xs) k 0 ≡ get_or xs k 0
  unfolding begun
  begun_other k h = go (leb start t)
    where
      go : (b : Bool) → get_or (cond b (set xs q ongoing) xs) k 0 ≡ get_or xs k 0
      go true = get_or-set_other xs q k ongoing 0 h
      go false = refl

module _ (table : List ℕ) (t : ℕ) where
  pub begun_turn : (q n : ℕ) (o : Ongoing) (xs ys : List ℕ) → o ≡ ongoing_at table q → ys ≡ begun q o.start t xs → q < n → begun_from table t q (n - q) xs ≡ begun_from table t (q + 1) (n - (q + 1)) ys
  unfolding begun_from
  begun_turn q n o xs ys reads gives lt =
      let z : n - q ≡ suc (n - (q + 1)) = omega arith in
      let y : begun q (ongoing_at table q).start t xs ≡ ys = ap (λ (x : Ongoing). begun q x.start t xs) (sym reads) ∙ sym gives in
      ap (λ (k : ℕ). begun_from table t q k xs) z ∙ ap (λ (x : List ℕ). begun_from table t (q + 1) (n - (q + 1)) x) y

  pub begun_done : (q n : ℕ) (xs : List ℕ) → n ≤ q → begun_from table t q (n - q) xs ≡ xs
  unfolding begun_from
  begun_done q n xs le = let z : n - q ≡ 0 = omega arith in ap (λ (k : ℕ). begun_from table t q k xs) z

  pub length_from : (q n : ℕ) (xs : List ℕ) → length (begun_from table t q n xs) ≡ length xs
  unfolding begun_from
  length_from q zero xs = refl
  length_from q (suc n) xs = length_from (q + 1) n (begun q (ongoing_at table q).start t xs) ∙ length_begun q (ongoing_at table q).start t xs

  before : (q n k : ℕ) (xs : List ℕ) → k < q → get_or (begun_from table t q n xs) k 0 ≡ get_or xs k 0
  unfolding begun_from
  before q zero k xs h = refl
  before q (suc n) k xs h = before (q + 1) n k (begun q (ongoing_at table q).start t xs) (omega arith) ∙ begun_other q (ongoing_at table q).start t xs k (λ z. omega arith)

  pub begun_at : (q n k : ℕ) (xs : List ℕ) → q + n ≤ length xs → q ≤ k → k < q + n → get_or (begun_from table t q n xs) k 0 ≡ cond (leb (ongoing_at table k).start t) ongoing (get_or xs k 0)
  unfolding begun_from
  begun_at q zero k xs long le lt = absurd (omega arith)
  begun_at q (suc n) k xs long le lt =
      go (eqb q k) refl
      (λ (a : q + 1 ≤ k). begun_at (q + 1) n k (begun q (ongoing_at table q).start t xs) (omega (arith, length_begun q (ongoing_at table q).start t xs)) a (omega arith))
    where
      ys : List ℕ
      ys = begun q (ongoing_at table q).start t xs

      same : get_or ys q 0 ≡ cond (leb (ongoing_at table q).start t) ongoing (get_or xs q 0)
      same = begun_same q (ongoing_at table q).start t xs (omega arith)

      go : (b : Bool) → eqb q k ≡ b → (q + 1 ≤ k → get_or (begun_from table t (q + 1) n ys) k 0 ≡ cond (leb (ongoing_at table k).start t) ongoing (get_or ys k 0))
          → get_or (begun_from table t (q + 1) n ys) k 0 ≡ cond (leb (ongoing_at table k).start t) ongoing (get_or xs k 0)
      go true e f =
          subst (λ (j : ℕ). get_or (begun_from table t (q + 1) n ys) j 0 ≡ cond (leb (ongoing_at table j).start t) ongoing (get_or xs j 0)) (eqb-true q k e)
          (before (q + 1) n q ys (omega arith) ∙ same)
      go false e f =
          let ne : q ≡ k → ⊥ = eqb-false q k e in
          f (omega arith) ∙ ap (λ (s : ℕ). cond (leb (ongoing_at table k).start t) ongoing s) (begun_other q (ongoing_at table q).start t xs k (λ z. ne (sym z)))
