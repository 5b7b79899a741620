-- What the walk finds for a quark: turn by turn, and that it lies in the bytes. Assumes nothing.
use Prim.Native.Nat.{ℕ, zero, suc, ◌+◌, ◌-◌, ◌*◌, ◌≤◌, ◌<◌}
use mathlib.Core.Path.{◌≡◌, refl, sym, ap, subst, ◌∙◌}
use mathlib.Core.Bool.{Bool, true, false, cond, not, ◌&&◌}
use mathlib.Core.List.{List}
use native.Mathlib.Numerals.{add-one}
use native.Mathlib.Omega.{arith}
use lib.Dec.{eqb}
use lib.ListN.{length}
use borrow.Author.Tests.{eq-eqb, ne_eqb, not-false}
use Rattle.layout.specs.declared.Entry.{Entry}
use Rattle.layout.specs.declared.Header.{Header}
use Rattle.layout.specs.Layout.{entry_size, node_size, entry_at, read_header, read_entry}
use Rattle.walk.specs.declared.View.{View}
use Rattle.walk.specs.Standing.{Walk}
use Rattle.walk.specs.View.{Roomy}
use Rattle.walk.specs.Rules.{broken, kept, covers}
use Rattle.walk.specs.Walk.{place_of, root_of, step}
use Rattle.questions.specs.Found.{many, more, noted, look, look_in, look_at, found, found_of, shown}
use Rattle.walk.proofs.Room.{entries_room, place_room, place_small}
use Rattle.walk.proofs.Broken.{false_is, kept_fits}
use Rattle.walk.proofs.Walks.{step_keeps, root_inside}

-- ---- one entry

module _ (q t p : ℕ) (e : Entry) (s r : ℕ) where
  pub noted_other : (e.quark.0 ≡ q → ⊥) → r ≡ s → r ≡ noted q t p e s
  unfolding noted
  noted_other n g = rw (ne_eqb e.quark.0 q n) g

  module _ (same : e.quark.0 ≡ q) (b : Bool) (is : b ≡ covers t e) where
    pub noted_yes : (m : ℕ) → m ≡ more s p → b ≡ true → r ≡ m → r ≡ noted q t p e s
    unfolding noted
    noted_yes m f y g = rw (eq-eqb e.quark.0 q same, ← is, y) (g ∙ f)

    pub noted_no : b ≡ false → r ≡ s → r ≡ noted q t p e s
    unfolding noted
    noted_no n g = rw (eq-eqb e.quark.0 q same, ← is, n) g

-- ---- a node's entries

module _ (l : List ℕ) (q t p n i s : ℕ) where
  pub look_turn : (e : Entry) (r : ℕ) → e ≡ read_entry l p → r ≡ noted q t p e s → i < n → (next : ℕ) → p + entry_size ≡ next → look l q t p (n - i) s ≡ look l q t next (n - (i + 1)) r
  unfolding look
  look_turn e r is gives lt next to =
      let z : n - i ≡ suc (n - (i + 1)) = omega arith in
      let y : noted q t p (read_entry l p) s ≡ r = ap (λ (x : Entry). noted q t p x s) (sym is) ∙ sym gives in
      ap (λ (k : ℕ). look l q t p k s) z ∙ ap (λ (x : ℕ). look l q t (p + entry_size) (n - (i + 1)) x) y ∙ ap (λ (k : ℕ). look l q t k (n - (i + 1)) r) to

  pub look_done : n ≤ i → look l q t p (n - i) s ≡ s
  unfolding look
  look_done le = let z : n - i ≡ 0 = omega arith in ap (λ (k : ℕ). look l q t p k s) z

-- ---- the walk

-- the node at which it stands, its header h at byte p
pub look_node : (l : List ℕ) (v : View) (q t level : ℕ) (w : Walk) (s p : ℕ) (h : Header) (first : ℕ) → p ≡ place_of v w.place → h ≡ read_header l p → kept (broken v w level h) ≡ true → first ≡ entry_at v.shape 0
    → look_at l v q t level w s ≡ look l q t (p + first) h.intervals s
unfolding look_at look_in
look_node l v q t level w s p h first at reads good from = rw (← at, ← reads, good, ← from) (ap (λ (x : Header). look l q t (p + first) x.intervals s) (sym reads))

module _ (l : List ℕ) (v : View) (q t : ℕ) where
  pub found_stop : (n : ℕ) (w : Walk) (s : ℕ) → w.go ≡ false → s ≡ found l v q t n w s
  unfolding found
  found_stop zero w s e = refl
  found_stop (suc n) w s e = sym (ap (λ (b : Bool). cond b (found l v q t n (step l v t n w) (look_at l v q t n w s)) s) e)

  pub found_turn : (n : ℕ) (w : Walk) (s : ℕ) → w.go ≡ true → found l v q t (n + 1) w s ≡ found l v q t n (step l v t n w) (look_at l v q t n w s)
  unfolding found
  found_turn n w s going =
      ap (λ (k : ℕ). found l v q t k w s) (add-one n)
      ∙ ap (λ (b : Bool). cond b (found l v q t n (step l v t n w) (look_at l v q t n w s)) s) going

-- ---- R7

pub shown_some : (s : ℕ) → shown s ≡ true → 0 < s
unfolding shown
shown_some zero e = absurd (false_is e)
shown_some (suc s) e = omega arith

-- ---- what was found: nothing, one entry that lies in the bytes l and in the first 2^32 of them, or many

abbrev pub Near : List ℕ → ℕ → Type 0
Near l s = shown s ≡ true → (s + 31 ≤ length l) × (s + 31 ≤ 4294967296)

none_near : (l : List ℕ) → Near l 0
unfolding shown
none_near l e = absurd (false_is e)

noted_near : (l : List ℕ) (q t p : ℕ) (e : Entry) (s : ℕ) → p + entry_size ≤ length l → p + entry_size ≤ 4294967296 → Near l s → Near l (noted q t p e s)
unfolding noted more shown
noted_near l q t p e s h k g = go (eqb e.quark.0 q && covers t e) (eqb s 0)
  where
    go : (b c : Bool) → Near l (cond b (cond c (p + 1) many) s)
    go true true e = (omega arith, omega arith)
    go true false e = absurd (false_is e)
    go false c e = g e

look_near : (l : List ℕ) (q t p n s : ℕ) → p + entry_size * n ≤ length l → p + entry_size * n ≤ 4294967296 → Near l s → Near l (look l q t p n s)
unfolding look
look_near l q t p zero s h k g = g
look_near l q t p (suc n) s h k g = look_near l q t (p + entry_size) n _ (omega arith) (omega arith) (noted_near l q t p (read_entry l p) s (omega arith) (omega arith) g)

module _ (l : List ℕ) (v : View) (roomy : Roomy v l) (q t : ℕ) where
  node_near : (level : ℕ) (w : Walk) (s : ℕ) → w.place.0 < v.used → Near l s → Near l (look_at l v q t level w s)
  unfolding look_at look_in
  node_near level w s lt near = go (kept (broken v w level h)) refl
    where
      p : ℕ
      p = place_of v w.place

      h : Header
      h = read_header l p

      go : (b : Bool) → kept (broken v w level h) ≡ b → Near l (cond b (look l q t (p + entry_at v.shape 0) h.intervals s) s)
      go true e =
          let r : entry_at v.shape 0 + entry_size * h.intervals ≤ node_size v.shape = entries_room v.shape h.intervals (kept_fits v w level h e).intervals in
          look_near l q t (p + entry_at v.shape 0) h.intervals s (omega (arith, place_room v l roomy w.place lt)) (omega (arith, place_small v l roomy w.place lt)) near
      go false e = near

  found_near : (n : ℕ) (w : Walk) (s : ℕ) → (w.go ≡ true → w.place.0 < v.used) → Near l s → Near l (found l v q t n w s)
  unfolding found
  found_near zero w s inside near = near
  found_near (suc n) w s inside near =
      go w.go refl (λ (i : w.place.0 < v.used). found_near n (step l v t n w) (look_at l v q t n w s) (step_keeps l v t n w (step l v t n w) refl).inside (node_near n w s i near))
    where
      go : (b : Bool) → w.go ≡ b → (w.place.0 < v.used → Near l (found l v q t n (step l v t n w) (look_at l v q t n w s)))
          → Near l (cond b (found l v q t n (step l v t n w) (look_at l v q t n w s)) s)
      go true e f = f (inside e)
      go false e f = near

  pub root_near : Near l (found_of l v q t)
  unfolding found_of
  root_near = found_near (v.level + 1) (root_of v) 0 (root_inside v (root_of v) refl roomy.root) (none_near l)

-- what was found, and is the only one, can be read
pub near_found : (l : List ℕ) (v : View) → Roomy v l → (q t s : ℕ) (x : Bool) → s ≡ found_of l v q t → x ≡ shown s → not x ≡ false → (0 < s) × (s + 31 ≤ length l)
near_found l v roomy q t s x is one n =
    let e : shown s ≡ true = sym one ∙ not-false x n in
    (shown_some s e, (subst (λ (k : ℕ). Near l k) (sym is) (root_near l v roomy q t) e).0)
