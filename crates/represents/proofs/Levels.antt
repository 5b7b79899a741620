-- The open branch of a record that represents a tree passes every test of a sound record. Assumes nothing.
use Prim.Native.Nat.{ℕ, zero, suc, ◌+◌, ◌-◌, ◌≤◌, ◌<◌}
use mathlib.Core.Bool.{Bool, true, false, cond, not, ◌&&◌, ◌||◌}
use mathlib.Core.Path.{◌≡◌, refl, sym, ap, ◌∙◌}
use mathlib.Core.List.{List, [], ◌∷◌}
use native.Mathlib.Omega.{arith}
use lib.Dec.{leb, eqb}
use lib.ListN.{length}
use borrow.Author.Tests.{le-leb, lt-ltb, ne_eqb, eqb-false}
use Rattle.layout.specs.declared.Shape.{Shape}
use Rattle.record.specs.declared.Branch.{Branch}
use Rattle.record.specs.Levels.{place_at, start_at, intervals_at, children_at, last_end_at}
use Rattle.record.specs.Sound.{all, level_sound, apart, levels_sound, starts_fall, last_end_sound}
use Rattle.model.specs.Build.{Subtrees, childless, also, many, next, Open}
use Rattle.model.specs.Invariant as I
use Rattle.model.specs.Invariant.{HasChild, Upper, Rooms, Good}
use Rattle.model.proofs.Walk.{next_from}
use Rattle.represents.specs.Represents.{shape_of, Lines, Ended, Last}
use Rattle.represents.specs.Histories.{Rooted}
use Rattle.represents.proofs.Placed.{Falls, falls_more}

-- ---- tests of a run of numbers

all_first : (p : ℕ → Bool) (i n : ℕ) → p i ≡ true → all p (i + 1) n ≡ true → all p i (suc n) ≡ true
unfolding all
all_first p i n e r = ap (λ (t : Bool). cond t (all p (i + 1) n) false) e ∙ r

all_none : (p : ℕ → Bool) (i : ℕ) → all p i 0 ≡ true
unfolding all
all_none p i = refl

-- ---- "places differ": each is below that of any level under it

apart_above : (b : Branch) (place k l : ℕ) (fs : List Open) → place ≡ k → Lines b 1 l fs → Falls k fs → all (λ j. not (eqb (place_at b j) place)) l (length fs) ≡ true
apart_above b place k l [] e d f = all_none _ l
apart_above b place k l (g ∷ above) e d f =
    all_first _ l (length above) (ap not (ne_eqb (place_at b l) place (λ z. omega (arith, d.0.1, f.0))))
    (apart_above b place k (l + 1) above e d.1 (falls_more g.head.seq k above (omega (arith, f.0)) f.1))

-- ---- "open counts within K and C, .. every open level above 0 has a child"

-- c is 1 where there is an open child, which counts
abbrev Counts : Shape → ℕ → List Open → Type 0
Counts s c [] = Unit {0}
Counts s c (f ∷ above) =
    (length f.head.held ≤ s.k) × (c + many f.closed ≤ s.c) × (0 < f.head.level → 1 ≤ c + many f.closed) × Counts s 1 above

upper_counts : (s : Shape) (fs : List Open) → Upper (shape_of s) fs → Counts s 1 fs
upper_counts s [] u = tt
upper_counts s (f ∷ above) u = (u.0, omega (arith, u.1), (λ x. omega arith), upper_counts s above u.3)

has_many : (k : Subtrees) → HasChild k → 1 ≤ 0 + many k
has_many childless x = absurd x
has_many (also ks h e k) x = omega arith

rooms_counts : (s : Shape) (fs : List Open) → Rooms (shape_of s) fs → Counts s 0 fs
rooms_counts s [] r = tt
rooms_counts s (f ∷ above) r = (r.0, omega (arith, r.1), (λ x. has_many f.closed (r.3 x)), upper_counts s above r.4)

above_zero : (l : ℕ) → (l ≡ 0 → ⊥) → 0 < l
above_zero zero x = absurd (x refl)
above_zero (suc l) x = omega arith

parented : (l n : ℕ) → (0 < l → 1 ≤ n) → eqb l 0 || leb 1 n ≡ true
parented l n h = go (eqb l 0) refl
  where
    go : (t : Bool) → eqb l 0 ≡ t → t || leb 1 n ≡ true
    go true e = refl
    go false e = le-leb 1 n (h (above_zero l (eqb-false l 0 e)))

module _ (b : Branch) (s : Shape) (used : ℕ) where
  level_passes : (l : ℕ) → intervals_at b l ≤ s.k → children_at b l ≤ s.c → place_at b l < used → (0 < l → 1 ≤ children_at b l) → level_sound b s used l ≡ true
  unfolding level_sound
  level_passes l i c p h = simp (le-leb _ _ i, le-leb _ _ c, lt-ltb _ _ p, parented _ _ h)

  levels_pass : (top c l q : ℕ) (fs : List Open) → top + 1 ≡ l + length fs → q ≤ used → Lines b c l fs → Falls q fs → Counts s c fs
      → all (λ l. cond (level_sound b s used l) (apart b l (top - l)) false) l (length fs) ≡ true
  unfolding apart
  levels_pass top c l q [] t le d f n = all_none _ l
  levels_pass top c l q (g ∷ above) t le d f n =
      let x = d.0 in
      let here = level_passes l (omega (arith, x.3, n.0)) (omega (arith, x.4, n.1)) (omega (arith, x.1, f.0)) (λ z. omega (arith, x.4, n.2 (omega (arith, x.0)))) in
      let left : top - l ≡ length above = omega arith in
      let others : apart b l (top - l) ≡ true =
      ap (λ (z : ℕ). all (λ j. not (eqb (place_at b j) (place_at b l))) (l + 1) z) left ∙ apart_above b (place_at b l) g.head.seq (l + 1) above x.1 d.1 f.1 in
      all_first _ l (length above) (simp (here, others))
      (levels_pass top 1 (l + 1) g.head.seq above (omega arith) (omega (arith, f.0)) d.1 f.1 n.3)

-- ---- "with starts not growing upwards and the root's equal to the history's"

module _ (b : Branch) (o S : ℕ) where
  starts_pass : (c l : ℕ) (f : Open) (above : List Open) → Lines b c l (f ∷ above) → I.Branch o S (f ∷ above)
      → all (λ l. leb (start_at b (l + 1)) (start_at b l)) l (length above) ≡ true
  starts_pass c l f [] d w = all_none _ l
  starts_pass c l f (p ∷ above) d w =
      let n = next_from p.head.level p.head.start p.closed w.2.0.good in
      all_first _ l (length above) (le-leb (start_at b (l + 1)) (start_at b l) (omega (arith, d.0.2, d.1.0.2, w.1.1, n))) (starts_pass 1 (l + 1) p above d.1 w.2)

  root_start : (top c l : ℕ) (f : Open) (above : List Open) → top + 1 ≡ l + length (f ∷ above) → Lines b c l (f ∷ above) → I.Branch o S (f ∷ above) → start_at b top ≡ o
  root_start top c l f [] t d w = let e : top ≡ l = omega arith in ap (start_at b) e ∙ d.0.2 ∙ w.1
  root_start top c l f (p ∷ above) t d w = root_start top 1 (l + 1) p above (omega arith) d.1 w.2

  pub from_start : (f : Open) (above : List Open) → I.Branch o S (f ∷ above) → o ≤ f.head.start
  from_start f [] w = omega (arith, w.1)
  from_start f (p ∷ above) w = omega (arith, w.1.1, next_from p.head.level p.head.start p.closed w.2.0.good, from_start p above w.2)

  -- "the last-child end of an open level without open child [lies] in that span"
  ended_within : (x l a : ℕ) (k : Subtrees) → o ≤ a → HasChild k → Ended x k → Good l a k → next a k ≤ suc S → (o ≤ x) × (x ≤ S)
  ended_within x l a childless le h e g n = absurd h
  ended_within x zero a (also ks h z k) le c e g n = absurd g
  ended_within x (suc l) a (also ks h z k) le c e g n =
      (omega (arith, next_from (suc l) a ks g.0, g.1.start, g.1.ordered), omega arith)

  last_pass : (s : Shape) (latest l : ℕ) (f : Open) (above : List Open) → S ≤ latest → Lines b 0 l (f ∷ above) → Last b l (f ∷ above) → I.Branch o S (f ∷ above)
      → Rooms (shape_of s) (f ∷ above) → last_end_sound b l o latest ≡ true
  unfolding last_end_sound
  last_pass s latest l f above le d x w r = go (eqb l 0) refl
    where
      go : (t : Bool) → eqb l 0 ≡ t → t || (leb o (last_end_at b l) && leb (last_end_at b l) latest) ≡ true
      go true e = refl
      go false e =
          let up = above_zero l (eqb-false l 0 e) in
          let k = ended_within (last_end_at b l) f.head.level f.head.start f.closed (from_start f above w) (r.3 (omega (arith, d.0.0))) x w.0.good w.0.within in
          simp (le-leb o (last_end_at b l) k.0, le-leb (last_end_at b l) latest (omega (arith, k.1)))

-- ---- the root

root_here : (b : Branch) (top c l : ℕ) (f : Open) (above : List Open) → top + 1 ≡ l + length (f ∷ above) → Lines b c l (f ∷ above) → Rooted b top (f ∷ above)
root_here b top c l f [] t d = let e : top ≡ l = omega arith in (e ∙ sym d.0.0, ap (place_at b) e ∙ d.0.1)
root_here b top c l f (p ∷ above) t d = root_here b top 1 (l + 1) p above (omega arith) d.1

-- ---- together

module _ (b : Branch) (s : Shape) (o S q top l : ℕ) where
  -- the tests of a branch
  abbrev Passes : ℕ → Type 0
  Passes latest =
      (l ≤ top) × (start_at b top ≡ o) × (last_end_sound b l o latest ≡ true) × (starts_fall b l top ≡ true) × (levels_sound b s q l top ≡ true) × (0 < q)

  pub branch_passes : (latest : ℕ) (fs : List Open) → I.Some fs → top + 1 ≡ l + length fs → Lines b 0 l fs → Last b l fs → I.Branch o S fs → Rooms (shape_of s) fs
      → Falls q fs → S ≤ latest → Passes latest
  unfolding starts_fall levels_sound
  branch_passes latest [] some t d x w r f le = absurd some
  branch_passes latest (g ∷ above) some t d x w r f le =
      let n : top - l ≡ length above = omega arith in
      let m : top + 1 - l ≡ length (g ∷ above) = omega arith in (
        omega arith,
        root_start b o S top 0 l g above t d w,
        last_pass b o S s latest l g above le d x w r,
        ap (λ (z : ℕ). all (λ j. leb (start_at b (j + 1)) (start_at b j)) l z) n ∙ starts_pass b o S 0 l g above d w,
        ap (λ (z : ℕ). all (λ j. cond (level_sound b s q j) (apart b j (top - j)) false) l z) m
            ∙ levels_pass b s q top 0 l q (g ∷ above) t (omega arith) d f (rooms_counts s (g ∷ above) r),
        omega (arith, f.0),
      )

  pub rooted : (fs : List Open) → I.Some fs → top + 1 ≡ l + length fs → Lines b 0 l fs → Rooted b top fs
  rooted [] some t d = absurd some
  rooted (g ∷ above) some t d = root_here b top 0 l g above t d
