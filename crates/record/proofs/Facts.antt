-- What soundness says, as plain facts. Assumes nothing.
use Prim.Native.Nat.{ℕ, zero, suc, ◌+◌, ◌-◌, ◌*◌, ◌/◌, ◌≤◌, ◌<◌}
use mathlib.Core.Path.{◌≡◌, refl, sym, ap, ◌∙◌}
use mathlib.Core.Bool.{Bool, true, false, cond, not, ◌&&◌, ◌||◌, false≢true, false≢true}
use mathlib.Core.Logic.{⊎_elim}
use native.Mathlib.Nat.{eq-or-lt_of_le}
use native.Mathlib.Omega.{arith}
use lib.Dec.{leb, eqb}
use borrow.Author.Tests.{leb-true, ltb-true, eqb-true, eqb-false, ne_eqb, not-true, not-false}
use Rattle.layout.specs.declared.Shape.{Shape}
use Rattle.layout.specs.Layout.{node_size, entry_size}
use Rattle.record.specs.declared.History.{History}
use Rattle.record.specs.Refusals.{Nothing, Damaged, Short, accepted}
use Rattle.record.specs.Levels.{place_at, start_at, last_end_at}
use Rattle.record.specs.Sound.{shape_allowed, numbers_sound, all, level_sound, apart, levels_sound, starts_fall, last_end_sound, branch_sound, sound, long_enough, admitted}
use Rattle.record.specs.Firm.{Shaped, Numbered, OpenLevel, Unfinished, Firm}

-- ---- tests taken apart

both : (a b : Bool) → a && b ≡ true → (a ≡ true) × (b ≡ true)
both true b e = (refl, e)
both false b e = absurd (false≢true e)

first : (a b : Bool) → cond a b false ≡ true → (a ≡ true) × (b ≡ true)
first true b e = (refl, e)
first false b e = absurd (false≢true e)

either : (a b : Bool) → a || b ≡ true → a ≡ false → b ≡ true
either true b e f = absurd (false≢true (sym f))
either false b e f = e

above : (l : ℕ) → 0 < l → eqb l 0 ≡ false
above l p = ne_eqb l 0 (λ q. omega arith)

-- a test of a run of numbers, at one of them
pub all_at : (p : ℕ → Bool) (i n j : ℕ) → all p i n ≡ true → i ≤ j → j < i + n → p j ≡ true
unfolding all
all_at p i zero j e le lt = absurd (omega arith)
all_at p i (suc n) j e le lt =
    let parts = first (p i) (all p (i + 1) n) e in
    ⊎_elim (λ (q : i ≡ j). rw q at parts.0) (λ (q : i < j). all_at p (i + 1) n j parts.1 (omega arith) (omega arith)) (eq-or-lt_of_le le)

-- ---- numbers

pub sound_shaped : (s : Shape) → shape_allowed s ≡ true → Shaped s
unfolding shape_allowed node_size
sound_shaped s e =
    let a = both _ _ e in
    let b = both _ _ a.0 in
    let d = both _ _ b.0 in
    let f = both _ _ d.0 in
    let g = both _ _ f.0 in
    let size : node_size s ≤ 65536 = leb-true _ _ d.1 in
    record {
      some = leb-true _ _ g.0;
      two = leb-true _ _ g.1;
      fifty = leb-true _ _ f.1;
      small = omega (arith, size);
      size = size;
      nodes = leb-true _ _ a.1;
    }

pub sound_numbered : (h : History) → numbers_sound h ≡ true → Numbered h
unfolding numbers_sound
sound_numbered h e =
    let a = both _ _ e in
    let b = both _ _ a.0 in
    let d = both _ _ b.0 in
    let f = both _ _ d.0 in
    let g = both _ _ f.0 in
    let i = both _ _ g.0 in
    let j = both _ _ i.0 in
    record {
      attributes = leb-true _ _ j.0;
      latest = leb-true _ _ j.1;
      begun = leb-true _ _ i.1;
      from = leb-true _ _ g.1;
      to = leb-true _ _ f.1;
      top = leb-true _ _ d.1;
      some = leb-true _ _ b.1;
      room = leb-true _ _ a.1;
    }

-- ---- the open branch

module _ (h : History) where
  level_facts : (l : ℕ) → level_sound h.branch h.shape h.used l ≡ true → apart h.branch l (h.top - l) ≡ true → OpenLevel h l
  unfolding level_sound apart
  level_facts l e f =
      let a = both _ _ e in
      let b = both _ _ a.0 in
      let d = both _ _ b.0 in
      record {
        intervals = leb-true _ _ d.0;
        children = leb-true _ _ d.1;
        placed = ltb-true _ _ b.1;
        parent = λ p. leb-true _ _ (either _ _ a.1 (above _ p));
        apart = λ m lt le. eqb-false _ _ (not-true _ (all_at _ (l + 1) (h.top - l) m f (omega arith) (omega arith)));
      }

  levels_facts : (l : ℕ) → levels_sound h.branch h.shape h.used h.low h.top ≡ true → h.low ≤ l → l ≤ h.top → OpenLevel h l
  unfolding levels_sound
  levels_facts l e x y =
      let g = first (level_sound h.branch h.shape h.used l) (apart h.branch l (h.top - l)) (all_at _ h.low (h.top + 1 - h.low) l e x (omega arith)) in
      level_facts l g.0 g.1

  falls_facts : (l : ℕ) → starts_fall h.branch h.low h.top ≡ true → h.low ≤ l → l < h.top → start_at h.branch (l + 1) ≤ start_at h.branch l
  unfolding starts_fall
  falls_facts l e x y = leb-true _ _ (all_at _ h.low (h.top - h.low) l e x (omega arith))

  last_facts : last_end_sound h.branch h.low h.start h.latest ≡ true → 0 < h.low → (h.start ≤ last_end_at h.branch h.low) × (last_end_at h.branch h.low ≤ h.latest)
  unfolding last_end_sound
  last_facts e p = let g = both _ _ (either _ _ e (above _ p)) in (leb-true _ _ g.0, leb-true _ _ g.1)

  pub sound_unfinished : branch_sound h ≡ true → h.finished ≡ false → Unfinished h
  unfolding branch_sound
  sound_unfinished e going =
      let a = first _ _ (simp going at e) in
      let b = first _ _ a.1 in
      let d = first _ _ b.1 in
      let f = first _ _ d.1 in
      record {
        ordered = leb-true _ _ a.0;
        root = eqb-true _ _ b.0;
        last = last_facts d.0;
        falls = λ l. falls_facts l f.0;
        levels = λ l. levels_facts l f.1;
      }

  -- once finished: no level is open, and the root's place is used
  pub sound_finished : branch_sound h ≡ true → h.finished ≡ true → (h.low ≡ h.top + 1) × (place_at h.branch h.top < h.used)
  unfolding branch_sound
  sound_finished e done = let a = both _ _ (simp done at e) in (eqb-true _ _ a.0, ltb-true _ _ a.1)

-- ---- the whole

module _ (h : History) (is : sound h ≡ true) where
  sound_parts : (shape_allowed h.shape ≡ true) × (numbers_sound h ≡ true) × (branch_sound h ≡ true)
  unfolding sound
  sound_parts = let a = first _ _ is in let b = first _ _ a.1 in (a.0, b.0, b.1)

  pub sound_shape : Shaped h.shape
  sound_shape = sound_shaped h.shape sound_parts.0

  pub sound_numbers : Numbered h
  sound_numbers = sound_numbered h sound_parts.1

  pub sound_open : h.finished ≡ false → Unfinished h
  sound_open = sound_unfinished h sound_parts.2

  pub sound_done : h.finished ≡ true → (h.low ≡ h.top + 1) × (place_at h.branch h.top < h.used)
  sound_done = sound_finished h sound_parts.2

  -- finished or not, the root's place is used
  pub sound_root : place_at h.branch h.top < h.used
  sound_root = go h.finished refl
    where
      go : (f : Bool) → h.finished ≡ f → place_at h.branch h.top < h.used
      go true e = (sound_done e).1
      go false e = let u = sound_open e in (u.levels h.top u.ordered (omega arith)).placed

  pub sound_firm : h.finished ≡ false → Firm h
  sound_firm going =
      let u = sound_open going in
      let n = sound_numbers in
      record {
        shaped = sound_shape;
        used = n.room;
        ordered = u.ordered;
        top = n.top;
        placed = λ l x y. (u.levels l x y).placed;
        intervals = λ l x y. (u.levels l x y).intervals;
        children = λ l x y. (u.levels l x y).children;
        largest = omega arith;
        last = λ p. omega (arith, (u.last p).1);
      }

-- ---- what the calls of `sound` and `admit` need

pub top_small : (h : History) (x : Bool) → x ≡ numbers_sound h → not x ≡ false → h.top < 16
top_small h x e n = let f = sound_numbered h (sym e ∙ not-false x n) in omega arith

pub sound_small : (h : History) (x : Bool) → x ≡ sound h → not x ≡ false → (h.shape.n ≤ 65536) × (node_size h.shape ≤ 65536)
sound_small h x e n = let f = sound_shape h (sym e ∙ not-false x n) in (f.nodes, f.size)

-- ---- what admission says

long_nodes : (h : History) (nodes table : ℕ) → long_enough h nodes table ≡ true → h.shape.n * node_size h.shape ≤ nodes
unfolding long_enough
long_nodes h nodes table e = leb-true _ _ (both _ _ e).0

long_table : (h : History) (nodes table : ℕ) → long_enough h nodes table ≡ true → h.finished ≡ false → h.attributes ≤ table / entry_size
unfolding long_enough
long_table h nodes table e going =
    let g = both (leb (h.shape.n * node_size h.shape) nodes) (h.finished || leb h.attributes (table / entry_size)) e in
    leb-true _ _ (either _ _ g.1 going)

-- a call or question that is not refused 3 or 2 at its head: the record is sound and the buffers are long enough;
pub admitted_both : (h : History) (nodes table : ℕ) → admitted h nodes table ≡ Nothing → (sound h ≡ true) × (long_enough h nodes table ≡ true)
unfolding admitted
admitted_both h nodes table = go (sound h) (long_enough h nodes table)
  where
    go : (x y : Bool) → cond (not x) Damaged (cond (not y) Short Nothing) ≡ Nothing → (x ≡ true) × (y ≡ true)
    go true true e = (refl, refl)
    go true false e = absurd (false≢true (ap accepted e))
    go false y e = absurd (false≢true (ap accepted e))

-- its nodes lie in the buffer, and its attributes in the table until finish
pub admitted_facts : (h : History) (nodes table : ℕ) → admitted h nodes table ≡ Nothing → (sound h ≡ true) × (h.shape.n * node_size h.shape ≤ nodes) × (h.finished ≡ false → h.attributes ≤ table / entry_size)
admitted_facts h nodes table e = let f = admitted_both h nodes table e in (f.0, long_nodes h nodes table f.1, long_table h nodes table f.1)
