-- The refusals before the walk: what their test of the record gives, and what holds where none of them is given. Assumes nothing.
use Prim.Native.Nat.{ℕ, ◌*◌, ◌≤◌}
use mathlib.Core.Path.{◌≡◌, refl, sym, ap, subst}
use mathlib.Core.Bool.{Bool, true, false, cond, not, ◌&&◌, ◌||◌}
use mathlib.Core.List.{List}
use lib.Dec.{T, leb, ltb}
use lib.ListN.{length}
use borrow.Author.Tests.{leb-true, ltb-true, ltb-false}
use Rattle.layout.specs.Layout.{node_size}
use Rattle.record.specs.Refusals.{Nothing, Short, Damaged, Outside, NoQuark, accepted}
use Rattle.record.specs.Sound.{last_time, shape_allowed}
use Rattle.record.proofs.Facts.{sound_shaped}
use Rattle.walk.specs.declared.View.{View}
use Rattle.walk.specs.View.{view_sound, long_for, asked, Roomy}
use Rattle.walk.proofs.Broken.{and_left, and_right}
use Rattle.walk.proofs.Admitted.{long_nodes}
use Rattle.page.specs.Page.{head_refusal}

-- ---- what sound numbers give

pub record Allowed (v : View) : Type 0 where
  pub places : v.shape.n ≤ 65536
  pub size : node_size v.shape ≤ 65536
  pub roomy : (l : List ℕ) → v.shape.n * node_size v.shape ≤ length l → Roomy v l

pub allowed : (v : View) → view_sound v ≡ true → Allowed v
unfolding view_sound
allowed v e =
    let a₁ = and_left (shape_allowed v.shape && leb v.attributes 4096 && leb v.latest last_time && leb v.start v.latest && leb 1 v.used && leb v.used v.shape.n && leb v.level 15) (ltb v.root.0 v.used) e in
    let a₂ = and_left (shape_allowed v.shape && leb v.attributes 4096 && leb v.latest last_time && leb v.start v.latest && leb 1 v.used && leb v.used v.shape.n) (leb v.level 15) a₁ in
    let a₃ = and_left (shape_allowed v.shape && leb v.attributes 4096 && leb v.latest last_time && leb v.start v.latest && leb 1 v.used) (leb v.used v.shape.n) a₂ in
    let a₄ = and_left (shape_allowed v.shape && leb v.attributes 4096 && leb v.latest last_time && leb v.start v.latest) (leb 1 v.used) a₃ in
    let a₅ = and_left (shape_allowed v.shape && leb v.attributes 4096 && leb v.latest last_time) (leb v.start v.latest) a₄ in
    let a₆ = and_left (shape_allowed v.shape && leb v.attributes 4096) (leb v.latest last_time) a₅ in
    let s = sound_shaped v.shape (and_left (shape_allowed v.shape) (leb v.attributes 4096) a₆) in
    record {
      places = s.nodes;
      size = s.size;
      roomy = λ l r. record {
        shaped = s;
        attributes = leb-true _ _ (and_right (shape_allowed v.shape) (leb v.attributes 4096) a₆);
        used = leb-true _ _ (and_right (shape_allowed v.shape && leb v.attributes 4096 && leb v.latest last_time && leb v.start v.latest && leb 1 v.used) (leb v.used v.shape.n) a₂);
        level = leb-true _ _ (and_right (shape_allowed v.shape && leb v.attributes 4096 && leb v.latest last_time && leb v.start v.latest && leb 1 v.used && leb v.used v.shape.n) (leb v.level 15) a₁);
        root = ltb-true _ _ (and_right (shape_allowed v.shape && leb v.attributes 4096 && leb v.latest last_time && leb v.start v.latest && leb 1 v.used && leb v.used v.shape.n && leb v.level 15) (ltb v.root.0 v.used) e);
        room = r;
      };
    }

pub sound_places : (v : View) → view_sound v ≡ true → v.shape.n ≤ 65536
sound_places v e = (allowed v e).places

pub sound_size : (v : View) → view_sound v ≡ true → node_size v.shape ≤ 65536
sound_size v e = (allowed v e).size

-- ---- where the head refuses nothing

pub record Admitted (v : View) (l : List ℕ) (answer wants : ℕ) (known : Bool) (t : ℕ) : Type 0 where
  pub sound : view_sound v ≡ true
  pub long : (not (long_for v (length l) 0) || ltb answer wants) ≡ false
  pub knows : known ≡ true
  pub asks : asked v t ≡ true

or_left : (x y : Bool) → x || y ≡ false → x ≡ false
or_left true y e = e
or_left false y e = refl

or_right : (x y : Bool) → x || y ≡ false → y ≡ false
or_right true y e = absurd (subst T e tt)
or_right false y e = e

module _ (v : View) (l : List ℕ) (answer wants : ℕ) (known : Bool) (t : ℕ) (is : head_refusal v (length l) answer wants known t ≡ Nothing) where
  pub head_admitted : Admitted v l answer wants known t
  unfolding head_refusal
  head_admitted = go (view_sound v) (not (long_for v (length l) 0) || ltb answer wants) known (asked v t) refl refl refl refl (ap accepted is)
    where
      go : (a b c d : Bool) → view_sound v ≡ a → (not (long_for v (length l) 0) || ltb answer wants) ≡ b → known ≡ c → asked v t ≡ d
          → accepted (cond (not a) Damaged (cond b Short (cond (not c) NoQuark (cond (not d) Outside Nothing)))) ≡ true → Admitted v l answer wants known t
      go true false true true f g h i x = record { sound = f; long = g; knows = h; asks = i }
      go true false true false f g h i x = absurd (subst T (sym x) tt)
      go true false false d f g h i x = absurd (subst T (sym x) tt)
      go true true c d f g h i x = absurd (subst T (sym x) tt)
      go false b c d f g h i x = absurd (subst T (sym x) tt)

  pub head_roomy : Roomy v l
  head_roomy =
      let d = head_admitted in
      (allowed v d.sound).roomy l (long_nodes v (length l) 0 (long_for v (length l) 0) refl (or_left (not (long_for v (length l) 0)) (ltb answer wants) d.long))

  pub head_long : wants ≤ answer
  head_long = ltb-false answer wants (or_right (not (long_for v (length l) 0)) (ltb answer wants) head_admitted.long)
