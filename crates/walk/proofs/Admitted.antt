-- What a sound record, and buffers long enough for it, give to the view that a question goes on with. Assumes nothing.
use Rattle.std.proofs.Common.{◌≡◌, ℕ, ◌*◌, ◌/◌, ◌<◌, ◌≤◌, Bool, true, false, not, ◌||◌, leb, List, length, sym, refl, ◌∙◌, arith, leb-true}
use borrow.Author.Tests.{not-false}
use Rattle.layout.specs.Layout.{entry_size, node_size}
use Rattle.record.specs.declared.History.{History}
use Rattle.record.specs.Sound.{sound, long_enough}
use Rattle.record.proofs.Facts.{sound_shape, sound_numbers, sound_root}
use Rattle.record.specs.Levels.{place_at}
use Rattle.walk.specs.declared.View.{View}
use Rattle.walk.specs.View.{view_of, long_for, Roomy}
use Rattle.walk.proofs.Broken.{and_left}

pub long_same : (h : History) (m n : ℕ) → long_enough h m n ≡ long_for (view_of h) m n
unfolding long_enough long_for view_of
long_same h m n = refl

-- a sound record's numbers are small
module _ (h : History) (is : sound h ≡ true) where
  pub sound_few : h.attributes ≤ 4096
  sound_few = (sound_numbers h is).attributes

  pub sound_top : h.top < 16
  sound_top = let n = sound_numbers h is in omega (arith, n.top)

  pub sound_used : h.used ≤ 65536
  sound_used = omega (arith, (sound_numbers h is).room, (sound_shape h is).nodes)

  pub sound_place : place_at h.branch h.top < 65536
  sound_place = omega (arith, sound_used, sound_root h is)

  pub sound_roomy : (l : List ℕ) → h.shape.n * node_size h.shape ≤ length l → Roomy (view_of h) l
  unfolding view_of
  sound_roomy l r = let m = sound_numbers h is in record { shaped = sound_shape h is; attributes = m.attributes; used = m.room; level = m.top; root = sound_root h is; room = r }

-- nodes that are long enough for a view hold all its nodes
pub long_nodes : (v : View) (m n : ℕ) (b : Bool) → b ≡ long_for v m n → not b ≡ false → v.shape.n * node_size v.shape ≤ m
unfolding long_for
long_nodes v m n b is y = leb-true _ _ (and_left _ (v.finished || leb v.attributes (n / entry_size)) (sym is ∙ not-false b y))
