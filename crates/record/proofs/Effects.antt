-- What each move does to the entries of each level: at the levels that it sets, and at any other. Assumes nothing.
use Prim.Native.Nat.{ℕ, ◌+◌, ◌<◌}
use mathlib.Core.Path.{◌≡◌, refl, ◌∙◌}
use native.Mathlib.Omega.{arith}
use lib.ListN.{length-set}
use lib.Seq.{get_or-set_same, get_or-set_other}
use Rattle.record.specs.declared.Branch.{Branch}
use Rattle.record.specs.declared.History.{History}
use Rattle.record.specs.Levels.{place_at, start_at, intervals_at, children_at, last_end_at}
use Rattle.record.specs.Moves.{level_new, level_child, level_stored, level_closed, with_branch, closed, raised, made, stored}
use Rattle.record.specs.Firm.{Long, LevelIs, SameLevel}

-- ---- a level's numbers

module _ (b : Branch) (l : ℕ) where
  module _ (place start children last_end : ℕ) where
    pub level_new_long : Long b → Long (level_new b l place start children last_end)
    unfolding level_new
    level_new_long g = record {
      places = simp length-set g.places;
      starts = simp length-set g.starts;
      intervals = simp length-set g.intervals;
      children = simp length-set g.children;
      last_ends = simp length-set g.last_ends;
    }

    pub level_new_at : Long b → l < 16 → LevelIs (level_new b l place start children last_end) l place start 0 children last_end
    unfolding level_new
    level_new_at g lt = record {
      at_place = get_or-set_same b.places l place 0 (omega (arith, g.places));
      at_start = get_or-set_same b.starts l start 0 (omega (arith, g.starts));
      at_intervals = get_or-set_same b.intervals l 0 0 (omega (arith, g.intervals));
      at_children = get_or-set_same b.children l children 0 (omega (arith, g.children));
      at_last_end = get_or-set_same b.last_ends l last_end 0 (omega (arith, g.last_ends));
    }

    pub level_new_other : (m : ℕ) → (m ≡ l → ⊥) → SameLevel (level_new b l place start children last_end) b m
    unfolding level_new
    level_new_other m ne = record {
      at_place = get_or-set_other b.places l m place 0 ne;
      at_start = get_or-set_other b.starts l m start 0 ne;
      at_intervals = get_or-set_other b.intervals l m 0 0 ne;
      at_children = get_or-set_other b.children l m children 0 ne;
      at_last_end = get_or-set_other b.last_ends l m last_end 0 ne;
    }

  pub level_child_long : Long b → Long (level_child b l)
  unfolding level_child
  level_child_long g = record { places = g.places; starts = g.starts; intervals = g.intervals; children = simp length-set g.children; last_ends = g.last_ends }

  pub level_child_at : Long b → l < 16 → LevelIs (level_child b l) l (place_at b l) (start_at b l) (intervals_at b l) (children_at b l + 1) (last_end_at b l)
  unfolding level_child
  level_child_at g lt = record { at_place = refl; at_start = refl; at_intervals = refl; at_children = get_or-set_same b.children l (children_at b l + 1) 0 (omega (arith, g.children)); at_last_end = refl }

  pub level_child_other : (m : ℕ) → (m ≡ l → ⊥) → SameLevel (level_child b l) b m
  unfolding level_child
  level_child_other m ne = record { at_place = refl; at_start = refl; at_intervals = refl; at_children = get_or-set_other b.children l m (children_at b l + 1) 0 ne; at_last_end = refl }

  pub level_stored_long : Long b → Long (level_stored b l)
  unfolding level_stored
  level_stored_long g = record { places = g.places; starts = g.starts; intervals = simp length-set g.intervals; children = g.children; last_ends = g.last_ends }

  pub level_stored_at : Long b → l < 16 → LevelIs (level_stored b l) l (place_at b l) (start_at b l) (intervals_at b l + 1) (children_at b l) (last_end_at b l)
  unfolding level_stored
  level_stored_at g lt = record { at_place = refl; at_start = refl; at_intervals = get_or-set_same b.intervals l (intervals_at b l + 1) 0 (omega (arith, g.intervals)); at_children = refl; at_last_end = refl }

  pub level_stored_other : (m : ℕ) → (m ≡ l → ⊥) → SameLevel (level_stored b l) b m
  unfolding level_stored
  level_stored_other m ne = record { at_place = refl; at_start = refl; at_intervals = get_or-set_other b.intervals l m (intervals_at b l + 1) 0 ne; at_children = refl; at_last_end = refl }

  module _ (end : ℕ) where
    pub level_closed_long : Long b → Long (level_closed b l end)
    unfolding level_closed
    level_closed_long g = record { places = g.places; starts = g.starts; intervals = g.intervals; children = g.children; last_ends = simp length-set g.last_ends }

    pub level_closed_at : Long b → l < 16 → LevelIs (level_closed b l end) l (place_at b l) (start_at b l) (intervals_at b l) (children_at b l) end
    unfolding level_closed
    level_closed_at g lt = record { at_place = refl; at_start = refl; at_intervals = refl; at_children = refl; at_last_end = get_or-set_same b.last_ends l end 0 (omega (arith, g.last_ends)) }

    pub level_closed_other : (m : ℕ) → (m ≡ l → ⊥) → SameLevel (level_closed b l end) b m
    unfolding level_closed
    level_closed_other m ne = record { at_place = refl; at_start = refl; at_intervals = refl; at_children = refl; at_last_end = get_or-set_other b.last_ends l m end 0 ne }

-- a level that is as it was in b has what it had there
over : {a b : Branch} {l p s i c e : ℕ} → SameLevel a b l → LevelIs b l p s i c e → LevelIs a l p s i c e
over x y = record {
  at_place = x.at_place ∙ y.at_place;
  at_start = x.at_start ∙ y.at_start;
  at_intervals = x.at_intervals ∙ y.at_intervals;
  at_children = x.at_children ∙ y.at_children;
  at_last_end = x.at_last_end ∙ y.at_last_end;
}

-- ---- the moves

module _ (h : History) where
  pub closed_long : Long h.branch → Long (closed h).branch
  unfolding closed with_branch
  closed_long = level_closed_long h.branch (h.low + 1) h.largest_end

  pub closed_at : Long h.branch → h.low < 15 → LevelIs (closed h).branch (h.low + 1) (place_at h.branch (h.low + 1)) (start_at h.branch (h.low + 1)) (intervals_at h.branch (h.low + 1)) (children_at h.branch (h.low + 1)) h.largest_end
  unfolding closed with_branch
  closed_at g lt = level_closed_at h.branch (h.low + 1) h.largest_end g (omega arith)

  pub closed_other : (m : ℕ) → (m ≡ h.low + 1 → ⊥) → SameLevel (closed h).branch h.branch m
  unfolding closed with_branch
  closed_other = level_closed_other h.branch (h.low + 1) h.largest_end

  pub raised_long : Long h.branch → Long (raised h).branch
  unfolding raised with_branch
  raised_long = level_new_long h.branch (h.top + 1) h.used h.start 1 h.largest_end

  pub raised_at : Long h.branch → h.top < 15 → LevelIs (raised h).branch (h.top + 1) h.used h.start 0 1 h.largest_end
  unfolding raised with_branch
  raised_at g lt = level_new_at h.branch (h.top + 1) h.used h.start 1 h.largest_end g (omega arith)

  pub raised_other : (m : ℕ) → (m ≡ h.top + 1 → ⊥) → SameLevel (raised h).branch h.branch m
  unfolding raised with_branch
  raised_other = level_new_other h.branch (h.top + 1) h.used h.start 1 h.largest_end

  module _ (l : ℕ) where
    pub stored_long : Long h.branch → Long (stored h l).branch
    unfolding stored with_branch
    stored_long = level_stored_long h.branch l

    pub stored_at : Long h.branch → l < 16 → LevelIs (stored h l).branch l (place_at h.branch l) (start_at h.branch l) (intervals_at h.branch l + 1) (children_at h.branch l) (last_end_at h.branch l)
    unfolding stored with_branch
    stored_at = level_stored_at h.branch l

    pub stored_other : (m : ℕ) → (m ≡ l → ⊥) → SameLevel (stored h l).branch h.branch m
    unfolding stored with_branch
    stored_other = level_stored_other h.branch l

    module _ (a : ℕ) where
      pub made_long : Long h.branch → Long (made h a l).branch
      unfolding made with_branch
      made_long g = level_new_long (level_child h.branch (l + 1)) l h.used a 0 0 (level_child_long h.branch (l + 1) g)

      pub made_at : Long h.branch → l < 16 → LevelIs (made h a l).branch l h.used a 0 0 0
      unfolding made with_branch
      made_at g lt = level_new_at (level_child h.branch (l + 1)) l h.used a 0 0 (level_child_long h.branch (l + 1) g) lt

      pub made_parent : Long h.branch → l < 15 → LevelIs (made h a l).branch (l + 1) (place_at h.branch (l + 1)) (start_at h.branch (l + 1)) (intervals_at h.branch (l + 1)) (children_at h.branch (l + 1) + 1) (last_end_at h.branch (l + 1))
      unfolding made with_branch
      made_parent g lt = over (level_new_other (level_child h.branch (l + 1)) l h.used a 0 0 (l + 1) (λ e. omega arith)) (level_child_at h.branch (l + 1) g (omega arith))

      pub made_other : (m : ℕ) → (m ≡ l → ⊥) → (m ≡ l + 1 → ⊥) → SameLevel (made h a l).branch h.branch m
      unfolding made with_branch
      made_other m ne up = over (level_new_other (level_child h.branch (l + 1)) l h.used a 0 0 m ne) (level_child_other h.branch (l + 1) m up)
