-- The loop of a question's walk, which finds the way down from a node before it looks at the node's entries: each way through a turn. Assumes nothing.
use Rattle.std.specs.Prelude.{Option}
use Rattle.std.proofs.Common.{◌≡◌, ℕ, ◌+◌, ◌<◌, ◌≤◌, Bool, true, false, List, sym, refl, ap, ◌∙◌, arith}
use Rattle.layout.specs.declared.Header.{Header}
use Rattle.layout.specs.Layout.{entry_at, read_header}
use Rattle.walk.specs.declared.View.{View}
use Rattle.walk.specs.Standing.{Walk}
use Rattle.walk.specs.declared.Rule.{Rule}
use Rattle.walk.specs.View.{Roomy}
use Rattle.walk.specs.Rules.{broken, kept}
use Rattle.walk.specs.Walk.{place_of, root_of, all_sound, descend, step, walk, walk_of}
use Rattle.walk.proofs.Walks.{descend_keeps, descend_entered, step_bad, step_past, step_unsound, step_down, walk_stop, walk_turn, walk_bad}

-- the walk stands at a node that is to be entered, or has come to its end, where no level is left
pub record Walking (l : List ℕ) (v : View) (t : ℕ) (w : Walk) (level : ℕ) : Type 0 where
  pub going : 0 < level → w.go ≡ true
  pub used : 0 < level → w.place.0 < v.used
  pub kept : kept w.rule ≡ true
  pub few : w.entered + level ≤ 16
  pub ends : walk_of l v t ≡ walk l v t level w

-- the header of the node at which it stands, of which `level` is due, was read, and held against R1 to R5
pub record Reading (l : List ℕ) (v : View) (t : ℕ) (w : Walk) (level p : ℕ) (h : Header) (rule : Option Rule) : Type 0 where
  pub walking : Walking l v t w (level + 1)
  pub at : p ≡ place_of v w.place
  pub reads : h ≡ read_header l p
  pub is : rule ≡ broken v w level h

pub reading : {l : List ℕ} {v : View} {t : ℕ} {w : Walk} {level p : ℕ} {h : Header} {rule : Option Rule}
    → Walking l v t w (level + 1) → p ≡ place_of v w.place → h ≡ read_header l p → rule ≡ broken v w level h → Reading l v t w level p h rule
reading walking at reads is = record { walking = walking; at = at; reads = reads; is = is }

pub stands_going : {l : List ℕ} {v : View} {t : ℕ} {w : Walk} {level p : ℕ} {h : Header} {rule : Option Rule} → Reading l v t w level p h rule → w.go ≡ true
stands_going r = r.walking.going (omega arith)

module _ (l : List ℕ) (v : View) (t : ℕ) where
  pub walking_root : (w : Walk) → Roomy v l → w ≡ root_of v → Walking l v t w (v.level + 1)
  unfolding root_of walk_of
  walking_root w roomy e = rw e record {
    going = λ z. refl;
    used = λ z. roomy.root;
    kept = refl;
    few = omega (arith, roomy.level);
    ends = refl;
  }

  -- ---- the end

  module _ (w : Walk) (inv : Walking l v t w 0) where
    pub walking_ends : walk_of l v t ≡ w
    unfolding walk
    walking_ends = inv.ends

    pub walking_kept : kept (walk_of l v t).rule ≡ true
    walking_kept = ap (λ (r : Walk). kept r.rule) walking_ends ∙ inv.kept

  -- ---- a turn

  module _ (w : Walk) (level p : ℕ) (h : Header) (rule : Option Rule) (r : Reading l v t w level p h rule) where
    damaged : kept (step l v t level w).rule ≡ false → kept (walk_of l v t).rule ≡ false
    damaged bad = ap (λ (y : Walk). kept y.rule) r.walking.ends ∙ walk_bad l v t level w (stands_going r) bad

    pub walking_bad : kept rule ≡ false → kept (walk_of l v t).rule ≡ false
    walking_bad n = damaged (step_bad l v t level w p h rule r.at r.reads r.is n)

    module _ (n : kept rule ≡ true) where
      pub walking_past : (g : Walk) → g ≡ descend l v t h p w → kept g.rule ≡ false → kept (walk_of l v t).rule ≡ false
      walking_past g down bad = damaged (step_past l v t level w p h rule r.at r.reads r.is n (ap (λ (y : Walk). kept y.rule) (sym down) ∙ bad))

      module _ (first : ℕ) (b : Bool) (from : first ≡ entry_at v.shape 0) (sound : b ≡ all_sound l v.attributes h (p + first) h.intervals true) where
        pub walking_unsound : b ≡ false → kept (walk_of l v t).rule ≡ false
        walking_unsound m = damaged (step_unsound l v t level w p h rule r.at r.reads r.is n first b from sound m)

        -- its entries are sound, and no rule is broken on the way down to g
        module _ (m : b ≡ true) (g : Walk) (down : g ≡ descend l v t h p w) (k : kept g.rule ≡ true) where
          pub walking_onto : step l v t level w ≡ g
          walking_onto = step_down l v t level w p h rule r.at r.reads r.is n first b from sound m ∙ sym down

          counted : g.entered ≡ w.entered + 1
          counted = ap (λ (y : Walk). y.entered) down ∙ descend_entered l v t h p w

          ends_next : walk_of l v t ≡ walk l v t level g
          ends_next = r.walking.ends ∙ walk_turn l v t level w (stands_going r) ∙ ap (walk l v t level) walking_onto

          pub walking_next : g.go ≡ true → Walking l v t g level
          walking_next e = record {
            going = λ z. e;
            used = λ z. (descend_keeps l v t h p w g down).inside e;
            kept = k;
            few = omega (arith, counted, r.walking.few);
            ends = ends_next;
          }

          -- it goes no further: no level is left to it
          pub walking_last : g.go ≡ false → Walking l v t g 0
          unfolding walk
          walking_last e = record {
            going = λ z. absurd (omega arith);
            used = λ z. absurd (omega arith);
            kept = k;
            few = omega (arith, counted, r.walking.few);
            ends = ends_next ∙ sym (walk_stop l v t level g e);
          }
