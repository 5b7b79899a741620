-- The loop of a single question's walk, which looks at a node's entries after it has found the way down: what it finds, turn by turn. Assumes nothing.
use Rattle.std.specs.Prelude.{Option}
use Prim.Native.Nat.{ℕ, ◌+◌}
use mathlib.Core.Path.{◌≡◌, refl, sym, ap, ◌∙◌}
use mathlib.Core.Bool.{true, false}
use mathlib.Core.List.{List}
use Rattle.layout.specs.declared.Header.{Header}
use Rattle.layout.specs.Layout.{entry_at}
use Rattle.walk.specs.declared.View.{View}
use Rattle.walk.specs.Standing.{Walk}
use Rattle.walk.specs.declared.Rule.{Rule}
use Rattle.walk.specs.View.{Roomy}
use Rattle.walk.specs.Rules.{kept}
use Rattle.walk.specs.Walk.{root_of, all_sound, descend, walk_of}
use Rattle.questions.specs.Found.{look, look_at, found, found_of}
use Rattle.walk.proofs.Turns.{Walking, Reading, stands_going, walking_root, walking_ends, walking_kept, walking_onto, walking_next, walking_last}
use Rattle.questions.proofs.Finds.{look_node, found_stop, found_turn}

-- where the walk stands, after s was found for q so far
pub record Finding (l : List ℕ) (v : View) (q t : ℕ) (w : Walk) (level s : ℕ) : Type 0 where
  pub walking : Walking l v t w level
  pub finds : found_of l v q t ≡ found l v q t level w s

module _ (l : List ℕ) (v : View) (q t : ℕ) where
  pub finding_root : (w : Walk) → Roomy v l → w ≡ root_of v → Finding l v q t w (v.level + 1) 0
  unfolding found_of
  finding_root w roomy e = record { walking = walking_root l v t w roomy e; finds = ap (λ (y : Walk). found l v q t (v.level + 1) y 0) (sym e) }

  -- the end
  pub finding_ends : (w : Walk) (s : ℕ) → Finding l v q t w 0 s
      → record { kept : true ≡ kept (walk_of l v t).rule; finds : (w.entered ≡ (walk_of l v t).entered) × (s ≡ found_of l v q t) }
  unfolding found
  finding_ends w s inv = record {
    kept = sym (walking_kept l v t w inv.walking);
    finds = (ap (λ (y : Walk). y.entered) (sym (walking_ends l v t w inv.walking)), sym inv.finds);
  }

  -- a turn: the node's entries are sound, and no rule is broken on the way down to g
  module _ (w : Walk) (level s : ℕ) (inv : Finding l v q t w (level + 1) s) (p : ℕ) (h : Header) (rule : Option Rule) (r : Reading l v t w level p h rule) (n : kept rule ≡ true)
      (first : ℕ) (from : first ≡ entry_at v.shape 0) (sound : true ≡ all_sound l v.attributes h (p + first) h.intervals true)
      (s' : ℕ) (finds : s' ≡ look l q t (p + first) h.intervals s) (g : Walk) (down : g ≡ descend l v t h p w) (k : kept g.rule ≡ true) where
    found_here : look_at l v q t level w s ≡ s'
    found_here = look_node l v q t level w s p h first r.at r.reads (ap kept (sym r.is) ∙ n) from ∙ sym finds

    onward : (level' : ℕ) → Walking l v t g level' → found l v q t level g s' ≡ found l v q t level' g s' → Finding l v q t g level' s'
    onward level' walking e = record {
      walking = walking;
      finds =
          inv.finds ∙ found_turn l v q t level w s (stands_going r)
          ∙ ap (λ (y : Walk). found l v q t level y (look_at l v q t level w s)) (walking_onto l v t w level p h rule r n first true from sound refl g down k)
          ∙ ap (found l v q t level g) found_here ∙ e;
    }

    pub finding_next : g.go ≡ true → Finding l v q t g level s'
    finding_next e = onward level (walking_next l v t w level p h rule r n first true from sound refl g down k e) refl

    -- it goes no further: no level is left to it
    pub finding_last : g.go ≡ false → Finding l v q t g 0 s'
    unfolding found
    finding_last e = onward 0 (walking_last l v t w level p h rule r n first true from sound refl g down k e) (sym (found_stop l v q t level g s' e))
