-- The walk, node by node: R6 over the entries, what a step keeps, and where the walk ends. Assumes nothing.
use Rattle.std.specs.Prelude.{Option, Some, None}
use Rattle.std.proofs.Common.{◌≡◌, ℕ, zero, suc, ◌+◌, ◌-◌, ◌<◌, ◌≤◌, Bool, true, false, cond, not, ◌&&◌, ltb, List, sym, refl, ap, ◌∙◌, subst, arith, add-one, ltb-true}
use borrow.Author.Tests.{not-true, not-false}
use Rattle.layout.specs.declared.Child.{Child}
use Rattle.layout.specs.declared.Entry.{Entry}
use Rattle.layout.specs.declared.Header.{Header}
use Rattle.layout.specs.declared.Seq.{Seq}
use Rattle.layout.specs.Layout.{entry_size, child_at, entry_at, read_header, read_child, read_entry}
use Rattle.transient.specs.Transient.{state_sound}
use Rattle.walk.specs.declared.View.{View}
use Rattle.walk.specs.Standing.{Walk}
use Rattle.walk.specs.declared.Rule.{Rule}
use Rattle.walk.specs.declared.Rule.TheVariants.{R1, R6}
use Rattle.walk.specs.Rules.{broken, kept, entry_sound, holds}
use Rattle.walk.specs.Since.{entry_fits}
use Rattle.walk.specs.Walk.{place_of, root_of, ended, counted, onward, all_sound, pick, child, down_to, descend, inside, enter, step, walk}
use Rattle.walk.proofs.Broken.{false_is, and_no}
use Rattle.walk.proofs.Entries.{sound_both}

-- ---- R6 over the entries

-- after one that breaks it the others make no difference
sound_lost : (l : List ℕ) (a : ℕ) (h : Header) (p n : ℕ) → all_sound l a h p n false ≡ false
unfolding all_sound
sound_lost l a h p zero = refl
sound_lost l a h p (suc n) = sound_lost l a h (p + entry_size) n

-- b: of those before; f: the next entry fits
module _ (l : List ℕ) (a : ℕ) (h : Header) (p n i : ℕ) (b : Bool) where
  module _ (e : Entry) (f : Bool) (is : e ≡ read_entry l p) (gives : f ≡ entry_fits a h.start h.end e) (lt : i < n) where
    turn : all_sound l a h p (n - i) b ≡ all_sound l a h (p + entry_size) (n - (i + 1)) (b && (f && state_sound e.kind e.value))
    unfolding all_sound
    turn =
        let z : n - i ≡ suc (n - (i + 1)) = omega arith in
        let y : entry_sound a h (read_entry l p) ≡ (f && state_sound e.kind e.value) = ap (entry_sound a h) (sym is) ∙ sound_both a h e ∙ ap (λ (x : Bool). x && state_sound e.kind e.value) (sym gives) in
        ap (λ (k : ℕ). all_sound l a h p k b) z ∙ ap (λ (x : Bool). all_sound l a h (p + entry_size) (n - (i + 1)) (b && x)) y

    pub sound_turn : (b' : Bool) → b' ≡ (b && state_sound e.kind e.value) → not f ≡ false → (q : ℕ) → p + entry_size ≡ q → all_sound l a h p (n - i) b ≡ all_sound l a h q (n - (i + 1)) b'
    sound_turn b' more y q next =
        turn ∙ ap (λ (x : Bool). all_sound l a h (p + entry_size) (n - (i + 1)) (b && (x && state_sound e.kind e.value))) (not-false f y)
        ∙ ap (all_sound l a h (p + entry_size) (n - (i + 1))) (sym more) ∙ ap (λ (k : ℕ). all_sound l a h k (n - (i + 1)) b') next

    pub sound_stop : not f ≡ true → all_sound l a h p (n - i) b ≡ false
    sound_stop y =
        turn ∙ ap (λ (x : Bool). all_sound l a h (p + entry_size) (n - (i + 1)) (b && (x && state_sound e.kind e.value))) (not-true f y)
        ∙ ap (all_sound l a h (p + entry_size) (n - (i + 1))) (and_no b false refl) ∙ sound_lost l a h (p + entry_size) (n - (i + 1))

  pub sound_done : n ≤ i → all_sound l a h p (n - i) b ≡ b
  unfolding all_sound
  sound_done le = let z : n - i ≡ 0 = omega arith in ap (λ (k : ℕ). all_sound l a h p k b) z

-- ---- a step stays within the used nodes, and goes on only where no rule is broken

pub record Keeps (v : View) (r : Walk) : Type 0 where
  pub inside : r.go ≡ true → r.place.0 < v.used
  pub well : r.go ≡ true → kept r.rule ≡ true

ended_keeps : (v : View) (w : Walk) (rule : Option Rule) (place : Seq) → Keeps v (ended w rule place)
unfolding ended
ended_keeps v w rule place = record { inside = λ e. absurd (false_is e); well = λ e. absurd (false_is e) }

child_keeps : (l : List ℕ) (v : View) (t end : ℕ) (c : Child) (w : Walk) → Keeps v (child l v t end c w)
unfolding child onward
child_keeps l v t end c w = go (ltb c.sequence.0 v.used) (holds t (read_header l (place_of v c.sequence))) refl
  where
    on : c.sequence.0 < v.used → Keeps v (onward w c end)
    on lt = record { inside = λ e. lt; well = λ e. refl }

    go : (a b : Bool) → ltb c.sequence.0 v.used ≡ a → Keeps v (cond a (cond b (onward w c end) (ended w None w.place)) (ended w (Some R1) c.sequence))
    go true true e = on (ltb-true _ _ e)
    go true false e = ended_keeps v w None w.place
    go false b e = ended_keeps v w (Some R1) c.sequence

down_keeps : (l : List ℕ) (v : View) (t : ℕ) (h : Header) (p : ℕ) (picked : Option ℕ) (w : Walk) → Keeps v (down_to l v t h p picked w)
unfolding down_to
down_keeps l v t h p None w = ended_keeps v w None w.place
down_keeps l v t h p (Some i) w = child_keeps l v t h.end (read_child l (p + child_at i)) w

pub descend_keeps : (l : List ℕ) (v : View) (t : ℕ) (h : Header) (p : ℕ) (w r : Walk) → r ≡ descend l v t h p w → Keeps v r
unfolding descend counted
descend_keeps l v t h p w r is =
    subst (Keeps v) (sym is) (down_keeps l v t h p (pick l t (p + child_at 0) 0 h.children None) (counted w))

inside_keeps : (l : List ℕ) (v : View) (t : ℕ) (h : Header) (p : ℕ) (w : Walk) → Keeps v (inside l v t h p w)
unfolding inside
inside_keeps l v t h p w = go (all_sound l v.attributes h (p + entry_at v.shape 0) h.intervals true)
  where
    go : (a : Bool) → Keeps v (cond a (descend l v t h p w) (ended w (Some R6) w.place))
    go true = descend_keeps l v t h p w (descend l v t h p w) refl
    go false = ended_keeps v w (Some R6) w.place

pub step_keeps : (l : List ℕ) (v : View) (t level : ℕ) (w r : Walk) → r ≡ step l v t level w → Keeps v r
unfolding step enter
step_keeps l v t level w r is = subst (Keeps v) (sym is) (go (kept (broken v w level (read_header l (place_of v w.place)))))
  where
    go : (a : Bool) → Keeps v (cond a (inside l v t (read_header l (place_of v w.place)) (place_of v w.place) w) (ended w (broken v w level (read_header l (place_of v w.place))) w.place))
    go true = inside_keeps l v t (read_header l (place_of v w.place)) (place_of v w.place) w
    go false = ended_keeps v w (broken v w level (read_header l (place_of v w.place))) w.place

-- ---- a way down counts the node that it leaves

child_entered : (l : List ℕ) (v : View) (t end : ℕ) (c : Child) (w : Walk) → (child l v t end c w).entered ≡ w.entered
unfolding child onward ended
child_entered l v t end c w = go (ltb c.sequence.0 v.used) (holds t (read_header l (place_of v c.sequence)))
  where
    go : (a b : Bool) → (cond a (cond b (onward w c end) (ended w None w.place)) (ended w (Some R1) c.sequence)).entered ≡ w.entered
    go true true = refl
    go true false = refl
    go false b = refl

down_entered : (l : List ℕ) (v : View) (t : ℕ) (h : Header) (p : ℕ) (picked : Option ℕ) (w : Walk) → (down_to l v t h p picked w).entered ≡ w.entered
unfolding down_to ended
down_entered l v t h p None w = refl
down_entered l v t h p (Some i) w = child_entered l v t h.end (read_child l (p + child_at i)) w

pub descend_entered : (l : List ℕ) (v : View) (t : ℕ) (h : Header) (p : ℕ) (w : Walk) → (descend l v t h p w).entered ≡ w.entered + 1
unfolding descend counted
descend_entered l v t h p w = down_entered l v t h p (pick l t (p + child_at 0) 0 h.children None) (counted w)

-- ---- the node at which the walk stands, its header h at byte p: R1 to R5, then R6, then down

module _ (l : List ℕ) (v : View) (t level : ℕ) (w : Walk) (p : ℕ) (h : Header) (rule : Option Rule)
    (at : p ≡ place_of v w.place) (reads : h ≡ read_header l p) (is : rule ≡ broken v w level h) where
  stands : step l v t level w ≡ enter l v t level h p w
  unfolding step
  stands =
      let f : read_header l (place_of v w.place) ≡ h = sym (reads ∙ ap (read_header l) at) in
      ap (λ (y : Header). enter l v t level y (place_of v w.place) w) f ∙ ap (λ (k : ℕ). enter l v t level h k w) (sym at)

  pub step_bad : kept rule ≡ false → kept (step l v t level w).rule ≡ false
  unfolding enter ended
  step_bad n = rw (stands, ← is, n) n

  module _ (n : kept rule ≡ true) where
    enters : step l v t level w ≡ inside l v t h p w
    unfolding enter
    enters = rw (stands, ← is, n)

    -- whether R6 is tested before or after the way down is found, a rule is broken
    pub step_past : kept (descend l v t h p w).rule ≡ false → kept (step l v t level w).rule ≡ false
    unfolding inside ended
    step_past e = rw enters (go (all_sound l v.attributes h (p + entry_at v.shape 0) h.intervals true))
      where
        go : (b : Bool) → kept (cond b (descend l v t h p w) (ended w (Some R6) w.place)).rule ≡ false
        go true = e
        go false = refl

    module _ (first : ℕ) (b : Bool) (from : first ≡ entry_at v.shape 0) (sound : b ≡ all_sound l v.attributes h (p + first) h.intervals true) where
      pub step_unsound : b ≡ false → kept (step l v t level w).rule ≡ false
      unfolding inside ended
      step_unsound m = rw (enters, ← from, ← sound, m)

      pub step_down : b ≡ true → step l v t level w ≡ descend l v t h p w
      unfolding inside
      step_down m = rw (enters, ← from, ← sound, m)

-- ---- where the walk goes on, where it ends, and where it begins

module _ (l : List ℕ) (v : View) (t : ℕ) where
  pub walk_stop : (n : ℕ) (w : Walk) → w.go ≡ false → w ≡ walk l v t n w
  unfolding walk
  walk_stop zero w e = refl
  walk_stop (suc n) w e = sym (ap (λ (b : Bool). cond b (walk l v t n (step l v t n w)) w) e)

  walk_on : (n : ℕ) (w : Walk) → w.go ≡ true → walk l v t (suc n) w ≡ walk l v t n (step l v t n w)
  unfolding walk
  walk_on n w going = ap (λ (b : Bool). cond b (walk l v t n (step l v t n w)) w) going

  module _ (n : ℕ) (w : Walk) (going : w.go ≡ true) where
    pub walk_turn : walk l v t (n + 1) w ≡ walk l v t n (step l v t n w)
    walk_turn = ap (λ (k : ℕ). walk l v t k w) (add-one n) ∙ walk_on n w going

    pub walk_bad : kept (step l v t n w).rule ≡ false → kept (walk l v t (n + 1) w).rule ≡ false
    walk_bad bad = ap (λ (r : Walk). kept r.rule) walk_turn ∙ go (step l v t n w).go refl
      where
        go : (b : Bool) → (step l v t n w).go ≡ b → kept (walk l v t n (step l v t n w)).rule ≡ false
        go true e = absurd (false_is (sym bad ∙ (step_keeps l v t n w (step l v t n w) refl).well e))
        go false e = ap (λ (r : Walk). kept r.rule) (sym (walk_stop n (step l v t n w) e)) ∙ bad

pub root_inside : (v : View) (w : Walk) → w ≡ root_of v → v.root.0 < v.used → w.go ≡ true → w.place.0 < v.used
unfolding root_of
root_inside v w e h g = rw e h
