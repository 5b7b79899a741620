-- The loop of a full question's walk, which notes a node's entries after it has found the way down: each way through a turn. Assumes nothing.
use Rattle.std.specs.Prelude.{Option, Some, None, is_some, IfSome}
use Prim.Native.Nat.{ℕ, ◌+◌, ◌≤◌, ◌<◌}
use mathlib.Core.Path.{◌≡◌, refl, sym, ap, ◌∙◌}
use mathlib.Core.Bool.{Bool, true, false, not, ◌&&◌}
use mathlib.Core.List.{List}
use native.Mathlib.Omega.{arith}
use lib.ListN.{length, get_or}
use borrow.Author.Tests.{not-false}
use Rattle.layout.specs.declared.Header.{Header}
use Rattle.layout.specs.Layout.{entry_at}
use Rattle.record.specs.Refusals.{Damaged}
use Rattle.walk.specs.declared.View.{View}
use Rattle.walk.specs.Standing.{Walk}
use Rattle.walk.specs.declared.Rule.{Rule}
use Rattle.walk.specs.View.{Roomy}
use Rattle.walk.specs.Rules.{kept}
use Rattle.walk.specs.Walk.{root_of, all_sound, descend, step, walk_of}
use Rattle.questions.specs.Single.{entry_fine}
use Rattle.full_question.specs.Full.{Full, every_quark, refused_full, walked_full, walked_written}
use Rattle.full_question.specs.Table.{all_begun, note_all, note_at, found_from, found_all, once}
use Rattle.walk.proofs.Broken.{and_left}
use Rattle.walk.proofs.Turns.{Walking, Reading, stands_going, walking_root, walking_ends, walking_kept, walking_unsound, walking_onto, walking_next, walking_last}
use Rattle.full_question.proofs.Tables.{length_all, note_node, from_stop, from_turn}
use Rattle.full_question.proofs.Fulls.{all_found, all_alone, full_walk, full_many}
use Rattle.full_question.proofs.Once.{once_needed, from_lost, both_first, both_second, both_done, both_sound, both_once, second_found}

-- where the walk stands, after zs was found before it and xs so far, for none of a quarks twice
pub record Gathering (l : List ℕ) (v : View) (t a : ℕ) (zs : List ℕ) (w : Walk) (level : ℕ) (xs : List ℕ) : Type 0 where
  pub walking : Walking l v t w level
  pub long : length xs ≡ length zs
  pub ones : once a xs ≡ true
  pub finds : found_all l v t zs ≡ found_from l v t level w xs

-- what is told of it: the nodes entered, where no rule is broken, R7 by a second one among them
pub record Gathered (l : List ℕ) (v : View) (t a : ℕ) (zs : List ℕ) (r : Option ℕ) (xs : List ℕ) : Type 0 where
  pub told : is_some r ≡ (kept (walk_of l v t).rule && once a (found_all l v t zs))
  pub gathers : IfSome r (λ n. (n ≡ (walk_of l v t).entered) × (xs ≡ found_all l v t zs))

module _ (l : List ℕ) (v : View) (t a : ℕ) (zs : List ℕ) where
  pub gathering_root : (w : Walk) → Roomy v l → w ≡ root_of v → once a zs ≡ true → Gathering l v t a zs w (v.level + 1) zs
  unfolding found_all
  gathering_root w roomy e ones = record {
    walking = walking_root l v t w roomy e;
    long = refl;
    ones = ones;
    finds = ap (λ (y : Walk). found_from l v t (v.level + 1) y zs) (sym e);
  }

  -- ---- the end

  pub gathered_broken : (xs : List ℕ) → kept (walk_of l v t).rule ≡ false → Gathered l v t a zs None xs
  gathered_broken xs e = record { told = both_first _ _ e; gathers = tt }

  gathered_twice : (xs : List ℕ) → once a (found_all l v t zs) ≡ false → Gathered l v t a zs None xs
  gathered_twice xs e = record { told = both_second (kept (walk_of l v t).rule) _ e; gathers = tt }

  pub gathered_all : (w : Walk) (xs : List ℕ) → Gathering l v t a zs w 0 xs → Gathered l v t a zs (Some w.entered) xs
  unfolding found_from
  gathered_all w xs inv = record {
    told = both_done _ _ true (walking_kept l v t w inv.walking) (ap (once a) inv.finds ∙ inv.ones);
    gathers = (ap (λ (y : Walk). y.entered) (sym (walking_ends l v t w inv.walking)), sym inv.finds);
  }

  -- ---- a turn: b tells whether its entries keep R6 and none is a second one

  module _ (same : a ≡ v.attributes) (enough : a ≤ length zs) (w : Walk) (level : ℕ) (xs : List ℕ) (inv : Gathering l v t a zs w (level + 1) xs)
      (p : ℕ) (h : Header) (rule : Option Rule) (r : Reading l v t w level p h rule) (n : kept rule ≡ true) (first : ℕ) (from : first ≡ entry_at v.shape 0)
      (b : Bool) (tells : b ≡ (all_sound l a h (p + first) h.intervals true && once a (note_all l t (p + first) h.intervals xs))) where
    abbrev S : Bool
    S = all_sound l a h (p + first) h.intervals true

    abbrev ys : List ℕ
    ys = note_all l t (p + first) h.intervals xs

    is_sound : S ≡ all_sound l v.attributes h (p + first) h.intervals true
    is_sound = ap (λ (k : ℕ). all_sound l k h (p + first) h.intervals true) same

    noted : note_at l v t level w xs ≡ ys
    noted = note_node l v t level w xs p h first r.at r.reads (ap kept (sym r.is) ∙ n) from

    left : found_all l v t zs ≡ found_from l v t level (step l v t level w) ys
    left = inv.finds ∙ from_turn l v t level w xs (stands_going r) ∙ ap (found_from l v t level (step l v t level w)) noted

    pub gathered_stop : (zs' : List ℕ) → not b ≡ true → Gathered l v t a zs None zs'
    gathered_stop zs' m = go S refl
      where
        go : (s : Bool) → S ≡ s → Gathered l v t a zs None zs'
        go false e = gathered_broken zs' (walking_unsound l v t w level p h rule r n first S from is_sound e)
        go true e =
            gathered_twice zs'
            (ap (once a) left ∙ from_lost l t v a level (step l v t level w) ys (omega (arith, length_all l t (p + first) h.intervals xs, inv.long)) (second_found b S a ys tells m e))

    -- and no rule is broken on the way down to g
    module _ (m : not b ≡ false) (xs' : List ℕ) (notes : b ≡ true → xs' ≡ ys) (g : Walk) (down : g ≡ descend l v t h p w) (k : kept g.rule ≡ true) where
      sound : b ≡ all_sound l v.attributes h (p + first) h.intervals true
      sound = both_sound b S a ys tells m ∙ is_sound

      onward : (level' : ℕ) → Walking l v t g level' → found_from l v t level g xs' ≡ found_from l v t level' g xs' → Gathering l v t a zs g level' xs'
      onward level' walking e = record {
        walking = walking;
        long = ap length (notes (not-false b m)) ∙ length_all l t (p + first) h.intervals xs ∙ inv.long;
        ones = both_once b S a ys tells m xs' notes;
        finds = left ∙ ap (λ (y : Walk). found_from l v t level y ys) (walking_onto l v t w level p h rule r n first b from sound (not-false b m) g down k) ∙ ap (found_from l v t level g) (sym (notes (not-false b m))) ∙ e;
      }

      pub gathering_next : g.go ≡ true → Gathering l v t a zs g level xs'
      gathering_next e = onward level (walking_next l v t w level p h rule r n first b from sound (not-false b m) g down k e) refl

      -- it goes no further: no level is left to it
      pub gathering_last : g.go ≡ false → Gathering l v t a zs g 0 xs'
      unfolding found_from
      gathering_last e = onward 0 (walking_last l v t w level p h rule r n first b from sound (not-false b m) g down k e) (sym (from_stop l v t level g xs' e))

-- ---- what the question makes of it

pub gathered_kept : (l : List ℕ) (v : View) (t a : ℕ) (zs : List ℕ) → true ≡ (kept (walk_of l v t).rule && once a (found_all l v t zs)) → kept (walk_of l v t).rule ≡ true
gathered_kept l v t a zs told = and_left _ _ (sym told)

-- it breaks a rule, or finds a second one for a quark, and R7 fails: before it nothing is found, in zs, and the ongoing states are noted in ys
pub full_stop : (v : View) (t : ℕ) (l table : List ℕ) → Roomy v l → (zs : List ℕ) → v.attributes ≤ length zs → ((q : ℕ) → q < v.attributes → get_or zs q 0 ≡ 0)
    → (ys : List ℕ) (x : Bool) → x ≡ every_quark (λ q. entry_fine v q table) v.attributes → (x ≡ true → ys ≡ all_begun v t table zs) → not x ≡ false
    → (a : ℕ) → a ≡ v.attributes → false ≡ (kept (walk_of l v t).rule && once a (found_all l v t ys))
    → (at : ℕ) (answer : List ℕ) (r : Full) → r ≡ refused_full Damaged → (r ≡ walked_full v t l table) × (answer ≡ walked_written v t l table at answer)
full_stop v t l table roomy zs long blank ys x fine begins y a same told at answer r refuses = go (kept (walk_of l v t).rule) refl
  where
    F : List ℕ
    F = found_all l v t ys

    go : (k : Bool) → kept (walk_of l v t).rule ≡ k → (r ≡ walked_full v t l table) × (answer ≡ walked_written v t l table at answer)
    go false e = full_walk v t l table at answer r x fine y e refuses
    go true e =
        full_many v t l table at answer r x fine y e false
        (all_alone v t l table roomy zs long blank F (all_found l v t table zs ys F x begins y refl) false
        (once_needed v.attributes F (ap (λ (k : ℕ). once k F) (sym same) ∙ second_found false (kept (walk_of l v t).rule) a F told refl e)))
        refl refuses
