-- The walk: each way through its definitions, turn by turn. Assumes nothing.
use Rattle.std.specs.Prelude.{Option, Some, None, Result, Ok, Err}
use Rattle.std.proofs.Common.{◌≡◌, ℕ, zero, suc, ◌+◌, ◌-◌, ◌*◌, ◌<◌, ◌≤◌, Bool, false, cond, leb, List, sym, ap, ◌∙◌, arith, le-leb}
use borrow.Author.Tests.{lt-leb}
use Rattle.layout.specs.declared.Header.{Header}
use Rattle.layout.specs.Layout.{child_size, child_at, read_child}
use Rattle.words.specs.Words.{num}
use Rattle.walk.specs.declared.View.{View}
use Rattle.walk.specs.declared.Breach.{Breach}
use Rattle.walk.specs.declared.Due.{Due}
use Rattle.walk.specs.Rules.{kept}
use Rattle.walk.specs.Standing.{Walk, due_at}
use Rattle.walk.specs.Walk.{counted, ended, after, pick, down_to, descend}

-- ---- the child taken: looked for from the last entry down

-- of one more entry: that one, or the last of those before it
pick_last : (l : List ℕ) (t p i n : ℕ) (k : Option ℕ) → pick l t p i (suc n) k ≡ cond (leb (read_child l (p + child_size * n)).start t) (Some (i + n)) (pick l t p i n k)
unfolding pick
pick_last l t p i zero k =
    let e : p ≡ p + child_size * 0 = omega arith in
    let f : i ≡ i + 0 = omega arith in
    ap (λ (x : ℕ). cond (leb (read_child l x).start t) (Some i) k) e ∙ ap (λ (x : ℕ). cond (leb (read_child l (p + child_size * 0)).start t) (Some x) k) f
pick_last l t p i (suc n) k =
    let e : p + child_size + child_size * n ≡ p + child_size * suc n = omega arith in
    let f : i + 1 + n ≡ i + suc n = omega arith in
    pick_last l t (p + child_size) (i + 1) n (cond (leb (read_child l p).start t) (Some i) k)
    ∙ ap (λ (x : ℕ). cond (leb (read_child l x).start t) (Some (i + 1 + n)) (pick l t p i (suc n) k)) e
    ∙ ap (λ (x : ℕ). cond (leb (read_child l (p + child_size * suc n)).start t) (Some x) (pick l t p i (suc n) k)) f

-- start: of the last of i entries
module _ (l : List ℕ) (t at i start : ℕ) (some : 0 < i) (is : start ≡ num l (at + child_size * (i - 1) + 4) 8) where
  last : pick l t at 0 i None ≡ cond (leb start t) (Some (i - 1)) (pick l t at 0 (i - 1) None)
  last =
      let e : i ≡ suc (i - 1) = omega arith in
      let f : 0 + (i - 1) ≡ i - 1 = omega arith in
      ap (λ (m : ℕ). pick l t at 0 m None) e
      ∙ pick_last l t at 0 (i - 1) None
      ∙ ap (λ (m : ℕ). cond (leb (read_child l (at + child_size * (i - 1))).start t) (Some m) (pick l t at 0 (i - 1) None)) f
      ∙ ap (λ (x : ℕ). cond (leb x t) (Some (i - 1)) (pick l t at 0 (i - 1) None)) (sym is)

  pub pick_here : start ≤ t → pick l t at 0 i None ≡ Some (i - 1)
  pick_here h = last ∙ ap (λ (b : Bool). cond b (Some (i - 1)) (pick l t at 0 (i - 1) None)) (le-leb start t h)

  pub pick_before : t < start → pick l t at 0 i None ≡ pick l t at 0 (i - 1) None
  pick_before h = last ∙ ap (λ (b : Bool). cond b (Some (i - 1)) (pick l t at 0 (i - 1) None)) (lt-leb start t h)

pub pick_none : (l : List ℕ) (t at i : ℕ) → i ≤ 0 → pick l t at 0 i None ≡ None
unfolding pick
pick_none l t at i h = let e : i ≡ 0 = omega arith in ap (λ (m : ℕ). pick l t at 0 m None) e

-- ---- down from a node, as the code tells the way

module _ (l : List ℕ) (v : View) (t : ℕ) (h : Header) (p : ℕ) (w : Walk) (at : ℕ) (picked : Option ℕ) (r : Result (Option Due) Breach)
    (is : at ≡ child_at 0) (picks : picked ≡ pick l t (p + at) 0 h.children None) (gives : (x : Walk) → after x r ≡ down_to l v t h p picked x) where
  went : after (counted w) r ≡ descend l v t h p w
  unfolding descend
  went = rw (← is, ← picks) (gives (counted w))

  -- the child breaks a rule
  pub down_broken : (b : Breach) → r ≡ Err b → kept (descend l v t h p w).rule ≡ false
  unfolding ended
  down_broken b e = ap (λ (x : Walk). kept x.rule) (sym went ∙ ap (after (counted w)) e)

  -- no child holds t
  pub down_ended : r ≡ Ok None → ended (counted w) None (counted w).place ≡ descend l v t h p w
  down_ended e = ap (after (counted w)) (sym e) ∙ went

  pub down_onto : (d : Due) → r ≡ Ok (Some d) → due_at d (w.entered + 1) ≡ descend l v t h p w
  unfolding counted
  down_onto d e = ap (after (counted w)) (sym e) ∙ went
