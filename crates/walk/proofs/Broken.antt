-- R1 to R5: what a header that breaks none has. Assumes nothing.
use Rattle.std.specs.Prelude.{Option, Some, None, is_some, IfSome, ◌<◌}
use Rattle.std.proofs.Common.{◌≡◌, ℕ, ◌≤◌, Bool, true, false, cond, ◌&&◌, T, leb, sym, refl, ap, ◌∙◌, subst, leb-true, arith}
use Rattle.layout.specs.declared.Header.{Header}
use Rattle.walk.specs.declared.View.{View}
use Rattle.walk.specs.Standing.{Walk}
use Rattle.walk.specs.declared.Rule.{Rule}
use Rattle.walk.specs.declared.Rule.TheVariants.{R1, R2, R3, R4, R5}
use Rattle.walk.specs.Rules.{r1, r2, r3, r4, r5, broken, kept}

-- ---- tests that hold together

pub and_left : (x y : Bool) → x && y ≡ true → x ≡ true
and_left true y e = refl
and_left false y e = e

pub and_right : (x y : Bool) → x && y ≡ true → y ≡ true
and_right true y e = e
and_right false y e = absurd (subst T (sym e) tt)

pub and_no : (x y : Bool) → y ≡ false → x && y ≡ false
and_no true y e = e
and_no false y e = refl

pub false_is : false ≡ true → ⊥
false_is e = subst T (sym e) tt

-- what the code tests of a rule
pub is_kept : (rule : Option Rule) (x : Bool) → x ≡ is_some rule → x ≡ false → kept rule ≡ true
is_kept None x e f = refl
is_kept (Some r) x e f = absurd (subst T (sym e ∙ f) tt)

pub is_broken : (rule : Option Rule) (x : Bool) → x ≡ is_some rule → x ≡ true → kept rule ≡ false
is_broken None x e f = absurd (subst T (sym f ∙ e) tt)
is_broken (Some r) x e f = refl

-- a child that was picked is one of those that there is room for
pub picked_among : (picked : Option ℕ) (n c : ℕ) → IfSome picked (λ i. i < n) → n ≤ c → (i : ℕ) → picked ≡ Some i → i < c
picked_among None n c among le i e = absurd (false_is (ap is_some e))
picked_among (Some j) n c among le i e = let z : j ≡ i = cc in omega arith

-- ---- the bounds of a header that keeps R3 are in order, its counts, as it keeps R4, within K and C

pub record Fitting (v : View) (h : Header) : Type 0 where
  pub bounds : h.start ≤ h.end
  pub intervals : h.intervals ≤ v.shape.k
  pub children : h.children ≤ v.shape.c

fits : (v : View) (h : Header) → r3 h ≡ true → r4 v h ≡ true → Fitting v h
unfolding r3 r4
fits v h d e =
    let f = and_left (leb h.intervals v.shape.k && leb h.children v.shape.c) _ e in
    record { bounds = leb-true _ _ (and_left _ _ d); intervals = leb-true _ _ (and_left _ _ f); children = leb-true _ _ (and_right (leb h.intervals v.shape.k) _ f) }

pub kept_fits : (v : View) (w : Walk) (level : ℕ) (h : Header) → kept (broken v w level h) ≡ true → Fitting v h
unfolding broken
kept_fits v w level h e = go (r1 v w h) (r2 level h) (r3 h) (r4 v h) (r5 w h) refl refl e
  where
    go : (a b d e f : Bool) → r3 h ≡ d → r4 v h ≡ e → kept (cond a (cond b (cond d (cond e (cond f None (Some R5)) (Some R4)) (Some R3)) (Some R2)) (Some R1)) ≡ true → Fitting v h
    go true true true true f z y x = fits v h z y
    go true true true false f z y x = absurd (subst T (sym x) tt)
    go true true false e f z y x = absurd (subst T (sym x) tt)
    go true false d e f z y x = absurd (subst T (sym x) tt)
    go false b d e f z y x = absurd (subst T (sym x) tt)

pub broken_fits : (v : View) (w : Walk) (level : ℕ) (h : Header) (rule : Option Rule) → rule ≡ broken v w level h → kept rule ≡ true → Fitting v h
broken_fits v w level h rule is good = kept_fits v w level h (ap kept (sym is) ∙ good)
