-- The build rule put to the record's entries and to the model's open nodes: the same verdict. Assumes nothing.
use Prim.Native.Nat.{ℕ, suc, ◌+◌, ◌<◌}
use mathlib.Core.Bool.{Bool, true, false, cond, ◌&&◌}
use mathlib.Core.Path.{◌≡◌, refl, sym, ap, ◌∙◌}
use mathlib.Core.List.{List, [], ◌∷◌, ◌++◌}
use native.Mathlib.Omega.{arith}
use native.Mathlib.Numerals.{add-one}
use lib.Dec.{ltb, leb}
use lib.ListN.{length}
use borrow.Author.Tests.{lt-ltb, le-ltb, ltb-true}
use Rattle.layout.specs.declared.Shape.{Shape}
use Rattle.record.specs.declared.Branch.{Branch}
use Rattle.record.specs.Levels.{children_at}
use Rattle.settle.specs.declared.Verdict.TheVariants.{Here, Chain, Close}
use Rattle.settle.specs.declared.Verdict as S
use Rattle.settle.specs.Settle.{ruled}
use Rattle.model.specs.Build as M
use Rattle.model.specs.Transient.{Interval}
use Rattle.model.specs.Build.{Subtrees, childless, also, Open, next, many, gathered, adopt, new_root, Verdict, grow, keep, shut, due, verdict, grown, ask, depth}
use Rattle.model.specs.Invariant.{HasChild}
use Rattle.model.proofs.NewRoot.{new_root_due}
use Rattle.represents.specs.Represents.{shape_of, Line, Lines, Ended}
use Rattle.represents.proofs.Lines.{counted}

abbrev pub said : Verdict → S.Verdict
said grow = Chain
said keep = Here
said shut = Close

said_by : (x y z : Bool) → cond x (cond y Chain Close) (cond z Here Close) ≡ said (cond x (cond y grow shut) (cond z keep shut))
said_by true true z = refl
said_by true false z = refl
said_by false y true = refl
said_by false y false = refl

-- there is an open child
abbrev pub has : List Open → Bool
has [] = false
has (g ∷ below) = true

pub has_low : (below : List Open) (low l : ℕ) → l ≡ low + length below → ltb low l ≡ has below
has_low [] low l e = le-ltb low l (omega arith)
has_low (g ∷ below) low l e = lt-ltb low l (omega arith)

-- what rule 1 asks of a node without open child: above level 0 it has a closed one, whose end is known
abbrev pub Askable : List Open → Open → ℕ → ℕ → Type 0
Askable [] f l last = (0 < l → HasChild f.closed) × Ended last f.closed
Askable (g ∷ below) f l last = Unit {0}

pub ended_next : (last a : ℕ) (k : Subtrees) → HasChild k → Ended last k → last + 1 ≡ next a k
ended_next last a childless f e = absurd f
ended_next last a (also ks h x k) f e = omega (arith, e)

due_same : (t : Bool) (l n last s : ℕ) → ltb 0 l ≡ t → (0 < l → last + 1 ≡ n) → (t && ltb last s) ≡ (t && leb n s)
due_same false l n last s e h = refl
due_same true l n last s e h = ap (λ (z : ℕ). leb z s) (sym (add-one last) ∙ h (ltb-true 0 l e))

pub ruled_said : (b : Branch) (sh s : Shape) (x l last : ℕ) (below : List Open) (f : Open) → sh ≡ s → Line b (counted below) l f → Askable below f l last
    → ruled b sh x l (has below) last ≡ said (verdict (shape_of s) below f x)
unfolding ruled
ruled_said b sh s x l last [] f r d w =
    let kids : children_at b l ≡ many f.closed = d.4 ∙ omega arith in
    let e : (ltb 0 l && ltb last x) ≡ due [] f x =
    due_same (ltb 0 l) l (next f.head.start f.closed) last x refl (λ p. ended_next last f.head.start f.closed (w.0 p) w.1)
    ∙ ap (λ (z : ℕ). ltb 0 z && leb (next f.head.start f.closed) x) (sym d.0) in
    (λ i. cond (e i) (cond (ltb (kids i) (r i).c) Chain Close) (cond (ltb (d.3 i) (r i).k) Here Close))
    ∙ said_by (due [] f x) (ltb (many f.closed) s.c) (ltb (length f.head.held) s.k)
ruled_said b sh s x l last (g ∷ below) f r d w =
    (λ i. cond (ltb (d.3 i) (r i).k) Here Close) ∙ said_by false (ltb (many f.closed) s.c) (ltb (length f.head.held) s.k)

-- ---- what a verdict tells

and_first : (a c : Bool) → (a && c) ≡ true → a ≡ true
and_first true c e = refl
and_first false c e = cc

verdict_grow : (x y z : Bool) → cond x (cond y grow shut) (cond z keep shut) ≡ grow → (x ≡ true) × (y ≡ true)
verdict_grow true true z e = (refl, refl)
verdict_grow true false z e = (refl, cc)
verdict_grow false y true e = (cc, cc)
verdict_grow false y false e = (cc, cc)

verdict_keep : (x y z : Bool) → cond x (cond y grow shut) (cond z keep shut) ≡ keep → z ≡ true
verdict_keep true true z e = cc
verdict_keep true false z e = cc
verdict_keep false y true e = refl
verdict_keep false y false e = cc

pub grows_told : (sh : M.Shape) (below : List Open) (f : Open) (x : ℕ) → verdict sh below f x ≡ grow
    → (below ≡ []) × (0 < f.head.level) × (many f.closed < sh.C)
grows_told sh [] f x e =
    let v = verdict_grow (due [] f x) (ltb (many f.closed) sh.C) (ltb (length f.head.held) sh.K) e in (
      refl,
      ltb-true 0 f.head.level (and_first (ltb 0 f.head.level) (leb (next f.head.start f.closed) x) v.0),
      ltb-true (many f.closed) sh.C v.1,
    )
grows_told sh (g ∷ below) f x e =
    let v = verdict_grow false (ltb (many f.closed) sh.C) (ltb (length f.head.held) sh.K) e in
    let z : ◌≡◌ {A = ℕ} 0 1 = cc v.0 in
    absurd (omega arith)

pub keeps_told : (sh : M.Shape) (below : List Open) (f : Open) (x : ℕ) → verdict sh below f x ≡ keep → length f.head.held < sh.K
keeps_told sh below f x e =
    ltb-true (length f.head.held) sh.K (verdict_keep (due below f x) (ltb (many f.closed) sh.C) (ltb (length f.head.held) sh.K) e)

-- ---- what the model makes of it

module _ (sh : M.Shape) (x : Interval) (o S q : ℕ) (below : List Open) (f : Open) where
  pub ask_grow : (above : List Open) → verdict sh below f x.start ≡ grow → ask sh x o S q below f above ≡ grown q x f above
  ask_grow [] e = rw (e, ask)
  ask_grow (p ∷ above) e = rw (e, ask)

  pub ask_keep : (above : List Open) → verdict sh below f x.start ≡ keep → ask sh x o S q below f above ≡ record { used = q; branch = below ++ M.store x f ∷ above }
  ask_keep [] e = rw (e, ask)
  ask_keep (p ∷ above) e = rw (e, ask)

  pub ask_root : verdict sh below f x.start ≡ shut
      → ask sh x o S q below f []
      ≡ (let r = new_root o S q (gathered S below f) in cond (ltb S x.start) (grown (suc q) x r []) (record { used = suc q; branch = M.store x r ∷ [] }))
  ask_root e = rw (e, ask, new_root_due o S q x.start (gathered S below f))

  pub ask_shut : (p : Open) (above : List Open) → verdict sh below f x.start ≡ shut
      → ask sh x o S q below f (p ∷ above) ≡ ask sh x o S q [] (adopt S (gathered S below f) p) above
  ask_shut p above e = rw (e, ask)

-- ---- the depth is the root's

pub depth_below : (below : List Open) (f : Open) (above : List Open) → depth (below ++ f ∷ above) ≡ depth (f ∷ above)
depth_below [] f above = refl
depth_below (g ∷ []) f above = refl
depth_below (g ∷ g' ∷ below) f above = depth_below (g' ∷ below) f above

pub depth_top : (b : Branch) (c l top : ℕ) (f : Open) (above : List Open) → top + 1 ≡ l + length (f ∷ above) → Lines b c l (f ∷ above) → depth (f ∷ above) ≡ suc top
depth_top b c l top f [] t d = omega (arith, d.0.0)
depth_top b c l top f (p ∷ above) t d = depth_top b 1 (l + 1) top p above (omega arith) d.1
