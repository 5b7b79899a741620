-- The walk answers as the scan does, and enters as many nodes as hold t.
use Prim.Native.Nat.{ℕ, zero, suc, ◌^◌, ◌≤◌, ◌<◌}
use mathlib.Core.Bool.{Bool, true, false, cond, ◌&&◌, and-false}
use mathlib.Core.Path.{◌≡◌, refl, sym, ap, ◌∙◌, subst}
use mathlib.Core.List.{List, [], ◌∷◌, ◌++◌, tail-eq_of_cons-eq, Permᴰ}
use mathlib.Core.Option.{Option, none, some}
use native.Mathlib.Omega.{arith}
use lib.Dec.{leb, eqb}
use lib.ListN.{length}
use borrow.Author.Tests.{leb-true, le-leb}
use Rattle.model.specs.Transient.{Interval, Call, History, history}
use Rattle.model.specs.Build.{Subtrees, childless, also, Shape, insert, build}
use Rattle.model.specs.Nodes.{Node, preorder, nodes, intervals, ∞, open_end, tree_of, standing}
use Rattle.model.specs.Questions.{holds, walk, only, covers, current, scan, scans, tally, answer, single, each, full, said, ongoing}
use Rattle.model.specs.Invariant.{Shaped, Inside, Good, Branch}
use Rattle.model.proofs.EachNode.{nodes_perm}
use Rattle.model.proofs.Keep.{build_sound, build_start, close_all_good}
use Rattle.model.proofs.Legal.{Legal}
use Rattle.model.proofs.Lists.{only_append, perm_only, perm_none, perm_one, perm_length}
use Rattle.model.proofs.Once.{all_once}
use Rattle.model.proofs.Running.{Capped}
use Rattle.model.proofs.Storable.{storable}
use Rattle.model.proofs.Told.{told}
use Rattle.model.proofs.Walk.{hit}

-- an interval that covers t lies in a node that holds t
inside_miss : (q t a e : ℕ) (xs : List Interval) → Inside a e xs → (leb a t && leb t e) ≡ false → only (covers q t) xs ≡ []
inside_miss q t a e [] i h = refl
inside_miss q t a e (x ∷ xs) i h = rw (out (leb x.start t) (leb t x.end) refl refl, and-false (eqb x.quark q)) (inside_miss q t a e xs i.3 h)
  where
    no_hold : a ≤ t → t ≤ e → ◌≡◌ {A = Bool} true false
    no_hold u w = rw (le-leb a t u, le-leb t e w) at h

    out : (b c : Bool) → leb x.start t ≡ b → leb t x.end ≡ c → (leb x.start t && leb t x.end) ≡ false
    out true true u w = rw (u, w) (no_hold (omega (arith, leb-true x.start t u)) (omega (arith, leb-true t x.end w)))
    out true false u w = rw (u, w)
    out false c u w = rw u

abbrev AllIn : List Node → Type 0
AllIn [] = Unit {0}
AllIn (n ∷ ns) = Inside n.start n.end n.held × AllIn ns

all_append : (xs ys : List Node) → AllIn xs → AllIn ys → AllIn (xs ++ ys)
all_append [] ys a b = b
all_append (x ∷ xs) ys a b = (a.0, all_append xs ys a.1 b)

preorder_in : (l a : ℕ) (p : Option ℕ) (ks : Subtrees) → Good l a ks → AllIn (preorder p ks)
preorder_in l a p childless g = tt
preorder_in zero a p (also ks h e k) g = absurd g
preorder_in (suc l) a p (also ks h e k) g =
    all_append (preorder p ks) _ (preorder_in (suc l) a p ks g.0) (g.1.inside, preorder_in l h.start (some h.seq) k g.2)

held_only : (q t : ℕ) (ns : List Node) → AllIn ns → only (covers q t) (intervals ns) ≡ only (covers q t) (intervals (only (holds t) ns))
held_only q t [] a = refl
held_only q t (n ∷ ns) a = only_append (covers q t) n.held (intervals ns) ∙ go (holds t n) refl (held_only q t ns a.1)
  where
    go : (b : Bool) → holds t n ≡ b → only (covers q t) (intervals ns) ≡ only (covers q t) (intervals (only (holds t) ns))
        → only (covers q t) n.held ++ only (covers q t) (intervals ns) ≡ only (covers q t) (intervals (cond b (n ∷ only (holds t) ns) (only (holds t) ns)))
    go true e r = ap (λ z. only (covers q t) n.held ++ z) r ∙ sym (only_append (covers q t) n.held _)
    go false e r = ap (λ z. z ++ only (covers q t) (intervals ns)) (inside_miss q t n.start n.end n.held a.0 e) ∙ r

walk_covers : (q t l a : ℕ) (p : Option ℕ) (ks : Subtrees) → Good l a ks
    → only (covers q t) (intervals (walk t p ks)) ≡ only (covers q t) (intervals (preorder p ks))
walk_covers q t l a p ks g = rw (← hit t l a p ks g) (sym (held_only q t (preorder p ks) (preorder_in l a p ks g)))

pub build_largest : (sh : Shape) (o e : ℕ) (ivs : List Interval) → o ≤ e → Capped e ivs → (build sh o ivs).largest ≤ e
unfolding build insert
build_largest sh o e [] h c = h
build_largest sh o e (iv ∷ ivs) h c = let i = build_largest sh o e ivs h c.1 in omega arith

pub open_end_late : (l : History) → l.latest < 2 ^ 63 → l.latest ≤ open_end l
open_end_late l h = go l.finished
  where
    go : (b : Bool) → l.latest ≤ cond b l.latest ∞
    go true = omega arith
    go false = omega arith

-- at most one interval covers: its order does not matter
perm_short : {u z : List Interval} {x : Interval} → Permᴰ u z → (c : List Interval) → c ++ z ≡ x ∷ [] → u ≡ z
perm_short m [] e = perm_one m e ∙ sym e
perm_short m (y ∷ []) e = let f = tail-eq_of_cons-eq e in perm_none m f ∙ sym f
perm_short m (y ∷ y' ∷ c) e = let f = tail-eq_of_cons-eq e in cc f

answer_scan : (q t : ℕ) (x : Interval) (w : List Node) (z : List Interval) → only (covers q t) (intervals w) ≡ z → (c : List Interval)
    → c ++ z ≡ x ∷ [] → (answer c w q t).found ≡ c ++ z
answer_scan q t x w z s [] e = s
answer_scan q t x w z s (y ∷ []) e = ap (λ u. y ∷ u) (sym (tail-eq_of_cons-eq e))
answer_scan q t x w z s (y ∷ y' ∷ c) e = let f = tail-eq_of_cons-eq e in cc f

module _ (sh : Shape) (s n : ℕ) (cs : List Call) (shaped : Shaped sh) (legal : Legal s n cs) where
  pub standing_good : (k : ℕ) × Good k (history s n cs).start (standing sh (history s n cs))
  unfolding standing
  standing_good =
      let l = history s n cs in
      let c = storable s n cs legal in
      let t = tree_of sh l in
      let late : t.largest ≤ open_end l = omega (arith, build_largest sh l.start l.latest l.stored c.low c.capped, open_end_late l c.high) in
      let sound = build_sound sh l.start l.stored shaped c.sane in
      let branch = subst (λ (o : ℕ). Branch o t.largest t.branch) (build_start sh l.start l.stored) sound.branch in
      close_all_good l.start t.largest (open_end l) t.branch late branch

  -- the nodes entered are those of all nodes that hold t, so their number is the tally
  pub entered_nodes : (t : ℕ) → walk t none (standing sh (history s n cs)) ≡ only (holds t) (preorder none (standing sh (history s n cs)))
  entered_nodes t = let g = standing_good in sym (hit t g.0 (history s n cs).start none (standing sh (history s n cs)) g.1)

  pub entered_tally : (t : ℕ) → length (walk t none (standing sh (history s n cs))) ≡ tally t (nodes (standing sh (history s n cs)))
  unfolding tally standing
  entered_tally t =
      ap length (entered_nodes t)
      ∙ sym (perm_length (perm_only (holds t) (nodes_perm (open_end (history s n cs)) (tree_of sh (history s n cs)).branch)))

  pub stands_once : Permᴰ (intervals (preorder none (standing sh (history s n cs)))) (history s n cs).stored
  unfolding standing
  stands_once = let l = history s n cs in all_once sh l.start (open_end l) l.stored shaped (storable s n cs legal).sane

  -- what the walk sees of an attribute is what was stored of it
  pub seen : (q t : ℕ) → q < (history s n cs).attributes → (history s n cs).start ≤ t → t ≤ (history s n cs).latest
      → only (covers q t) (intervals (walk t none (standing sh (history s n cs)))) ≡ only (covers q t) (history s n cs).stored
  unfolding scan
  seen q t h i j = let l = history s n cs in let g = standing_good in
      walk_covers q t g.0 l.start none (standing sh l) g.1
      ∙ perm_short (perm_only (covers q t) stands_once) (current l q t) (told s n cs q t legal h i j).1

  -- so exactly one interval is found over walk and table
  pub found_one : (q t : ℕ) → q < (history s n cs).attributes → (history s n cs).start ≤ t → t ≤ (history s n cs).latest
      → (x : Interval) × (current (history s n cs) q t ++ only (covers q t) (intervals (walk t none (standing sh (history s n cs)))) ≡ x ∷ [])
  unfolding scan
  found_one q t h i j = let r = told s n cs q t legal h i j in (r.0, ap (λ z. current (history s n cs) q t ++ z) (seen q t h i j) ∙ r.1)

  -- the single question answers as the scan does
  pub single_scan : (q t : ℕ) → q < (history s n cs).attributes → (history s n cs).start ≤ t → t ≤ (history s n cs).latest
      → (single sh (history s n cs) q t).found ≡ scan (history s n cs) q t
  unfolding scan single
  single_scan q t h i j = let l = history s n cs in let r = told s n cs q t legal h i j in
      answer_scan q t r.0 (walk t none (standing sh l)) (only (covers q t) l.stored) (seen q t h i j) (current l q t) r.1

  -- and so does the full one
  each_scan : (t m : ℕ) → m ≤ (history s n cs).attributes → (history s n cs).start ≤ t → t ≤ (history s n cs).latest
      → each (history s n cs) (walk t none (standing sh (history s n cs))) t m ≡ scans (history s n cs) t m
  unfolding scan
  each_scan t zero h i j = refl
  each_scan t (suc m) h i j = rw (each_scan t m (omega arith) i j, seen m t (omega arith) i j)

  pub full_scan : (t : ℕ) → (history s n cs).start ≤ t → t ≤ (history s n cs).latest
      → (full sh (history s n cs) t).found ≡ scans (history s n cs) t (history s n cs).attributes
  unfolding full
  full_scan t i j = each_scan t (history s n cs).attributes (omega arith) i j

  -- and the one interval that it gives has the state that was said last
  pub single_said : (q t : ℕ) → q < (history s n cs).attributes → (history s n cs).start ≤ t → t ≤ (history s n cs).latest
      → (x : Interval) × ((single sh (history s n cs) q t).found ≡ x ∷ []) × (x.state ≡ said cs q t)
  single_said q t h i j = let r = told s n cs q t legal h i j in (r.0, single_scan q t h i j ∙ r.1, r.2)

  -- how many nodes each question enters
  pub full_entered : (t : ℕ) → length (full sh (history s n cs) t).entered ≡ tally t (nodes (standing sh (history s n cs)))
  unfolding full
  full_entered t = entered_tally t

  pub single_entered : (q t : ℕ)
      → length (single sh (history s n cs) q t).entered ≡ cond (ongoing (history s n cs) q t) 0 (tally t (nodes (standing sh (history s n cs))))
  unfolding single
  single_entered q t = go (ongoing (history s n cs) q t)
    where
      x : Interval
      x = record { quark = q; state = ((history s n cs).table q).state; start = ((history s n cs).table q).start; end = ∞ }

      go : (b : Bool) → length (answer (cond b (x ∷ []) []) (walk t none (standing sh (history s n cs))) q t).entered
          ≡ cond b 0 (tally t (nodes (standing sh (history s n cs))))
      go true = refl
      go false = entered_tally t
