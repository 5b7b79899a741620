-- Storing an interval, step by step: nodes are closed from below, a root is put on top, and at last a chain is made or a node takes the interval.
-- `begin` makes such steps; whatever each step keeps, `insert` keeps.
use Prim.Native.Nat.{ℕ, suc, ◌≤◌, ◌<◌}
use mathlib.Core.Bool.{Bool, true, false, cond}
use mathlib.Core.Path.{◌≡◌, refl, ap, subst}
use mathlib.Core.List.{List, [], ◌∷◌, ◌++◌, append_assoc}
use native.Mathlib.Omega.{arith}
use lib.Dec.{leb, ltb}
use lib.ListN.{length}
use borrow.Author.Tests.{leb-true, ltb-true}
use Rattle.model.specs.Transient.{Interval}
use Rattle.model.specs.Build.{Subtrees, also, next, many, Open, Shape, store, adopt, having, close_under, with_below, gathered, new_root, Verdict, grow, keep, shut, due, verdict, Grown, grown, ask, seek, begin}
use Rattle.model.specs.Invariant.{Shaped, Some, Branch}
use Rattle.model.proofs.Tests.{and_both}
use Rattle.model.proofs.Walk.{next_from}

pub data Storing (sh : Shape) (iv : Interval) (o S : ℕ) : ℕ → List Open → Grown → Type 0 where
  close : {q : ℕ} {f p : Open} {above : List Open} {r : Grown} → Storing sh iv o S q (adopt S f p ∷ above) r → Storing sh iv o S q (f ∷ p ∷ above) r
  raise : {q : ℕ} {f : Open} {r : Grown} → Storing sh iv o S (suc q) (new_root o S q f ∷ []) r → Storing sh iv o S q (f ∷ []) r
  grows : {q : ℕ} (f : Open) (above : List Open) → 0 < f.head.level → many f.closed < sh.C → next f.head.start f.closed ≤ iv.start
      → Storing sh iv o S q (f ∷ above) (grown q iv f above)
  keeps : {q : ℕ} (below : List Open) (f : Open) (above : List Open) → length f.head.held < sh.K → f.head.start ≤ iv.start
      → Storing sh iv o S q (below ++ f ∷ above) (record { used = q; branch = below ++ store iv f ∷ above })

-- what a verdict tells
verdict_grow : (b x y : Bool) → cond b (cond x grow shut) (cond y keep shut) ≡ grow → (b ≡ true) × (x ≡ true)
verdict_grow true true y e = (refl, refl)
verdict_grow true false y e = (refl, cc)
verdict_grow false x true e = (cc, cc)
verdict_grow false x false e = (cc, cc)

verdict_keep : (b x y : Bool) → cond b (cond x grow shut) (cond y keep shut) ≡ keep → y ≡ true
verdict_keep true true y e = cc
verdict_keep true false y e = cc
verdict_keep false x true e = refl
verdict_keep false x false e = cc

-- starts do not grow upwards, and the root's is o: of the open nodes above one that starts at a
abbrev Falling : ℕ → ℕ → List Open → Type 0
Falling o a [] = a ≡ o
Falling o a (p ∷ above) = (p.head.start ≤ a) × Falling o p.head.start above

falling : (o S : ℕ) (f : Open) (above : List Open) → Branch o S (f ∷ above) → Falling o f.head.start above
falling o S f [] b = b.1
falling o S f (p ∷ above) b = (omega (arith, next_from p.head.level p.head.start p.closed b.2.0.good, b.1.1), falling o S p above b.2)

-- what is gathered under a node when the node below it, with all below that, closes too
close_under_more : (S : ℕ) (g : Open) (below : List Open) (f : Open) (k : Subtrees) → close_under S g (below ++ f ∷ []) k ≡ also k f.head S (close_under S g below f.closed)
close_under_more S g [] f k = refl
close_under_more S g (p ∷ below) f k = close_under_more S (adopt S g p) below f k

with_below_more : (S : ℕ) (below : List Open) (f : Open) (k : Subtrees) → with_below S (below ++ f ∷ []) k ≡ also k f.head S (with_below S below f.closed)
with_below_more S [] f k = refl
with_below_more S (g ∷ below) f k = close_under_more S g below f k

pub gathered_more : (S : ℕ) (below : List Open) (f p : Open) → gathered S (below ++ f ∷ []) p ≡ adopt S (gathered S below f) p
gathered_more S below f p = ap (λ k. having k p) (with_below_more S below f p.closed)

module _ (sh : Shape) (iv : Interval) (o S q : ℕ) (shaped : Shaped sh) (later : o ≤ iv.start) where
  grows_by : (below : List Open) (f : Open) (above : List Open) → verdict sh below f iv.start ≡ grow
      → Storing sh iv o S q (below ++ f ∷ above) (grown q iv f above)
  grows_by [] f above e =
      let v = verdict_grow (due [] f iv.start) (ltb (many f.closed) sh.C) (ltb (length f.head.held) sh.K) e in
      let d = and_both (ltb 0 f.head.level) (leb (next f.head.start f.closed) iv.start) v.0 in
      grows f above (ltb-true 0 f.head.level d.0) (ltb-true (many f.closed) sh.C v.1)
      (leb-true (next f.head.start f.closed) iv.start d.1)
  grows_by (g ∷ below) f above e =
      let v = verdict_grow false (ltb (many f.closed) sh.C) (ltb (length f.head.held) sh.K) e in
      let z : ◌≡◌ {A = ℕ} 0 1 = cc v.0 in absurd (omega arith)

  keeps_by : (below : List Open) (f : Open) (above : List Open) → verdict sh below f iv.start ≡ keep → f.head.start ≤ iv.start
      → Storing sh iv o S q (below ++ f ∷ above) (record { used = q; branch = below ++ store iv f ∷ above })
  keeps_by below f above e h = keeps below f above (ltb-true (length f.head.held) sh.K
      (verdict_keep (due below f iv.start) (ltb (many f.closed) sh.C) (ltb (length f.head.held) sh.K) e)) h

  -- the new root's turn
  root_steps : (f : Open) (t : Bool) → due [] (new_root o S q f) iv.start ≡ t
      → let r = new_root o S q f in Storing sh iv o S (suc q) (r ∷ []) (cond t (grown (suc q) iv r []) (record { used = suc q; branch = store iv r ∷ [] }))
  root_steps f true e =
      let d = and_both (ltb 0 (suc f.head.level)) (leb (suc S) iv.start) e in
      grows (new_root o S q f) [] (omega arith) (omega (arith, shaped.children)) (leb-true (suc S) iv.start d.1)
  root_steps f false e = keeps [] (new_root o S q f) [] (omega (arith, shaped.intervals)) later

  ask_steps : (below : List Open) (f : Open) (above : List Open) → f.head.start ≤ iv.start → Falling o f.head.start above
      → ((r : Grown) → Storing sh iv o S q (gathered S below f ∷ above) r → Storing sh iv o S q (below ++ f ∷ above) r)
      → Storing sh iv o S q (below ++ f ∷ above) (ask sh iv o S q below f above)
  ask_steps below f [] h l c = go (verdict sh below f iv.start) refl
    where
      go : (v : Verdict) → verdict sh below f iv.start ≡ v → Storing sh iv o S q (below ++ f ∷ []) (ask sh iv o S q below f [])
      go grow e = rw (e, ask) (grows_by below f [] e)
      go keep e = rw (e, ask) (keeps_by below f [] e h)
      go shut e = rw (e, ask) (c _ (raise (root_steps (gathered S below f) (due [] (new_root o S q (gathered S below f)) iv.start) refl)))
  ask_steps below f (p ∷ above) h l c = go (verdict sh below f iv.start) refl
      (ask_steps [] (adopt S (gathered S below f) p) above (omega (arith, l.0)) l.1 (λ r s. s))
    where
      go : (v : Verdict) → verdict sh below f iv.start ≡ v
          → Storing sh iv o S q (adopt S (gathered S below f) p ∷ above) (ask sh iv o S q [] (adopt S (gathered S below f) p) above)
          → Storing sh iv o S q (below ++ f ∷ p ∷ above) (ask sh iv o S q below f (p ∷ above))
      go grow e r = rw (e, ask) (grows_by below f (p ∷ above) e)
      go keep e r = rw (e, ask) (keeps_by below f (p ∷ above) e h)
      go shut e r = rw (e, ask) (c _ (close r))

  seek_steps : (below : List Open) (f : Open) (above : List Open) → Falling o f.head.start above
      → ((r : Grown) → Storing sh iv o S q (gathered S below f ∷ above) r → Storing sh iv o S q (below ++ f ∷ above) r)
      → Storing sh iv o S q (below ++ f ∷ above) (seek sh iv o S q below f above)
  seek_steps below f [] l c = ask_steps below f [] (omega arith) l c
  seek_steps below f (p ∷ above) l c = go (leb f.head.start iv.start) refl
      (rw append_assoc at (seek_steps (below ++ f ∷ []) p above l.1 up))
    where
      up : (r : Grown) → Storing sh iv o S q (gathered S (below ++ f ∷ []) p ∷ above) r → Storing sh iv o S q ((below ++ f ∷ []) ++ p ∷ above) r
      up r s = rw append_assoc (c r (close (subst (λ (z : Open). Storing sh iv o S q (z ∷ above) r) (gathered_more S below f p) s)))

      go : (t : Bool) → leb f.head.start iv.start ≡ t → Storing sh iv o S q (below ++ f ∷ p ∷ above) (seek sh iv o S q (below ++ f ∷ []) p above)
          → Storing sh iv o S q (below ++ f ∷ p ∷ above) (cond t (ask sh iv o S q below f (p ∷ above)) (seek sh iv o S q (below ++ f ∷ []) p above))
      go true e r = ask_steps below f (p ∷ above) (leb-true f.head.start iv.start e) l c
      go false e r = r

  pub begin_steps : (fs : List Open) → Some fs → Branch o S fs → Storing sh iv o S q fs (begin sh iv o S q fs)
  begin_steps [] s b = absurd s
  begin_steps (f ∷ above) s b = seek_steps [] f above (falling o S f above b) (λ r s. s)
