-- Accepted calls stay within the limits: depth 16 and N nodes.
use Prim.Native.Nat.{ℕ, ◌≤◌}
use mathlib.Core.Bool.{Bool, true, false, cond}
use mathlib.Core.Path.{◌≡◌, refl, sym, subst}
use mathlib.Core.List.{List, [], ◌∷◌}
use native.Mathlib.Omega.{arith}
use lib.Dec.{eqb}
use borrow.Author.Tests.{ltb-false, eqb-true}
use Rattle.model.specs.Transient.{Interval, Call, stores, history}
use Rattle.model.specs.Build.{Shape, Tree, onto, build, depth}
use Rattle.model.specs.Nodes.{tree_of}
use Rattle.model.specs.Refusals.{limit, limits, refuse, accepted}
use Rattle.model.proofs.Legal.{accepted_fitting}
use Rattle.model.proofs.Onto.{step_tree}
use Rattle.model.proofs.Tests.{first_passed, sooner_passed}

abbrev Fitting : ℕ → Tree → Type 0
Fitting N t = (depth t.branch ≤ 16) × (t.used ≤ N)

limit_passed : (N : ℕ) (t : Tree) → limit N t ≡ 0 → Fitting N t
limit_passed N t e =
    let a = first_passed _ _ _ e in
    let b = first_passed _ _ _ a.1 in
    (ltb-false 16 (depth t.branch) a.0, ltb-false N t.used b.0)

limits_passed : (sh : Shape) (N : ℕ) (ivs : List Interval) (t : Tree) → limits sh N ivs t ≡ 0 → Fitting N t → Fitting N (onto sh ivs t)
unfolding limits onto
limits_passed sh N [] t e f = f
limits_passed sh N (iv ∷ earlier) t e f =
    limit_passed N (onto sh (iv ∷ earlier) t) (sooner_passed (limits sh N earlier t) (limit N (onto sh (iv ∷ earlier) t)) e).1

pub within_limits : (sh : Shape) (N M s n : ℕ) (cs : List Call) → 1 ≤ N → Fitting N (tree_of sh (history s n (accepted sh N M s n cs)))
unfolding accepted history build
within_limits sh N M s n [] h = (omega arith, h)
within_limits sh N M s n (c ∷ cs) h = go (eqb (refuse sh N M (history s n (accepted sh N M s n cs)) c) 0) refl (within_limits sh N M s n cs h)
  where
    go : (b : Bool) → eqb (refuse sh N M (history s n (accepted sh N M s n cs)) c) 0 ≡ b → Fitting N (tree_of sh (history s n (accepted sh N M s n cs)))
        → Fitting N (tree_of sh (history s n (cond b (c ∷ accepted sh N M s n cs) (accepted sh N M s n cs))))
    go true e f = let l = history s n (accepted sh N M s n cs) in
        subst (Fitting N) (sym (step_tree sh c l)) (limits_passed sh N (stores c l) (tree_of sh l) (accepted_fitting sh N M l c (eqb-true _ 0 e)) f)
    go false e f = f
