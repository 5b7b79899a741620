-- Where no limit is met, the calls alone decide which calls are accepted.
use Prim.Native.Nat.{ℕ, zero, suc}
use mathlib.Core.Bool.{Bool, true, false, cond}
use mathlib.Core.Path.{◌≡◌, refl, ap, ◌∙◌}
use mathlib.Core.Logic.{◌⊎◌, inl, inr}
use mathlib.Core.List.{List, [], ◌∷◌}
use lib.Dec.{ltb, eqb}
use Rattle.model.specs.Transient.{Interval, Call, History, stores, history}
use Rattle.model.specs.Build.{Shape, Tree, onto, depth}
use Rattle.model.specs.Nodes.{tree_of}
use Rattle.model.specs.Refusals.{sooner, limit, limits, refuse_stated, refuse, accepted}
use Rattle.model.specs.Theorems.{accepted_stated, Unlimited}

-- the answers of the limits
abbrev Limiting : ℕ → Type 0
Limiting r = (r ≡ 0) ⊎ ((r ≡ 10) ⊎ (r ≡ 11))

limit_is : (N : ℕ) (t : Tree) → Limiting (limit N t)
limit_is N t = go (ltb 16 (depth t.branch)) (ltb N t.used)
  where
    go : (a b : Bool) → Limiting (cond a 10 (cond b 11 0))
    go true b = inr (inl refl)
    go false true = inr (inr refl)
    go false false = inl refl

sooner_is : (a b : ℕ) → Limiting a → Limiting b → Limiting (sooner a b)
sooner_is zero b x y = y
sooner_is (suc a) b x y = x

limits_are : (sh : Shape) (N : ℕ) (ivs : List Interval) (t : Tree) → Limiting (limits sh N ivs t)
unfolding limits
limits_are sh N [] t = inl refl
limits_are sh N (iv ∷ earlier) t = sooner_is _ _ (limits_are sh N earlier t) (limit_is N (onto sh (iv ∷ earlier) t))

-- an answer that is neither 10 nor 11
stated_only : (a b : ℕ) → Limiting b → (sooner a b ≡ 10 → ⊥) → (sooner a b ≡ 11 → ⊥) → sooner a b ≡ a
stated_only zero b (inl e) x y = e
stated_only zero b (inr (inl e)) x y = absurd (x e)
stated_only zero b (inr (inr e)) x y = absurd (y e)
stated_only (suc a) b l x y = refl

refused_stated : (sh : Shape) (N M : ℕ) (l : History) (c : Call) → (refuse sh N M l c ≡ 10 → ⊥) → (refuse sh N M l c ≡ 11 → ⊥)
    → refuse sh N M l c ≡ refuse_stated M l c
unfolding refuse
refused_stated sh N M l c x y = stated_only (refuse_stated M l c) _ (limits_are sh N (stores c l) (tree_of sh l)) x y

pub shape_free : (sh : Shape) (N M s n : ℕ) (cs : List Call) → Unlimited sh N M s n cs → accepted sh N M s n cs ≡ accepted_stated M s n cs
unfolding accepted accepted_stated Unlimited
shape_free sh N M s n [] u = refl
shape_free sh N M s n (c ∷ cs) u =
    let a = accepted sh N M s n cs in
    ap (λ z. cond (eqb z 0) (c ∷ a) a) (refused_stated sh N M (history s n a) c u.0 u.1)
    ∙ ap (λ z. cond (eqb (refuse_stated M (history s n z) c) 0) (c ∷ z) z) (shape_free sh N M s n cs u.2)
