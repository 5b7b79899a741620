-- An insert lowers neither the number of nodes nor the depth.
use Prim.Native.Nat.{ℕ, zero, suc, ◌≤◌}
use mathlib.Core.Path.{◌≡◌, refl, ap}
use mathlib.Core.List.{List, [], ◌∷◌, ◌++◌}
use native.Mathlib.Omega.{arith}
use Rattle.model.specs.Transient.{Interval}
use Rattle.model.specs.Build.{next, Open, Shape, Tree, store, adopt, chain, Grown, insert, depth}
use Rattle.model.specs.Invariant.{Shaped, Sound}
use Rattle.model.proofs.Keep.{tree_steps}
use Rattle.model.proofs.Legal.{Sane}
use Rattle.model.proofs.Steps.{Storing, close, raise, grows, keeps}

steps_used : {sh : Shape} {iv : Interval} {o S q : ℕ} {fs : List Open} {r : Grown} → Storing sh iv o S q fs r → q ≤ r.used
steps_used (close s) = steps_used s
steps_used (raise s) = let i = steps_used s in omega arith
steps_used (grows f above x y z) = omega arith
steps_used (keeps below f above x y) = omega arith

-- the depth is the root's alone
same_depth : (f g : Open) (above : List Open) → f.head.level ≡ g.head.level → depth (f ∷ above) ≡ depth (g ∷ above)
same_depth f g [] e = ap suc e
same_depth f g (p ∷ above) e = refl

pub chain_depth : (n q a : ℕ) (iv : Interval) (f : Open) (above : List Open) → depth (chain n q a iv (f ∷ above)) ≡ depth (f ∷ above)
chain_depth zero q a iv f above = refl
chain_depth (suc n) q a iv f above = chain_depth n (suc q) a iv _ (f ∷ above)

pub store_depth : (iv : Interval) (below : List Open) (f : Open) (above : List Open) → depth (below ++ store iv f ∷ above) ≡ depth (below ++ f ∷ above)
store_depth iv [] f above = same_depth (store iv f) f above refl
store_depth iv (g ∷ []) f above = same_depth (store iv f) f above refl
store_depth iv (g ∷ g' ∷ below) f above = store_depth iv (g' ∷ below) f above

steps_depth : {sh : Shape} {iv : Interval} {o S q : ℕ} {fs : List Open} {r : Grown} → Storing sh iv o S q fs r → depth fs ≤ depth r.branch
steps_depth {S = S} (close {f = f} {p = p} {above = above} s) = let i = steps_depth s in omega (arith, same_depth (adopt S f p) p above refl)
steps_depth (raise s) = let i = steps_depth s in omega arith
steps_depth {iv = iv} (grows {q = q} f above x y z) = omega (arith, chain_depth f.head.level q (next f.head.start f.closed) iv f above)
steps_depth {iv = iv} (keeps below f above x y) = omega (arith, store_depth iv below f above)

pub insert_grows : (sh : Shape) (iv : Interval) (t : Tree) → Shaped sh → Sane t.start iv → Sound t
    → (t.used ≤ (insert sh iv t).used) × (depth t.branch ≤ depth (insert sh iv t).branch)
unfolding insert
insert_grows sh iv t d h s = let w = tree_steps sh iv t d h s in (steps_used w, steps_depth w)
