-- Storing keeps the invariant, and so does closing.
use Prim.Native.Nat.{ℕ, zero, suc, ◌≤◌, max}
use mathlib.Core.Path.{◌≡◌, refl, sym, subst}
use mathlib.Core.List.{List, [], ◌∷◌, ◌++◌}
use native.Mathlib.Omega.{arith}
use Rattle.model.specs.Transient.{Interval}
use Rattle.model.specs.Build.{also, next, Open, Shape, Tree, store, adopt, in_lowest, chain, Grown, begin, insert, build}
use Rattle.model.specs.Nodes.{close_up, close_all}
use Rattle.model.specs.Invariant.{Shaped, Inside, Good, Stands, Branch, Some, Sound}
use Rattle.model.proofs.Legal.{Sane, Sanes}
use Rattle.model.proofs.Steps.{Storing, close, raise, grows, keeps, begin_steps}

inside_mono : (a e e' : ℕ) (xs : List Interval) → e ≤ e' → Inside a e xs → Inside a e' xs
inside_mono a e e' [] h i = tt
inside_mono a e e' (x ∷ xs) h i = (i.0, i.1, omega arith, inside_mono a e e' xs h i.3)

inside_add : (a e : ℕ) (xs : List Interval) (x : Interval) → a ≤ x.start → x.start ≤ x.end → x.end ≤ e → Inside a e xs → Inside a e (xs ++ x ∷ [])
inside_add a e [] x p q r i = (p, q, r, tt)
inside_add a e (y ∷ xs) x p q r i = (i.0, i.1, i.2, inside_add a e xs x p q r i.3)

stands_mono : (S S' : ℕ) (f : Open) → S ≤ S' → Stands S f → Stands S' f
stands_mono S S' f h s = record {
  begun = omega (arith, s.begun);
  within = omega (arith, s.within);
  inside = inside_mono f.head.start S S' f.head.held h s.inside;
  good = s.good;
}

branch_mono : (o S S' : ℕ) (fs : List Open) → S ≤ S' → Branch o S fs → Branch o S' fs
branch_mono o S S' [] h b = tt
branch_mono o S S' (f ∷ fs) h b = (stands_mono S S' f h b.0, b.1, branch_mono o S S' fs h b.2)

-- a closed child under its parent
pub adopted : (o e : ℕ) (f p : Open) (above : List Open) → Branch o e (f ∷ p ∷ above) → Branch o e (adopt e f p ∷ above)
adopted o e f p above b = let s = b.0 in let u = b.1 in let t = b.2.0 in (
  record {
    begun = t.begun;
    within = omega arith;
    inside = t.inside;
    good = subst (λ (l : ℕ). Good l p.head.start (also p.closed f.head e f.closed)) (sym u.0) (
      subst (λ (l : ℕ). Good l p.head.start p.closed) u.0 t.good,
      record { level = refl; start = u.1; ordered = s.begun; within = s.within; inside = s.inside },
      s.good,
    );
  },
  b.2.1,
  b.2.2,
)

module _ (o S : ℕ) (iv : Interval) (ordered : iv.start ≤ iv.end) (known : iv.end ≤ S) where
  -- a node of the branch that takes the interval
  stored_in : (below : List Open) (f : Open) (above : List Open) → f.head.start ≤ iv.start → Branch o S (below ++ f ∷ above)
      → Branch o S (below ++ store iv f ∷ above)
  stored_in [] f above h b =
      let i = inside_add f.head.start S f.head.held iv h ordered known b.0.inside in
      (record { begun = b.0.begun; within = b.0.within; inside = i; good = b.0.good }, b.1, b.2)
  stored_in (g ∷ []) f above h b = (b.0, b.1, stored_in [] f above h b.2)
  stored_in (g ∷ g' ∷ below) f above h b = (b.0, b.1, stored_in (g' ∷ below) f above h b.2)

  in_lowest_inside : (n a : ℕ) → a ≤ iv.start → Inside a S (in_lowest n iv)
  in_lowest_inside zero a h = (h, ordered, known, tt)
  in_lowest_inside (suc n) a h = tt

  chained : (n q a : ℕ) (f : Open) (above : List Open) → f.head.level ≡ n → a ≡ next f.head.start f.closed → a ≤ iv.start
      → Branch o S (f ∷ above) → Branch o S (chain n q a iv (f ∷ above))
  chained zero q a f above l e h b = b
  chained (suc n) q a f above l e h b = chained n (suc q) a _ (f ∷ above) refl refl h
      (record { begun = omega arith; within = omega arith; inside = in_lowest_inside n a h; good = tt }, (l, e), b)

chain_some : (n q a : ℕ) (iv : Interval) (f : Open) (fs : List Open) → Some (chain n q a iv (f ∷ fs))
chain_some zero q a iv f fs = tt
chain_some (suc n) q a iv f fs = chain_some n (suc q) a iv _ (f ∷ fs)

append_some : (fs : List Open) (f : Open) (gs : List Open) → Some (fs ++ f ∷ gs)
append_some [] f gs = tt
append_some (g ∷ fs) f gs = tt

module _ (sh : Shape) (iv : Interval) (o S S' : ℕ) (ordered : iv.start ≤ iv.end) (low : o ≤ S) (known : iv.end ≤ S') (more : S ≤ S') where
  steps_branch : {q : ℕ} {fs : List Open} {r : Grown} → Storing sh iv o S q fs r → Branch o S fs → Branch o S' r.branch
  steps_branch (close {f = f} {p = p} {above = above} s) b = steps_branch s (adopted o S f p above b)
  steps_branch (raise {f = f} s) b = steps_branch s (
    record {
      begun = low;
      within = omega arith;
      inside = tt;
      good = (tt, record { level = refl; start = b.1; ordered = b.0.begun; within = b.0.within; inside = b.0.inside }, b.0.good);
    },
    refl,
    tt,
  )
  steps_branch (grows f above x y z) b = chained o S' iv ordered known f.head.level _ _ f above refl refl z (branch_mono o S S' (f ∷ above) more b)
  steps_branch (keeps below f above x y) b = stored_in o S' iv ordered known below f above y (branch_mono o S S' (below ++ f ∷ above) more b)

  steps_some : {q : ℕ} {fs : List Open} {r : Grown} → Storing sh iv o S q fs r → Some r.branch
  steps_some (close s) = steps_some s
  steps_some (raise s) = steps_some s
  steps_some (grows {q} f above x y z) = chain_some f.head.level q (next f.head.start f.closed) iv f above
  steps_some (keeps below f above x y) = append_some below (store iv f) above

pub tree_steps : (sh : Shape) (iv : Interval) (t : Tree) → Shaped sh → Sane t.start iv → Sound t
    → Storing sh iv t.start t.largest t.used t.branch (begin sh iv t.start t.largest t.used t.branch)
tree_steps sh iv t d h s = begin_steps sh iv t.start t.largest t.used d h.0 t.branch s.some s.branch

-- the invariant is kept by an insert, and holds of every tree that is built
pub insert_sound : (sh : Shape) (iv : Interval) (t : Tree) → Shaped sh → Sane t.start iv → Sound t → Sound (insert sh iv t)
unfolding insert
insert_sound sh iv t d h s = let st = tree_steps sh iv t d h s in let S' = max t.largest iv.end in record {
  branch = steps_branch sh iv t.start t.largest S' h.1 s.low (omega arith) (omega arith) st s.branch;
  some = steps_some sh iv t.start t.largest S' h.1 s.low (omega arith) (omega arith) st;
  low = omega (arith, s.low);
}

pub build_start : (sh : Shape) (o : ℕ) (ivs : List Interval) → (build sh o ivs).start ≡ o
unfolding build insert
build_start sh o [] = refl
build_start sh o (iv ∷ ivs) = build_start sh o ivs

pub sane_at : (sh : Shape) (o : ℕ) (iv : Interval) (ivs : List Interval) → Sane o iv → Sane (build sh o ivs).start iv
sane_at sh o iv ivs h = rw build_start h

pub build_sound : (sh : Shape) (o : ℕ) (ivs : List Interval) → Shaped sh → Sanes o ivs → Sound (build sh o ivs)
unfolding build
build_sound sh o [] d h =
    record { branch = (record { begun = omega arith; within = omega arith; inside = tt; good = tt }, refl, tt); some = tt; low = omega arith }
build_sound sh o (iv ∷ ivs) d h = insert_sound sh iv (build sh o ivs) d (sane_at sh o iv ivs h.0) (build_sound sh o ivs d h.1)

-- closing all open nodes, with an end that nothing stored passes
close_up_good : (o e : ℕ) (f : Open) (above : List Open) → Branch o e (f ∷ above) → (l : ℕ) × Good l o (close_up e f above)
close_up_good o e f [] b =
    (suc f.head.level, (tt, record { level = refl; start = b.1; ordered = b.0.begun; within = b.0.within; inside = b.0.inside }, b.0.good))
close_up_good o e f (p ∷ above) b = close_up_good o e (adopt e f p) above (adopted o e f p above b)

pub close_all_good : (o S e : ℕ) (fs : List Open) → S ≤ e → Branch o S fs → (l : ℕ) × Good l o (close_all e fs)
close_all_good o S e [] h b = (zero, tt)
close_all_good o S e (f ∷ above) h b = close_up_good o e f above (branch_mono o S e (f ∷ above) h b)
