-- Storing on top of a tree, and from the opening: what a call adds to the tree of a history.
use Prim.Native.Nat.{ℕ}
use mathlib.Core.Path.{◌≡◌, refl, sym, ap, ◌∙◌}
use mathlib.Core.List.{List, [], ◌∷◌, ◌++◌, foldl, reverse, reverse_aux, append-nil}
use Rattle.model.specs.Transient.{Interval, Call, change, add, finish, History, step, stores}
use Rattle.model.specs.Build.{Shape, Tree, planted, insert, onto, build}
use Rattle.model.specs.Nodes.{tree_of}

pub onto_build : (sh : Shape) (s : ℕ) (more ivs : List Interval) → onto sh more (build sh s ivs) ≡ build sh s (more ++ ivs)
unfolding onto build
onto_build sh s [] ivs = refl
onto_build sh s (iv ∷ more) ivs = ap (insert sh iv) (onto_build sh s more ivs)

-- a call only adds to what is stored
pub stored_more : (c : Call) (l : History) → (step c l).stored ≡ stores c l ++ l.stored
unfolding step stores
stored_more (change t q c) l = refl
stored_more add l = refl
stored_more (finish t) l = refl

pub step_start : (c : Call) (l : History) → (step c l).start ≡ l.start
unfolding step
step_start (change t q c) l = refl
step_start add l = refl
step_start (finish t) l = refl

-- so it stores on top of the tree that is there
pub step_tree : (sh : Shape) (c : Call) (l : History) → tree_of sh (step c l) ≡ onto sh (stores c l) (tree_of sh l)
step_tree sh c l = rw (step_start c l, stored_more c l) (sym (onto_build sh l.start (stores c l) l.stored))

-- the intervals with the first one first
fold_onto : (sh : Shape) (xs ys : List Interval) (t : Tree) → foldl (λ u iv. insert sh iv u) (onto sh ys t) xs ≡ onto sh (reverse_aux xs ys) t
unfolding onto
fold_onto sh [] ys t = refl
fold_onto sh (x ∷ xs) ys t = fold_onto sh xs (x ∷ ys) t

pub build_fold : (sh : Shape) (s : ℕ) (xs : List Interval) → build sh s (reverse xs) ≡ foldl (λ u iv. insert sh iv u) (planted s) xs
unfolding onto build
build_fold sh s xs =
    ap (build sh s) (sym (append-nil (reverse xs))) ∙ (sym (onto_build sh s (reverse xs) []) ∙ sym (fold_onto sh xs [] (planted s)))
