-- The walk by places, from the root's place and level, is the walk.
use Prim.Native.Nat.{ℕ, suc, ◌≤◌}
use mathlib.Core.Path.{◌≡◌, sym, ap, ◌∙◌, subst}
use mathlib.Core.List.{List}
use mathlib.Core.Option.{none}
use native.Mathlib.Omega.{arith}
use Rattle.model.specs.Transient.{Call, History, history}
use Rattle.model.specs.Build.{Head, Subtrees, childless, also, Shape}
use Rattle.model.specs.Nodes.{Node, nodes, open_end, tree_of, standing}
use Rattle.model.specs.Questions.{walk, chase}
use Rattle.model.specs.Invariant.{Shaped, Good}
use Rattle.model.proofs.Answers.{open_end_late, standing_good}
use Rattle.model.proofs.ByPlace.{At, close_all_root, chase_root}
use Rattle.model.proofs.Keep.{build_sound}
use Rattle.model.proofs.Legal.{Legal}
use Rattle.model.proofs.Passes.{at_places}
use Rattle.model.proofs.Storable.{storable}

module _ (sh : Shape) (shaped : Shaped sh) where
  standing_root : (s n : ℕ) (cs : List Call) → Legal s n cs
      → (r : Head) × (k : Subtrees) × (standing sh (history s n cs) ≡ also childless r (open_end (history s n cs)) k)
  unfolding standing
  standing_root s n cs k =
      let l = history s n cs in
      close_all_root (open_end l) (tree_of sh l).branch (build_sound sh l.start l.stored shaped (storable s n cs k).sane).some

  -- the walk by places: the root's place and level are the record's
  pub walked : (s n : ℕ) (cs : List Call) → Legal s n cs
      → (r : Head) × (k : Subtrees) × (standing sh (history s n cs) ≡ also childless r (open_end (history s n cs)) k)
      × ((t : ℕ) → (history s n cs).start ≤ t → t ≤ (history s n cs).latest
      → chase (suc r.level) t (nodes (standing sh (history s n cs))) r.seq ≡ walk t none (standing sh (history s n cs)))
  walked s n cs k = let v = standing_root s n cs k in (v.0, v.1, v.2, λ t h i. go v.0 v.1 v.2 t h i)
    where
      l : History
      l = history s n cs

      ns : List Node
      ns = nodes (standing sh (history s n cs))

      go : (r : Head) (k' : Subtrees) → standing sh (history s n cs) ≡ also childless r (open_end (history s n cs)) k' → (t : ℕ) → l.start ≤ t
          → t ≤ l.latest
          → chase (suc r.level) t ns r.seq ≡ walk t none (standing sh (history s n cs))
      go r k' e t h i = let g = standing_good sh s n cs shaped k in
          let good = subst (λ z. Good g.0 l.start z) e g.1 in
          let at = subst (λ z. At ns none z) e (at_places sh shaped s n cs k) in
          chase_root t g.0 l.start (open_end l) ns r k' good at h (omega (arith, open_end_late l (storable s n cs k).high))
          ∙ ap (walk t none) (sym e)
