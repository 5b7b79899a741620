-- The invariant of a branch with its numbering, as it stands between two calls: for the proofs that tie records and bytes to the tree.
use Prim.Native.Nat.{ℕ, suc, ◌≤◌}
use mathlib.Core.Path.{◌≡◌, ap, ◌∙◌}
use mathlib.Core.List.{List, [], ◌∷◌, ◌++◌}
use Rattle.model.specs.Transient.{Interval}
use Rattle.model.specs.Build.{childless, Open, Shape, build}
use Rattle.model.specs.Nodes.{close_all, nodes, upto, seqs}
use Rattle.model.specs.Invariant.{Shaped, Branch, Rooms}
use Rattle.model.proofs.Keep.{build_sound}
use Rattle.model.proofs.Legal.{Sanes}
use Rattle.model.proofs.Places.{Root, Counted, build_counted, close_all_order}
use Rattle.model.proofs.Sized.{build_rooms}

pub record Ready (sh : Shape) (o S q : ℕ) (fs : List Open) : Type 0 where
  pub branch : Branch o S fs
  pub rooms : Rooms sh fs
  pub counted : Counted q fs
  pub low : o ≤ S

-- between the calls
pub ready_built : (sh : Shape) (o : ℕ) (ivs : List Interval) → Shaped sh → Sanes o ivs
    → let t = build sh o ivs in Ready sh t.start t.largest t.used t.branch
ready_built sh o ivs d h = let s = build_sound sh o ivs d h in
    record { branch = s.branch; rooms = build_rooms sh d o ivs h; counted = build_counted sh o ivs d h; low = s.low }

-- after each node of a chain
pub count_grow : (q : ℕ) (f : Open) (above : List Open) (l a : ℕ) (xs : List Interval) → Root f above → Counted q (f ∷ above)
    → Counted (suc q) (record { head = record { level = l; seq = q; start = a; held = xs }; closed = childless } ∷ f ∷ above)
unfolding Counted
count_grow q f above l a xs r c = (ap (λ z. z ++ q ∷ []) c.0, r)

-- what `Writes` asks for
pub ready_numbers : (e q : ℕ) (fs : List Open) → Counted q fs → seqs (nodes (close_all e fs)) ≡ upto q
unfolding Counted
ready_numbers e q fs c = close_all_order e fs c.1 ∙ c.0
