-- Sequence numbers are places, and no node closed before a call differs after it.
use Prim.Native.Nat.{ℕ, ◌≤◌, ◌<◌}
use mathlib.Core.Bool.{false, cond}
use mathlib.Core.Path.{◌≡◌, sym, ap, ◌∙◌}
use mathlib.Core.Logic.{◌⊎◌, inl, inr}
use mathlib.Core.List.{List, ◌∷◌, ◌++◌, Memᴰ}
use mathlib.Core.Option.{none}
use native.Mathlib.Omega.{arith}
use lib.ListN.{length, get_or}
use Rattle.model.specs.Transient.{Call, History, history, stores}
use Rattle.model.specs.Build.{Shape}
use Rattle.model.specs.Nodes.{Node, preorder, nodes, blank, ∞, open_end, tree_of, standing, upto, seqs}
use Rattle.model.specs.Invariant.{Shaped}
use Rattle.model.proofs.Answers.{build_largest}
use Rattle.model.proofs.ByPlace.{at_mem, place_at, at_place}
use Rattle.model.proofs.Closed.{closed, build_closed, close_all_closed, close_all_split, sub_mem, closed_ends}
use Rattle.model.proofs.EachNode.{close_all_has, close_all_from}
use Rattle.model.proofs.Keep.{build_sound}
use Rattle.model.proofs.Legal.{Sanes, Legal, legal_before}
use Rattle.model.proofs.Onto.{stored_more, step_start}
use Rattle.model.proofs.Places.{places}
use Rattle.model.proofs.Storable.{storable}

-- what is shown, at a history
module _ (sh : Shape) (l : History) (m : Node) where
  pub from_nodes : Memᴰ m (nodes (standing sh l)) → Memᴰ m (preorder none (standing sh l))
  unfolding standing
  from_nodes d = close_all_from (open_end l) (tree_of sh l).branch m d

  pub to_nodes : Memᴰ m (preorder none (standing sh l)) → Memᴰ m (nodes (standing sh l))
  unfolding standing
  to_nodes d = close_all_has (open_end l) (tree_of sh l).branch m d

  split : Memᴰ m (preorder none (standing sh l)) → Memᴰ m (closed (tree_of sh l).branch) ⊎ (m.end ≡ open_end l)
  unfolding standing
  split d = close_all_split (open_end l) (tree_of sh l).branch m d

  of_closed : Memᴰ m (closed (tree_of sh l).branch) → Memᴰ m (preorder none (standing sh l))
  unfolding standing
  of_closed d = sub_mem (close_all_closed (open_end l) (tree_of sh l).branch) d

module _ (sh : Shape) (shaped : Shaped sh) where
  -- the nodes stand at the places of their sequence numbers, and there are as many as were made
  pub numbered : (s n : ℕ) (cs : List Call) → Legal s n cs → seqs (nodes (standing sh (history s n cs))) ≡ upto (tree_of sh (history s n cs)).used
  unfolding standing
  numbered s n cs k = let l = history s n cs in places sh l.start (open_end l) l.stored shaped (storable s n cs k).sane

  -- what is closed before a call is closed after it
  later : (s n : ℕ) (c : Call) (cs : List Call) → Legal s n (c ∷ cs) → (m : Node) → Memᴰ m (closed (tree_of sh (history s n cs)).branch)
      → Memᴰ m (closed (tree_of sh (history s n (c ∷ cs))).branch)
  unfolding history
  later s n c cs k m d = let l = history s n cs in let w = stores c l in
      let h : Sanes l.start (w ++ l.stored) = rw (step_start c l, stored_more c l) at (storable s n (c ∷ cs) k).sane in
      rw (step_start c l, stored_more c l) (sub_mem (build_closed sh l.start w l.stored shaped h) d)

  -- no node closed before a call differs after it
  pub kept : (s n : ℕ) (c : Call) (cs : List Call) → Legal s n (c ∷ cs) → (i : ℕ) → i < length (nodes (standing sh (history s n cs)))
      → ((get_or (nodes (standing sh (history s n cs))) i blank).end ≡ ∞ → ⊥)
      → get_or (nodes (standing sh (history s n (c ∷ cs)))) i blank ≡ get_or (nodes (standing sh (history s n cs))) i blank
  kept s n c cs k i h x = go (split sh l m (from_nodes sh l m (at_mem (nodes (standing sh l)) i h)))
    where
      l : History
      l = history s n cs

      l' : History
      l' = history s n (c ∷ cs)

      m : Node
      m = get_or (nodes (standing sh (history s n cs))) i blank

      place : m.seq ≡ i
      place = place_at (tree_of sh l).used (nodes (standing sh l)) i (numbered s n cs (legal_before s n c cs k).1) h

      go : Memᴰ m (closed (tree_of sh l).branch) ⊎ (m.end ≡ open_end l) → get_or (nodes (standing sh (history s n (c ∷ cs)))) i blank ≡ m
      go (inl d) = ap (λ z. get_or (nodes (standing sh l')) z blank) (sym place)
          ∙ at_place (tree_of sh l').used (nodes (standing sh l')) m (numbered s n (c ∷ cs) k) (to_nodes sh l' m (of_closed sh l' m (later s n c cs k m d)))
      go (inr e) = absurd (x (e ∙ ap (λ z. cond z l.latest ∞) (legal_before s n c cs k).0))

  -- a node of an unfinished history is open, with the end 2^64-1, or it ended by the latest time, which is below 2^63
  pub ended_by : (s n : ℕ) (cs : List Call) → Legal s n cs → (history s n cs).finished ≡ false → (i : ℕ) → i < length (nodes (standing sh (history s n cs)))
      → ((get_or (nodes (standing sh (history s n cs))) i blank).end ≡ ∞) ⊎ ((get_or (nodes (standing sh (history s n cs))) i blank).end ≤ (history s n cs).latest)
  ended_by s n cs k f i h = go (split sh l m (from_nodes sh l m (at_mem (nodes (standing sh l)) i h)))
    where
      l : History
      l = history s n cs

      m : Node
      m = get_or (nodes (standing sh (history s n cs))) i blank

      go : Memᴰ m (closed (tree_of sh l).branch) ⊎ (m.end ≡ open_end l) → (m.end ≡ ∞) ⊎ (m.end ≤ l.latest)
      go (inl d) =
          let c = storable s n cs k in
          let t = tree_of sh l in
          let w = build_sound sh l.start l.stored shaped c.sane in
          let ended = closed_ends t.start t.largest t.branch w.branch m d in
          inr (omega (arith, ended, build_largest sh l.start l.latest l.stored c.low c.capped))
      go (inr e) = inl (e ∙ ap (λ z. cond z l.latest ∞) f)
