-- A plan carried out on record and nodes: the record goes as it would by itself, and the node buffer keeps its length. Assumes nothing.
use Prim.Native.Nat.{ℕ, zero, suc, ◌+◌}
use mathlib.Core.Path.{◌≡◌, refl, ap, ◌∙◌}
use mathlib.Core.Bool.{Bool, true, false, cond}
use mathlib.Core.List.{List}
use lib.Dec.{ltb}
use lib.ListN.{length}
use lib.Seq.{length-sets}
use Rattle.std.specs.Prelude.{Some, None}
use Rattle.layout.specs.declared.Entry.{Entry}
use Rattle.record.specs.Refusals.{Nothing as Fine, accepted}
use Rattle.record.specs.declared.History.{History}
use Rattle.record.specs.Levels.{seq_at, start_at, last_end_at}
use Rattle.record.specs.Moves.{closed, raised, made, stored, stretched}
use Rattle.settle.specs.declared.Plan.{Plan}
use Rattle.settle.specs.Settle.{settle, plan_refusal}
use Rattle.build.specs.Moves.{Held, Room, put_head, with_child, close, raise, make, store}
use Rattle.build.specs.Write.{rise, climb, descend, stretch, chained, placed, written, inserted, close_all, planted}
use Rattle.build.specs.Trial.{Tried, rise_on, climb_on, descend_on, placed_on, planned, tried}
use Rattle.build.proofs.Stands.{length_head, length_new, length_child}

-- ---- the moves

module _ (σ : Held) where
  pub close_length : length (close σ).nodes ≡ length σ.nodes
  unfolding close
  close_length = let h = σ.history in length_head h h.low σ.nodes h.largest_end 2

  pub raise_length : length (raise σ).nodes ≡ length σ.nodes
  unfolding raise
  raise_length =
      let h = σ.history in
      let g = raised h in
      let b = put_head g h.top h.largest_end 2 σ.nodes in
      length_new g (h.top + 1) b (Some (record { sequence = seq_at h.branch h.top; start = start_at h.branch h.top }))
      ∙ length_head g h.top σ.nodes h.largest_end 2

  pub make_history : (a l : ℕ) → (make a l σ).history ≡ made σ.history a l
  unfolding make
  make_history a l = refl

  pub make_length : (a l : ℕ) → length (make a l σ).nodes ≡ length σ.nodes
  unfolding make
  make_length a l =
      let h = σ.history in
      let g = made h a l in
      length_new g l (with_child h g a (l + 1) σ.nodes) None ∙ length_child h g a (l + 1) σ.nodes

  pub store_history : (e : Entry) (l : ℕ) → (store e l σ).history ≡ stored σ.history l
  unfolding store
  store_history e l = refl

  pub store_length : (e : Entry) (l : ℕ) → length (store e l σ).nodes ≡ length σ.nodes
  unfolding store
  store_length e l = simp (length-sets, length_head)

  pub rise_history : (rise σ).history ≡ rise_on σ.history
  unfolding rise rise_on close raise
  rise_history = go (ltb σ.history.low σ.history.top)
    where
      go : (t : Bool) → (cond t (close σ) (raise σ)).history ≡ cond t (closed σ.history) (raised σ.history)
      go true = refl
      go false = refl

  pub rise_length : length (rise σ).nodes ≡ length σ.nodes
  unfolding rise
  rise_length = go (ltb σ.history.low σ.history.top)
    where
      go : (t : Bool) → length (cond t (close σ) (raise σ)).nodes ≡ length σ.nodes
      go true = close_length
      go false = raise_length

-- ---- the runs of moves

pub climb_history : (n : ℕ) (σ : Held) → (climb n σ).history ≡ climb_on n σ.history
unfolding climb climb_on
climb_history zero σ = refl
climb_history (suc n) σ = climb_history n (rise σ) ∙ ap (climb_on n) (rise_history σ)

pub climb_length : (n : ℕ) (σ : Held) → length (climb n σ).nodes ≡ length σ.nodes
unfolding climb
climb_length zero σ = refl
climb_length (suc n) σ = climb_length n (rise σ) ∙ rise_length σ

pub descend_history : (a n : ℕ) (σ : Held) → (descend a n σ).history ≡ descend_on a n σ.history
unfolding descend descend_on
descend_history a zero σ = refl
descend_history a (suc n) σ = descend_history a n (make a n σ) ∙ ap (descend_on a n) (make_history σ a n)

pub descend_length : (a n : ℕ) (σ : Held) → length (descend a n σ).nodes ≡ length σ.nodes
unfolding descend
descend_length a zero σ = refl
descend_length a (suc n) σ = descend_length a n (make a n σ) ∙ make_length σ a n

-- ---- the plan

module _ (e : Entry) (p : Plan) (σ : Held) where
  pub placed_history : (placed e p σ).history ≡ placed_on p σ.history
  unfolding placed placed_on
  placed_history = go p.chain
    where
      a : ℕ
      a = last_end_at σ.history.branch p.level + 1

      go : (t : Bool) → (cond t (chained e p.level σ) (store e p.level σ)).history ≡ cond t (stored (descend_on a p.level σ.history) 0) (stored σ.history p.level)
      go true = store_history (descend a p.level σ) e 0 ∙ ap (λ (g : History). stored g 0) (descend_history a p.level σ)
      go false = store_history σ e p.level

  pub placed_length : length (placed e p σ).nodes ≡ length σ.nodes
  unfolding placed
  placed_length = go p.chain
    where
      a : ℕ
      a = last_end_at σ.history.branch p.level + 1

      go : (t : Bool) → length (cond t (chained e p.level σ) (store e p.level σ)).nodes ≡ length σ.nodes
      go true = store_length (descend a p.level σ) e 0 ∙ descend_length a p.level σ
      go false = store_length σ e p.level

pub stretch_history : (e : ℕ) (σ : Held) → (stretch e σ).history ≡ stretched σ.history e
unfolding stretch
stretch_history e σ = refl

pub stretch_nodes : (e : ℕ) (σ : Held) → (stretch e σ).nodes ≡ σ.nodes
unfolding stretch
stretch_nodes e σ = refl

module _ (e : Entry) (p : Plan) (σ : Held) where
  pub written_history : (written e p σ).history ≡ planned p e.end σ.history
  unfolding written planned
  written_history =
      placed_history e p (stretch e.end (climb p.closes σ))
      ∙ ap (placed_on p) (stretch_history e.end (climb p.closes σ) ∙ ap (λ (g : History). stretched g e.end) (climb_history p.closes σ))

  pub written_length : length (written e p σ).nodes ≡ length σ.nodes
  unfolding written
  written_length =
      placed_length e p (stretch e.end (climb p.closes σ))
      ∙ ap length (stretch_nodes e.end (climb p.closes σ))
      ∙ climb_length p.closes σ

-- ---- storing an interval

module _ (e : Entry) (σ : Held) where
  -- the record after it is that of the trial
  pub inserted_history : (inserted e σ).history ≡ (tried σ.history e.start e.end).history
  unfolding inserted tried
  inserted_history = go (accepted (plan_refusal σ.history p))
    where
      p : Plan
      p = settle σ.history e.start

      go : (t : Bool) → (cond t (written e p σ) σ).history
          ≡ (cond {A = Tried} t (record { refusal = Fine; history = planned p e.end σ.history }) (record { refusal = plan_refusal σ.history p; history = σ.history })).history
      go true = written_history e p σ
      go false = refl

  pub inserted_length : length (inserted e σ).nodes ≡ length σ.nodes
  unfolding inserted
  inserted_length = go (accepted (plan_refusal σ.history p))
    where
      p : Plan
      p = settle σ.history e.start

      go : (t : Bool) → length (cond t (written e p σ) σ).nodes ≡ length σ.nodes
      go true = written_length e p σ
      go false = refl

-- ---- opening, and closing all

pub close_all_length : (h : History) (t n l : ℕ) (b : List ℕ) → length (close_all h t n l b) ≡ length b
unfolding close_all
close_all_length h t zero l b = refl
close_all_length h t (suc n) l b = close_all_length h t n (l + 1) (put_head h l t 2 b) ∙ length_head h l b t 2

pub planted_length : (h : History) (b : List ℕ) → length (planted h b) ≡ length b
unfolding planted
planted_length h b = length_new h 0 b None

-- ---- room

pub room_kept : (h g : History) (b c : List ℕ) → g.shape ≡ h.shape → length c ≡ length b → Room h b → Room g c
room_kept h g b c same long room = rw (same, long) room
