-- One interval: storing it by record and bytes is the model's insert, is refused when the model's is, and leaves what it should. Assumes nothing.
use Prim.Native.Nat.{ℕ, suc, ◌+◌, ◌-◌, ◌*◌, ◌≤◌, ◌<◌, max}
use mathlib.Core.Bool.{Bool, true, false, cond}
use mathlib.Core.Logic.{◌⊎◌, inl, inr}
use mathlib.Core.Path.{◌≡◌, refl, sym, ap, ◌∙◌, subst}
use mathlib.Core.List.{List, ◌++◌, Memᴰ}
use native.Mathlib.Omega.{arith}
use lib.Dec.{ltb}
use lib.ListN.{length, get_or, take, drop}
use lib.Seq.{drop_at}
use borrow.Author.Tests.{lt-ltb, le-ltb, ltb-true, ltb-false}
use Rattle.layout.specs.declared.Shape.{Shape}
use Rattle.layout.specs.Layout.{node_size, encode}
use Rattle.record.specs.declared.History.{History}
use Rattle.record.specs.Refusals.{Reply, Nothing, Deep, NoRoom, number_of, accepted}
use Rattle.settle.specs.declared.Plan.{Plan}
use Rattle.settle.specs.Settle.{settle, needed, too_deep, no_room, plan_refusal}
use Rattle.build.specs.Moves.{Held}
use Rattle.build.specs.Write.{written, inserted}
use Rattle.build.proofs.Steps.{inserted_length}
use Rattle.model.specs.Transient.{Interval}
use Rattle.model.specs.Build.{Tree, insert, begin, depth}
use Rattle.model.specs.Nodes.{close_all, Node, nodes, blank, ∞, upto, seqs}
use Rattle.model.specs.Refusals.{limit}
use Rattle.model.specs.Invariant.{Sound}
use Rattle.model.proofs.ByPlace.{at_mem, place_at, at_place}
use Rattle.model.proofs.Closed.{closed, insert_closed, close_all_closed, close_all_split, sub_mem}
use Rattle.model.proofs.EachNode.{close_all_has, close_all_from}
use Rattle.model.proofs.Grows.{insert_grows}
use Rattle.model.proofs.Keep.{tree_steps, insert_sound}
use Rattle.model.proofs.Legal.{Sane}
use Rattle.model.proofs.Ready.{Ready, ready_numbers}
use Rattle.model.proofs.Sized.{steps_rooms}
use Rattle.represents.specs.Represents.{shape_of, entry_of, node_of, bytes_of, Represents}
use Rattle.represents.proofs.Bytes.{many_nodes, length_bytes, node_bytes}
use Rattle.represents.proofs.Moves.{StandsFor}
use Rattle.represents.proofs.Carried.{Done, Judged, Outcome, room_for, begin_stands}

-- ---- the two tests are the model's

same_depth_test : (top level : ℕ) → top < 16 → ltb 15 level ≡ ltb 16 (suc (max top level))
same_depth_test top level lt = go (ltb 15 level) refl
  where
    go : (t : Bool) → ltb 15 level ≡ t → t ≡ ltb 16 (suc (max top level))
    go true e = let y = ltb-true 15 level e in sym (lt-ltb 16 (suc (max top level)) (omega arith))
    go false e = let y = ltb-false 15 level e in sym (le-ltb 16 (suc (max top level)) (omega arith))

-- the places left, where no more are used than there are
same_room_test : (n used k : ℕ) → used ≤ n → ltb (n - used) k ≡ ltb n (used + k)
same_room_test n used k le = go (ltb (n - used) k) refl
  where
    go : (t : Bool) → ltb (n - used) k ≡ t → t ≡ ltb n (used + k)
    go true e = let y = ltb-true (n - used) k e in sym (lt-ltb n (used + k) (omega arith))
    go false e = let y = ltb-false (n - used) k e in sym (le-ltb n (used + k) (omega arith))

number_of_lem : (d r : Bool) → number_of (cond d Deep (cond r NoRoom Nothing)) ≡ cond d 10 (cond r 11 0)
unfolding number_of
number_of_lem true r = refl
number_of_lem false true = refl
number_of_lem false false = refl

-- only acceptance has the number 0
pub number_nothing : (h : History) (p : Plan) → number_of (plan_refusal h p) ≡ 0 → plan_refusal h p ≡ Nothing
unfolding plan_refusal number_of
number_nothing h p = go (too_deep p) (no_room h p)
  where
    go : (d r : Bool) → number_of (cond d Deep (cond r NoRoom Nothing)) ≡ 0 → cond d Deep (cond r NoRoom Nothing) ≡ Nothing
    go true r e = absurd (omega arith)
    go false true e = absurd (omega arith)
    go false false e = refl

-- ---- the link

module _ (s : Shape) (x : Interval) (t : Tree) (σ : Held) (early : x.end < ∞) (rep : Represents s t σ) where
  abbrev plan : Plan
  plan = settle σ.history x.start

  start : StandsFor s σ.nodes t.start t.largest t.used t.branch σ
  start = record { numbers = rep.numbers; bytes = rep.bytes; room = rep.room; counted = rep.ready.counted; small = rep.small }

  outcome : Outcome s x σ.nodes t.start t.largest t.used rep.shaped early σ rep.numbers.shape rep.numbers.largest rep.numbers.used rep.within plan
      (begin (shape_of s) x t.start t.largest t.used t.branch)
  outcome =
      begin_stands s x σ.nodes t.start t.largest t.used rep.shaped early σ rep.numbers.shape rep.numbers.largest rep.numbers.used rep.within
      t.branch rep.some rep.ready.rooms start

  -- it is refused, with 10 or with 11, exactly when the model's insert passes the limit
  pub refused_same : number_of (plan_refusal σ.history plan) ≡ limit s.n (insert (shape_of s) x t)
  unfolding insert plan_refusal Outcome Judged
  refused_same =
      let j = outcome.0 in
      let h = σ.history in
      let room : ltb (h.shape.n - h.used) (needed h.top plan) ≡ ltb s.n (insert (shape_of s) x t).used =
      same_room_test h.shape.n h.used (needed h.top plan) (omega (arith, rep.within, rep.numbers.used, ap (λ (z : Shape). z.n) rep.numbers.shape))
      ∙ (λ i. ltb (rep.numbers.shape i).n (sym j.1 i)) in
      number_of_lem (too_deep plan) (no_room h plan)
      ∙ ap (λ (z : Bool). cond z 10 (cond (no_room h plan) 11 0)) (same_depth_test h.top plan.level rep.numbers.shallow ∙ ap (λ (z : ℕ). ltb 16 z) (sym j.0))
      ∙ ap (λ (z : Bool). cond (ltb 16 (depth (insert (shape_of s) x t).branch)) 10 (cond z 11 0)) room

  module _ (sane : Sane t.start x) (passed : plan_refusal σ.history plan ≡ Nothing) where
    abbrev t' : Tree
    t' = insert (shape_of s) x t

    abbrev σ' : Held
    σ' = inserted (entry_of x) σ

    is_written : written (entry_of x) plan σ ≡ σ'
    unfolding inserted
    is_written = ap (λ (z : Reply). cond (accepted z) (written (entry_of x) plan σ) σ) (sym passed)

    stood : StandsFor s σ.nodes t'.start t'.largest t'.used t'.branch σ'
    unfolding insert Outcome Done
    stood = subst (λ (z : Held). StandsFor s σ.nodes t'.start t'.largest t'.used t'.branch z) is_written (outcome.1 passed)

    sound : Sound t
    sound = record { branch = rep.ready.branch; some = rep.some; low = rep.ready.low }

    ready : Ready (shape_of s) t'.start t'.largest t'.used t'.branch
    unfolding insert
    ready =
        let z = insert_sound (shape_of s) x t rep.shaped sane sound in
        record {
          branch = z.branch;
          rooms = steps_rooms (shape_of s) rep.shaped (tree_steps (shape_of s) x t rep.shaped sane sound) rep.ready.rooms;
          counted = stood.counted;
          low = z.low;
        }

    -- as many nodes as there is room for
    within : t'.used ≤ s.n
    unfolding insert Outcome Judged
    within =
        let r = room_for s x σ.nodes t.start t.largest t.used rep.shaped early σ rep.numbers.shape rep.numbers.largest rep.numbers.used rep.within plan passed in
        omega (arith, r.1, outcome.0.1, rep.numbers.used)

    many : length (nodes (close_all ∞ t'.branch)) ≡ t'.used
    many = many_nodes t'.used (nodes (close_all ∞ t'.branch)) (ready_numbers ∞ t'.used t'.branch stood.counted)

    -- bytes behind the nodes used are as before
    pub beyond : drop (t'.used * node_size s) σ'.nodes ≡ drop (t'.used * node_size s) σ.nodes
    beyond =
        let ns = nodes (close_all ∞ t'.branch) in
        ap (λ (z : List ℕ). drop (t'.used * node_size s) z) stood.bytes
        ∙ drop_at (bytes_of s ns) (drop (t'.used * node_size s) σ.nodes) (t'.used * node_size s) (length_bytes s t'.used ns many)

    -- the buffer keeps its length
    pub same_length : length σ'.nodes ≡ length σ.nodes
    same_length = inserted_length (entry_of x) σ

    -- what stands after it represents the model's tree after it
    pub inserted_represents : Represents s t' σ'
    unfolding insert
    inserted_represents = record {
      numbers = stood.numbers;
      bytes = stood.bytes ∙ ap (λ (z : List ℕ). bytes_of s (nodes (close_all ∞ t'.branch)) ++ z) (sym beyond);
      room = omega (arith, rep.room, same_length);
      within = within;
      shaped = rep.shaped;
      ready = ready;
      some = (insert_sound (shape_of s) x t rep.shaped sane sound).some;
      small = stood.small;
    }

    -- what is closed stays, by places
    pub closed_kept : (i : ℕ) → i < t.used → ((get_or (nodes (close_all ∞ t.branch)) i blank).end ≡ ∞ → ⊥)
        → get_or (nodes (close_all ∞ t'.branch)) i blank ≡ get_or (nodes (close_all ∞ t.branch)) i blank
    closed_kept i lt shut = go (close_all_split ∞ t.branch m (close_all_from ∞ t.branch m (at_mem ns i lt')))
      where
        ns : List Node
        ns = nodes (close_all ∞ t.branch)

        num : seqs ns ≡ upto t.used
        num = ready_numbers ∞ t.used t.branch rep.ready.counted

        lt' : i < length ns
        lt' = omega (arith, lt, many_nodes t.used ns num)

        m : Node
        m = get_or ns i blank

        go : Memᴰ m (closed t.branch) ⊎ (m.end ≡ ∞) → get_or (nodes (close_all ∞ t'.branch)) i blank ≡ m
        go (inl d) =
            ap (λ (z : ℕ). get_or (nodes (close_all ∞ t'.branch)) z blank) (sym (place_at t.used ns i num lt'))
            ∙ at_place t'.used (nodes (close_all ∞ t'.branch)) m (ready_numbers ∞ t'.used t'.branch stood.counted)
            (close_all_has ∞ t'.branch m (sub_mem (close_all_closed ∞ t'.branch) (sub_mem (insert_closed (shape_of s) x t rep.shaped sane sound) d)))
        go (inr e) = absurd (shut e)

    -- and so do its bytes
    pub closed_bytes : (i : ℕ) → i < t.used → ((get_or (nodes (close_all ∞ t.branch)) i blank).end ≡ ∞ → ⊥)
        → take (node_size s) (drop (i * node_size s) σ'.nodes) ≡ take (node_size s) (drop (i * node_size s) σ.nodes)
    closed_bytes i lt shut =
        let ns = nodes (close_all ∞ t.branch) in
        let ns' = nodes (close_all ∞ t'.branch) in
        let n : length ns ≡ t.used = many_nodes t.used ns (ready_numbers ∞ t.used t.branch rep.ready.counted) in
        let grows = (insert_grows (shape_of s) x t rep.shaped sane sound).0 in
        ap (λ (z : List ℕ). take (node_size s) (drop (i * node_size s) z)) stood.bytes
        ∙ (node_bytes s ns' (drop (t'.used * node_size s) σ.nodes) i (omega (arith, lt, many, grows))
        ∙ (ap (λ (z : Node). encode s (node_of z)) (closed_kept i lt shut)
        ∙ sym (ap (λ (z : List ℕ). take (node_size s) (drop (i * node_size s) z)) rep.bytes ∙ node_bytes s ns (drop (t.used * node_size s) σ.nodes) i (omega (arith, lt, n)))))
