-- Set, remove and increment: what an accepted change leaves shows the model's next history. Assumes nothing.
use Prim.Native.Nat.{ℕ, ◌-◌, ◌^◌, ◌≤◌, ◌<◌}
use mathlib.Core.Bool.{Bool, true, false, cond, false≢true}
use mathlib.Core.Path.{◌≡◌, refl, sym, ap, ◌∙◌, subst}
use mathlib.Core.List.{List, ◌∷◌, ◌++◌}
use native.Mathlib.Omega.{arith}
use lib.Dec.{eqb}
use lib.ListN.{length}
use borrow.Author.Tests.{eqb-true, eqb-false}
use Rattle.layout.specs.declared.Shape.{Shape}
use Rattle.record.specs.declared.History.{History}
use Rattle.record.specs.Refusals.{Reply, Nothing, accepted}
use Rattle.record.specs.Moves.{at_time}
use Rattle.transient.specs.declared.Ongoing.{Ongoing}
use Rattle.transient.specs.Transient.{ongoing_at, interval, with_ongoing, decide, OngoingFits}
use Rattle.transient.proofs.Table.{entry_room, length_with, ongoing_back, ongoing_other}
use Rattle.settle.specs.Settle.{settle, plan_refusal}
use Rattle.build.specs.Moves.{held}
use Rattle.build.specs.Write.{inserted}
use Rattle.build.specs.Carried.{Alike}
use Rattle.build.proofs.Inserted.{inserted_alike}
use Rattle.build.proofs.Steps.{inserted_length}
use Rattle.calls.specs.Outcome.{Outcome, outcome, answered}
use Rattle.calls.specs.Change.{carried, change_refusal, change_of}
use Rattle.model.specs.State.{State, same}
use Rattle.model.specs.Transient as M
use Rattle.model.specs.Transient.{Interval, Effect, stays, replaced, ended, effect, after, to_store, stores, becomes, change, put, step}
use Rattle.model.specs.Build.{onto, build}
use Rattle.model.specs.Nodes.{tree_of}
use Rattle.model.specs.Refusals.{passes_top, limits, refuse}
use Rattle.model.specs.Theorems.{Change64}
use Rattle.model.proofs.Legal.{Sane, change_passed, accepted_stated_lem, accepted_fitting}
use Rattle.represents.specs.Represents.{shape_of, entry_of, Represents}
use Rattle.represents.specs.Histories.{ongoing_of, Shows}
use Rattle.represents.specs.Calls.{change_is}
use Rattle.represents.proofs.Linked.{number_nothing, refused_same, inserted_represents}
use Rattle.represents.proofs.Unseen.{at_time_lem}
use Rattle.represents.proofs.Real.{Real}
use Rattle.represents.proofs.Whole.{tree_start, value_fits, state_fits}
use Rattle.record.proofs.Said.{zero_nothing}
use Rattle.represents.proofs.Decided.{decision_of, decides, becomes_within}
use Rattle.represents.proofs.ChangeAnswers.{change_answer}

-- an interval is ended only by a change at another time than that of its start
ended_later : (x y : Bool) → cond x stays (cond y replaced ended) ≡ ended → y ≡ false
ended_later true y e = let z : ◌≡◌ {A = ℕ} 0 1 = cc in absurd (omega arith)
ended_later false true e = let z : ◌≡◌ {A = ℕ} 0 1 = cc in absurd (omega arith)
ended_later false false e = refl

module _ (s : Shape) (l : M.History) (h : History) (b table : List ℕ) (real : Real l) (shows : Shows s l h b table) (going : l.finished ≡ false) (t : ℕ) where
  -- the history with these ongoing states and intervals at t
  abbrev next : (ℕ → M.Ongoing) → List Interval → M.History
  next f ivs = record { start = l.start; latest = t; attributes = l.attributes; finished = l.finished; table = f; stored = ivs }

  moved : (g : History) (c table' : List ℕ) (f : ℕ → M.Ongoing) (ivs : List Interval) → Alike h g → length c ≡ length b → length table' ≡ length table
      → Represents s (build (shape_of s) l.start ivs) (held g c) → ((x : ℕ) → x < l.attributes → ongoing_at table' x ≡ ongoing_of (f x))
      → Shows s (next f ivs) (at_time g t) c table'
  unfolding at_time
  moved g c table' f ivs a same long rep each = record {
    shape = a.shape ∙ shows.shape;
    start = a.start ∙ shows.start;
    latest = refl;
    attributes = a.attributes ∙ shows.attributes;
    finished = a.finished ∙ shows.finished;
    allowed = shows.allowed;
    few = shows.few;
    room = omega (arith, shows.room);
    until = λ e. record {
      tree = at_time_lem s (build (shape_of s) l.start ivs) g c rep t;
      long = rw long (shows.until going).long;
      entries = each;
    };
    after = λ e. absurd (false≢true (sym going ∙ e));
  }

  alike : Alike h h
  alike = record { shape = refl; start = refl; latest = refl; attributes = refl; finished = refl }

  -- ---- the table

  module _ (q : ℕ) (lt : q < l.attributes) where
    entries_stay : (x : ℕ) → x < l.attributes → ongoing_at table x ≡ ongoing_of (put l.table q (l.table q) x)
    entries_stay x less = (shows.until going).entries x less ∙ ap ongoing_of (sym (go (eqb q x) refl))
      where
        go : (y : Bool) → eqb q x ≡ y → cond y (l.table q) (l.table x) ≡ l.table x
        go true e = ap l.table (eqb-true q x e)
        go false e = refl

    entries_put : (o : M.Ongoing) → OngoingFits (ongoing_of o) → (x : ℕ) → x < l.attributes
        → ongoing_at (with_ongoing table (record { 0 = q }) (ongoing_of o)) x ≡ ongoing_of (put l.table q o x)
    entries_put o fits x less = go (eqb q x) refl
      where
        u : q < 2 ^ 32
        u = omega (arith, shows.few)

        go : (y : Bool) → eqb q x ≡ y → ongoing_at (with_ongoing table (record { 0 = q }) (ongoing_of o)) x ≡ ongoing_of (cond y o (l.table x))
        go true e =
            ap (ongoing_at (with_ongoing table (record { 0 = q }) (ongoing_of o))) (sym (eqb-true q x e))
            ∙ ongoing_back table (record { 0 = q }) (ongoing_of o) u fits (entry_room q l.attributes (length table) lt (shows.until going).long)
        go false e =
            let k = eqb-false q x e in ongoing_other table (record { 0 = q }) (ongoing_of o) x (λ z. k (sym z)) ∙ (shows.until going).entries x less

    -- ---- the three effects, where v is the new state

    abbrev was : M.Ongoing
    was = l.table q

    -- what stands after the change, in the model and here
    abbrev changed : Effect → State → M.History
    changed e v = next (put l.table q (after e was v t)) (to_store e q was t ++ l.stored)

    abbrev left : Effect → State → Outcome
    left e v = carried h t (record { 0 = q }) (ongoing_of was) b table (decision_of e (record { state = v; start = t }))

    module _ (v : State) (fits : OngoingFits (ongoing_of (record { state = v; start = t }))) where
      left_stays : Shows s (changed stays v) (left stays v).answer.history (left stays v).nodes (left stays v).table
      unfolding carried
      left_stays = moved h b table _ l.stored alike refl refl (shows.until going).tree entries_stay

      left_replaced : Shows s (changed replaced v) (left replaced v).answer.history (left replaced v).nodes (left replaced v).table
      unfolding carried
      left_replaced =
          moved h b (with_ongoing table (record { 0 = q }) (ongoing_of (record { state = v; start = t }))) _ l.stored alike refl
          (length_with table (record { 0 = q }) (ongoing_of (record { state = v; start = t }))) (shows.until going).tree (entries_put (record { state = v; start = t }) fits)

      module _ (early : t < 2 ^ 63) (later : l.latest ≤ t) (other : was.start ≡ t → ⊥) (passes : limits (shape_of s) s.n (to_store ended q was t) (tree_of (shape_of s) l) ≡ 0) where
        abbrev x : Interval
        x = record { quark = q; state = was.state; start = was.start; end = t - 1 }

        passed : plan_refusal h (settle h was.start) ≡ Nothing
        unfolding limits onto
        passed =
            number_nothing h (settle h was.start) (refused_same s x (tree_of (shape_of s) l) (held h b) (omega arith) (shows.until going).tree ∙ passes)

        sane : Sane (tree_of (shape_of s) l).start x
        sane = (omega (arith, tree_start (shape_of s) l.start l.stored, (real.begun going q).0), omega (arith, (real.begun going q).1))

        left_ended : Shows s (changed ended v) (left ended v).answer.history (left ended v).nodes (left ended v).table
        unfolding carried interval build
        left_ended =
            moved (inserted (entry_of x) (held h b)).history (inserted (entry_of x) (held h b)).nodes (with_ongoing table (record { 0 = q }) (ongoing_of (record { state = v; start = t }))) _ (x ∷ l.stored)
            (inserted_alike h b (entry_of x)) (inserted_length (entry_of x) (held h b)) (length_with table (record { 0 = q }) (ongoing_of (record { state = v; start = t })))
            (inserted_represents s x (tree_of (shape_of s) l) (held h b) (omega arith) (shows.until going).tree sane passed) (entries_put (record { state = v; start = t }) fits)

      left_shows : (e : Effect) → t < 2 ^ 63 → l.latest ≤ t → (e ≡ ended → was.start ≡ t → ⊥) → limits (shape_of s) s.n (to_store e q was t) (tree_of (shape_of s) l) ≡ 0
          → Shows s (changed e v) (left e v).answer.history (left e v).nodes (left e v).table
      left_shows stays early later other passes = left_stays
      left_shows replaced early later other passes = left_replaced
      left_shows ended early later other passes = left_ended early later (other refl) passes

-- ---- the call

module _ (s : Shape) (l : M.History) (h : History) (b table : List ℕ) (real : Real l) (shows : Shows s l h b table) (m t q : ℕ) (c : M.Change) (fit : Change64 c)
    (taken : refuse (shape_of s) s.n m l (change t q c) ≡ 0) where
  abbrev o : M.Ongoing
  o = l.table q

  abbrev v : State
  v = becomes c o.state

  abbrev e : Effect
  e = effect v o t

  facts : (l.finished ≡ false) × (q < l.attributes) × (t < 2 ^ 63) × (l.latest ≤ t) × (passes_top c o.state ≡ false)
  facts = change_passed m l t q c (accepted_stated_lem (shape_of s) s.n m l (change t q c) taken)

  fitting : limits (shape_of s) s.n (to_store e q o t) (tree_of (shape_of s) l) ≡ 0
  unfolding stores
  fitting = accepted_fitting (shape_of s) s.n m l (change t q c) taken

  -- what it comes to
  pub change_comes : change_of h t (record { 0 = q }) (change_is c) b table ≡ carried h t (record { 0 = q }) (ongoing_of o) b table (decision_of e (record { state = v; start = t }))
  unfolding change_of
  change_comes =
      let is : ongoing_at table q ≡ ongoing_of o = (shows.until facts.0).entries q facts.1 in
      let decision = ap (λ (z : Ongoing). decide z t (change_is c)) is ∙ decides o t c fit (value_fits o.state (real.values q)) facts.4 in
      let nothing = zero_nothing (change_refusal h t (record { 0 = q }) (change_is c) b table) (change_answer s l h b table real shows m t q c fit ∙ taken) in
      ap (λ (r : Reply). cond (accepted r) (carried h t (record { 0 = q }) (ongoing_at table q) b table (decide (ongoing_at table q) t (change_is c)))
      (outcome (answered r h) b table)) nothing
      ∙ (λ i. carried h t (record { 0 = q }) (is i) b table (decision i))

  -- what it leaves shows the model's next history
  pub change_shows : let r = change_of h t (record { 0 = q }) (change_is c) b table in Shows s (step (change t q c) l) r.answer.history r.nodes r.table
  unfolding step stores
  change_shows =
      let k = facts in
      let fits = state_fits v t (becomes_within c o.state fit (value_fits o.state (real.values q)) k.4) k.2 in
      subst (λ (r : Outcome). Shows s (step (change t q c) l) r.answer.history r.nodes r.table) (sym change_comes)
      (left_shows s l h b table real shows k.0 t q k.1 v fits e k.2 k.3 (λ is z. eqb-false o.start t (ended_later (same v o.state) (eqb o.start t) is) z) fitting)
