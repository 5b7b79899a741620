-- Finish: the answer is the model's, and what it leaves shows the model's finished history. Assumes nothing.
use Prim.Native.Nat.{ℕ, ◌+◌, ◌-◌, ◌*◌, ◌^◌, ◌≤◌, ◌<◌}
use mathlib.Core.Bool.{true, false, cond, not, true≢false}
use mathlib.Core.Path.{◌≡◌, refl, sym, ap, ◌∙◌, subst}
use mathlib.Core.List.{List, ◌++◌, reverse}
use native.Mathlib.Omega.{arith}
use lib.Dec.{ltb}
use lib.ListN.{length, drop}
use lib.Seq.{drop_at}
use borrow.Author.Tests.{ltb-false}
use Rattle.layout.specs.declared.Shape.{Shape}
use Rattle.layout.specs.Layout.{node_size}
use Rattle.record.specs.declared.History.{History}
use Rattle.record.specs.Refusals.{Nothing, Short, Damaged, Finished, Outside, Early, accepted, number_of}
use Rattle.record.specs.Sound.{last_time}
use Rattle.record.specs.Moves.{finished_at}
use Rattle.build.specs.Moves.{Held, held}
use Rattle.build.specs.Write as W
use Rattle.build.proofs.Steps.{close_all_length}
use Rattle.calls.specs.Outcome.{Outcome, outcome, answered}
use Rattle.calls.specs.Finish.{all_sound, trial, finish_refusal, stored_from, finish_of}
use Rattle.model.specs.Transient as M
use Rattle.model.specs.Transient.{Interval, last_intervals, finish, stores, step}
use Rattle.model.specs.Build.{Tree, onto}
use Rattle.model.specs.Nodes.{∞, nodes, close_all, tree_of}
use Rattle.model.specs.Refusals.{limits, refuse, refuse_stated, sooner}
use Rattle.model.proofs.Legal.{Sanes, finish_passed, accepted_stated_lem, accepted_fitting}
use Rattle.model.proofs.Onto.{step_tree}
use Rattle.model.proofs.Ready.{ready_numbers}
use Rattle.represents.specs.Represents.{shape_of, bytes_of, Represents}
use Rattle.represents.specs.Run as Run
use Rattle.represents.specs.Run.{tried_all, inserted_all}
use Rattle.represents.specs.Histories.{After, Shows}
use Rattle.represents.proofs.Bytes.{many_nodes, length_bytes}
use Rattle.represents.proofs.Run.{run_refused_same, run_represents}
use Rattle.represents.proofs.Ends.{closed_all}
use Rattle.represents.proofs.Levels.{rooted}
use Rattle.represents.proofs.Real.{Real}
use Rattle.represents.proofs.Whole.{tree_start, whole, long_enough_lem, entry_sound_lem}
use Rattle.record.proofs.Said.{zero_nothing}
use Rattle.represents.proofs.Numbers.{then_4, then_5}
use Rattle.represents.proofs.Trials.{all_each, last_from, last_all, last_sane, last_early, trial_all, stored_all, all_alike, all_length}

-- ---- closing all, on what represents a tree

module _ (s : Shape) (T : ℕ) (t : Tree) (σ : Held) (early : T < ∞) (rep : Represents s t σ) where
  abbrev g : History
  g = σ.history

  abbrev closed : List ℕ
  closed = W.close_all g T (g.top + 1 - g.low) g.low σ.nodes

  -- the nodes closed with T; behind them the buffer is as it was
  closed_beyond : drop (t.used * node_size s) closed ≡ drop (t.used * node_size s) σ.nodes
  closed_beyond =
      let ns = nodes (close_all T t.branch) in
      ap (drop (t.used * node_size s)) (closed_all s T t σ early rep)
      ∙ drop_at (bytes_of s ns) (drop (t.used * node_size s) σ.nodes) (t.used * node_size s)
      (length_bytes s t.used ns (many_nodes t.used ns (ready_numbers T t.used t.branch rep.ready.counted)))

  closed_after : After s T t (finished_at g T) closed
  unfolding finished_at
  closed_after = let n = rep.numbers in record {
    used = n.used;
    largest = n.largest;
    within = rep.within;
    low = refl;
    shallow = n.shallow;
    root = rooted g.branch s t.start t.largest t.used g.top g.low t.branch rep.some n.top n.lines;
    bytes = closed_all s T t σ early rep ∙ ap (λ (z : List ℕ). bytes_of s (nodes (close_all T t.branch)) ++ z) (sym closed_beyond);
  }

-- ---- the call

module _ (s : Shape) (l : M.History) (h : History) (b table : List ℕ) (real : Real l) (shows : Shows s l h b table) (m t : ℕ) where
  abbrev before : Tree
  before = tree_of (shape_of s) l

  -- the intervals that it stores, in quark order
  abbrev xs : List Interval
  xs = last_from l.table t l.attributes 0

  module _ (going : l.finished ≡ false) (later : l.latest ≤ t) (early : t ≤ last_time) where
    sane : Sanes before.start xs
    sane =
        last_sane l.table t before.start l.attributes 0
        (λ q. (omega (arith, tree_start (shape_of s) l.start l.stored, (real.begun going q).0), omega (arith, (real.begun going q).1)))

    ends : Run.Early xs
    ends = last_early l.table t l.attributes 0 (omega arith)

    trial_is : trial h.attributes 0 table t h ≡ tried_all xs h
    trial_is =
        ap (λ (n : ℕ). trial n 0 table t h) shows.attributes
        ∙ trial_all l.table t table l.attributes (shows.until going).entries l.attributes 0 h (omega arith)

    tried_same : number_of (tried_all xs h) ≡ limits (shape_of s) s.n (last_intervals l.table t l.attributes) before
    tried_same =
        run_refused_same s before xs (held h b) (shows.until going).tree sane ends
        ∙ ap (λ (z : List Interval). limits (shape_of s) s.n z before) (last_all l.table t l.attributes)

  all_sound_lem : l.finished ≡ false → all_sound h table ≡ true
  unfolding all_sound
  all_sound_lem going = all_each _ 0 h.attributes (λ q lt. entry_sound_lem s l h b table real shows going q (omega (arith, shows.attributes)))

  -- 3 entries, 6, 5, 10, 11
  timely_same : l.finished ≡ false
      → number_of (cond (not (all_sound h table)) Damaged (cond (ltb last_time t) Outside (cond (ltb t h.latest) Early (trial h.attributes 0 table t h))))
      ≡ sooner (cond (ltb last_time t) 6 (cond (ltb t l.latest) 5 0)) (limits (shape_of s) s.n (last_intervals l.table t l.attributes) before)
  timely_same going =
      (λ i. number_of (cond (not (all_sound_lem going i)) Damaged (cond (ltb last_time t) Outside (cond (ltb t (shows.latest i)) Early (trial h.attributes 0 table t h)))))
      ∙ then_5 (ltb last_time t) (ltb t l.latest) (trial h.attributes 0 table t h) _
      (λ x y. let early = ltb-false last_time t x in let later = ltb-false t l.latest y in ap number_of (trial_is going later early) ∙ tried_same going later early)

  -- the answer is the model's
  pub finish_answer : number_of (finish_refusal h t (length b) table) ≡ refuse (shape_of s) s.n m l (finish t)
  unfolding finish_refusal refuse refuse_stated stores
  finish_answer =
      (λ i. number_of (cond (not (whole s l h b table real shows i)) Damaged (cond (not (long_enough_lem s l h b table real shows i)) Short
      (cond (shows.finished i) Finished
      (cond (not (all_sound h table)) Damaged (cond (ltb last_time t) Outside (cond (ltb t h.latest) Early (trial h.attributes 0 table t h))))))))
      ∙ then_4 l.finished _ _ _ timely_same

  module _ (taken : refuse (shape_of s) s.n m l (finish t) ≡ 0) where
    facts : (l.finished ≡ false) × (t < 2 ^ 63) × (l.latest ≤ t)
    facts = finish_passed m l t (accepted_stated_lem (shape_of s) s.n m l (finish t) taken)

    fitting : limits (shape_of s) s.n (last_intervals l.table t l.attributes) before ≡ 0
    unfolding stores
    fitting = accepted_fitting (shape_of s) s.n m l (finish t) taken

    early : t ≤ last_time
    early = omega (arith, facts.1)

    abbrev σ : Held
    σ = inserted_all xs (held h b)

    abbrev after : Tree
    after = tree_of (shape_of s) (step (finish t) l)

    same : onto (shape_of s) (reverse xs) before ≡ after
    unfolding stores
    same = ap (λ (z : List Interval). onto (shape_of s) z before) (last_all l.table t l.attributes) ∙ sym (step_tree (shape_of s) (finish t) l)

    rep : Represents s after σ
    rep =
        subst (λ (z : Tree). Represents s z σ) same
        (run_represents s before xs (held h b) (shows.until facts.0).tree (sane facts.0 facts.2 early) (ends facts.0 facts.2 early)
        (zero_nothing (tried_all xs h) (tried_same facts.0 facts.2 early ∙ fitting)))

    abbrev done : Held → Outcome
    done τ =
        outcome (answered Nothing (finished_at τ.history t)) (W.close_all τ.history t (τ.history.top + 1 - τ.history.low) τ.history.low τ.nodes) table

    comes : finish_of h t b table ≡ done σ
    unfolding finish_of
    comes =
        let stored : stored_from h.attributes 0 table t (held h b) ≡ σ =
        ap (λ (n : ℕ). stored_from n 0 table t (held h b)) shows.attributes
        ∙ stored_all l.table t table l.attributes (shows.until facts.0).entries l.attributes 0 (held h b) (omega arith) in
        let nothing = zero_nothing (finish_refusal h t (length b) table) (finish_answer ∙ taken) in
        (λ i. cond (accepted (nothing i)) (done (stored i)) (outcome (answered (nothing i) h) b table))

    -- what it leaves shows the model's finished history
    pub finish_shows : let r = finish_of h t b table in Shows s (step (finish t) l) r.answer.history r.nodes r.table
    unfolding step finished_at
    finish_shows = let a = all_alike xs (held h b) in
        subst (λ (r : Outcome). Shows s (step (finish t) l) r.answer.history r.nodes r.table) (sym comes) (record {
          shape = a.shape ∙ shows.shape;
          start = a.start ∙ shows.start;
          latest = refl;
          attributes = a.attributes ∙ shows.attributes;
          finished = refl;
          allowed = shows.allowed;
          few = shows.few;
          room = omega (arith, shows.room, close_all_length σ.history t (σ.history.top + 1 - σ.history.low) σ.history.low σ.nodes, all_length xs (held h b));
          until = λ e. absurd (true≢false e);
          after = λ e. closed_after s t after σ (omega (arith, early)) rep;
        })
