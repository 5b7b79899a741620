-- Adding an attribute: the answer is the model's, and what it leaves shows the model's next history. Assumes nothing.
use Prim.Native.Nat.{ℕ, suc, ◌/◌, ◌≤◌, ◌<◌}
use mathlib.Core.Bool.{Bool, true, false, cond, not, ◌||◌, false≢true}
use mathlib.Core.Path.{◌≡◌, refl, sym, ap, ◌∙◌, subst}
use mathlib.Core.List.{List}
use native.Mathlib.Omega.{arith}
use lib.Dec.{leb, eqb}
use lib.ListN.{length}
use borrow.Author.Tests.{leb-false, eqb-true, eqb-false}
use Rattle.layout.specs.declared.Shape.{Shape}
use Rattle.layout.specs.Layout.{entry_size}
use Rattle.record.specs.declared.History.{History}
use Rattle.record.specs.Refusals.{Reply, Nothing, Short, Damaged, Finished, TableFull, accepted, number_of}
use Rattle.record.specs.Moves.{with_attribute}
use Rattle.transient.specs.Transient.{ongoing_at, begins, with_ongoing}
use Rattle.transient.proofs.Sound.{begins_fits}
use Rattle.transient.proofs.Table.{entry_room, length_with, ongoing_back, ongoing_other}
use Rattle.calls.specs.Outcome.{Outcome, outcome, answered}
use Rattle.calls.specs.Add.{add_refusal, add_of}
use Rattle.model.specs.Transient as M
use Rattle.model.specs.Transient.{add, put, unset, stores, step}
use Rattle.model.specs.Nodes.{tree_of}
use Rattle.model.specs.Refusals.{limits, refuse, refuse_stated}
use Rattle.model.proofs.Legal.{accepted_stated_lem}
use Rattle.model.proofs.Tests.{first_passed}
use Rattle.represents.specs.Represents.{shape_of}
use Rattle.represents.specs.Histories.{ongoing_of, Shows}
use Rattle.represents.proofs.Unseen.{with_attribute_lem}
use Rattle.represents.proofs.Real.{Real}
use Rattle.represents.proofs.Whole.{whole, long_enough_lem}
use Rattle.record.proofs.Said.{zero_nothing}
use Rattle.represents.proofs.Numbers.{then_8}
use Rattle.represents.proofs.Opened.{begins_unset}

neither : (x y : Bool) → x || y ≡ false → (x ≡ false) × (y ≡ false)
neither true y e = (e, cc)
neither false y e = (refl, e)

module _ (s : Shape) (l : M.History) (h : History) (b table : List ℕ) (real : Real l) (shows : Shows s l h b table) (m : ℕ)
    (entries : l.finished ≡ false → length table / entry_size ≡ m) where
  -- the answer is the model's
  pub add_answer : number_of (add_refusal h (length b) (length table)) ≡ refuse (shape_of s) s.n m l add
  unfolding add_refusal refuse refuse_stated stores limits
  add_answer =
      (λ i. number_of (cond (not (whole s l h b table real shows i)) Damaged (cond (not (long_enough_lem s l h b table real shows i)) Short
      (cond (shows.finished i) Finished (cond (leb (length table / entry_size) (shows.attributes i) || leb 4096 (shows.attributes i)) TableFull Nothing)))))
      ∙ then_8 l.finished (leb (length table / entry_size) l.attributes || leb 4096 l.attributes) (leb m l.attributes || leb 4096 l.attributes)
      (λ going. ap (λ (z : ℕ). leb z l.attributes || leb 4096 l.attributes) (entries going))

  module _ (taken : refuse (shape_of s) s.n m l add ≡ 0) where
    facts : (l.finished ≡ false) × (l.attributes < m) × (l.attributes < 4096)
    unfolding refuse_stated
    facts =
        let e = accepted_stated_lem (shape_of s) s.n m l add taken in
        let f = first_passed l.finished 3 (cond (leb m l.attributes || leb 4096 l.attributes) 8 0) e in
        let g = first_passed (leb m l.attributes || leb 4096 l.attributes) 7 0 f.1 in
        let n = neither (leb m l.attributes) (leb 4096 l.attributes) g.0 in
        (f.0, leb-false m l.attributes n.0, leb-false 4096 l.attributes n.1)

    abbrev after : List ℕ
    after = with_ongoing table (record { 0 = h.attributes }) (begins h.start)

    comes : add_of h b table ≡ outcome (answered Nothing (with_attribute h)) b after
    unfolding add_of
    comes =
        ap (λ (r : Reply). cond (accepted r) (outcome (answered Nothing (with_attribute h)) b after) (outcome (answered r h) b table))
        (zero_nothing (add_refusal h (length b) (length table)) (add_answer ∙ taken))

    room_left : suc l.attributes ≤ length table / entry_size
    room_left = omega (arith, entries facts.0, facts.1)

    entry : (q : ℕ) → q < suc l.attributes → ongoing_at after q ≡ ongoing_of (put l.table l.attributes (unset l.start) q)
    entry q lt = go (eqb l.attributes q) refl
      where
        is : h.attributes ≡ l.attributes
        is = shows.attributes

        go : (y : Bool) → eqb l.attributes q ≡ y → ongoing_at after q ≡ ongoing_of (cond y (unset l.start) (l.table q))
        go true e =
            let k = eqb-true l.attributes q e in
            ap (ongoing_at after) (sym k ∙ sym is)
            ∙ ongoing_back table (record { 0 = h.attributes }) (begins h.start) (omega (arith, facts.2)) (begins_fits h.start (omega (arith, shows.start, real.stored.low, real.stored.high)))
            (entry_room h.attributes (suc l.attributes) (length table) (omega arith) room_left)
            ∙ ap begins shows.start
            ∙ begins_unset l.start
        go false e =
            let k = eqb-false l.attributes q e in
            ongoing_other table (record { 0 = h.attributes }) (begins h.start) q (λ z. k (sym (z ∙ is))) ∙ (shows.until facts.0).entries q (less q l.attributes lt k)
          where
            less : (q n : ℕ) → q < suc n → (n ≡ q → ⊥) → q < n
            less q n z k = omega arith

    -- what it leaves shows the model's next history
    pub add_shows : let r = add_of h b table in Shows s (step add l) r.answer.history r.nodes r.table
    unfolding step with_attribute
    add_shows = subst (λ (r : Outcome). Shows s (step add l) r.answer.history r.nodes r.table) (sym comes) (record {
      shape = shows.shape;
      start = shows.start;
      latest = shows.latest;
      attributes = omega (arith, shows.attributes);
      finished = shows.finished;
      allowed = shows.allowed;
      few = omega (arith, facts.2);
      room = shows.room;
      until = λ e. record {
        tree = with_attribute_lem s (tree_of (shape_of s) l) h b (shows.until e).tree;
        long = rw (length_with table (record { 0 = h.attributes }) (begins h.start)) room_left;
        entries = entry;
      };
      after = λ e. absurd (false≢true (sym facts.0 ∙ e));
    })
