-- Set, remove and increment: the answer is the model's. Assumes nothing.
use Prim.Native.Nat.{ℕ, ◌-◌, ◌≤◌, ◌<◌}
use mathlib.Core.Bool.{Bool, true, false, cond, not, ◌&&◌}
use mathlib.Core.Path.{◌≡◌, refl, ap, ◌∙◌, subst}
use mathlib.Core.List.{List}
use native.Mathlib.Omega.{arith}
use lib.Dec.{leb, ltb}
use borrow.Author.Tests.{leb-false, ltb-false}
use mir.Syntax.{w64}
use mir.Val.{SFits}
use Rattle.layout.specs.declared.Shape.{Shape}
use Rattle.record.specs.declared.History.{History}
use Rattle.record.specs.Refusals.{Reply, Nothing, Short, Damaged, Finished, NoQuark, Outside, Early, Top, Deep, NoRoom, number_of}
use Rattle.record.specs.Sound.{last_time}
use Rattle.transient.specs.declared.Ongoing.{Ongoing}
use Rattle.transient.specs.declared.Decision.{Decision}
use Rattle.transient.specs.Transient.{ongoing_at, ongoing_sound, decide}
use Rattle.settle.specs.Settle.{settle, too_deep, no_room, plan_refusal}
use Rattle.build.specs.Moves.{held}
use Rattle.calls.specs.Change as C
use Rattle.calls.specs.Change.{change_refusal}
use Rattle.model.specs.State.{value_of}
use Rattle.model.specs.Transient as M
use Rattle.model.specs.Transient.{Effect, stays, replaced, ended, effect, to_store, stores, becomes, change}
use Rattle.model.specs.Build.{Tree, onto}
use Rattle.model.specs.Nodes.{tree_of}
use Rattle.model.specs.Refusals.{passes_top, limits, refuse, refuse_stated, sooner}
use Rattle.model.specs.Theorems.{Change64}
use Rattle.represents.specs.Represents.{shape_of, Represents}
use Rattle.represents.specs.Histories.{ongoing_of, Shows}
use Rattle.represents.specs.Calls.{change_is}
use Rattle.represents.proofs.Linked.{refused_same}
use Rattle.represents.proofs.Real.{Real}
use Rattle.represents.proofs.Whole.{value_fits, whole, long_enough_lem, entry_sound_lem}
use Rattle.represents.proofs.Numbers.{then_9, then_7}
use Rattle.represents.proofs.Decided.{decision_of, decides, decides_top}

-- the tests 10 and 11 of a change, by its decision
abbrev limited : History → ℕ → Decision → Reply
limited h start d = cond (C.stores d && too_deep (settle h start)) Deep (cond (C.stores d && no_room h (settle h start)) NoRoom Nothing)

module _ (s : Shape) (h : History) (b : List ℕ) (t : Tree) (rep : Represents s t (held h b)) where
  -- they are the model's limits on what is stored
  limited_same : (τ q : ℕ) (o n : M.Ongoing) (e : Effect) → τ ≤ last_time → number_of (limited h o.start (decision_of e n)) ≡ limits (shape_of s) s.n (to_store e q o τ) t
  unfolding limits onto plan_refusal number_of
  limited_same τ q o n stays le = refl
  limited_same τ q o n replaced le = refl
  limited_same τ q o n ended le = refused_same s (record { quark = q; state = o.state; start = o.start; end = τ - 1 }) t (held h b) (omega arith) rep

module _ (s : Shape) (l : M.History) (h : History) (b table : List ℕ) (real : Real l) (shows : Shows s l h b table) (m t q : ℕ) (c : M.Change) (fit : Change64 c) where
  abbrev o : M.Ongoing
  o = l.table q

  abbrev tail : Ongoing → Reply
  tail e =
      let d = decide e t (change_is c) in
      cond (not (ongoing_sound e h.start h.latest)) Damaged (cond (ltb last_time t) Outside (cond (ltb t h.latest) Early (cond (C.is_top d) Top (limited h e.start d))))

  top_same : C.is_top (decide (ongoing_of o) t (change_is c)) ≡ passes_top c o.state
  top_same = go (passes_top c o.state) refl
    where
      fits : SFits w64 (value_of o.state)
      fits = value_fits o.state (real.values q)

      not_top : (e : Effect) (n : M.Ongoing) → C.is_top (decision_of e n) ≡ false
      not_top stays n = refl
      not_top replaced n = refl
      not_top ended n = refl

      go : (x : Bool) → passes_top c o.state ≡ x → C.is_top (decide (ongoing_of o) t (change_is c)) ≡ x
      go true e = ap C.is_top (decides_top o t c fit fits e)
      go false e = ap C.is_top (decides o t c fit fits e) ∙ not_top (effect (becomes c o.state) o t) (record { state = becomes c o.state; start = t })

  -- 3 entry, 6, 5, 9, 10, 11
  known_same : l.finished ≡ false → q < l.attributes
      → number_of (tail (ongoing_at table q))
      ≡ sooner (cond (ltb last_time t) 6 (cond (ltb t l.latest) 5 (cond (passes_top c o.state) 9 0)))
      (limits (shape_of s) s.n (to_store (effect (becomes c o.state) o t) q o t) (tree_of (shape_of s) l))
  known_same going lt =
      let u = shows.until going in
      let is : ongoing_at table q ≡ ongoing_of o = u.entries q lt in
      let fine : ongoing_sound (ongoing_of o) h.start h.latest ≡ true =
      subst (λ (e : Ongoing). ongoing_sound e h.start h.latest ≡ true) is (entry_sound_lem s l h b table real shows going q lt) in
      let d = decide (ongoing_of o) t (change_is c) in
      ap (λ (e : Ongoing). number_of (tail e)) is
      ∙ (λ i. number_of (cond (not (fine i)) Damaged (cond (ltb last_time t) Outside (cond (ltb t (shows.latest i)) Early (cond (top_same i) Top (limited h o.start d))))))
      ∙ then_9 (ltb last_time t) (ltb t l.latest) (passes_top c o.state) (limited h o.start d) _
      (λ late early top. ap (λ (z : Decision). number_of (limited h o.start z)) (decides o t c fit (value_fits o.state (real.values q)) top)
      ∙ limited_same s h b (tree_of (shape_of s) l) u.tree t q o (record { state = becomes c o.state; start = t }) (effect (becomes c o.state) o t) (ltb-false last_time t late))

  -- the answer is the model's
  pub change_answer : number_of (change_refusal h t (record { 0 = q }) (change_is c) b table) ≡ refuse (shape_of s) s.n m l (change t q c)
  unfolding change_refusal refuse refuse_stated stores
  change_answer =
      (λ i. number_of (cond (not (whole s l h b table real shows i)) Damaged (cond (not (long_enough_lem s l h b table real shows i)) Short
      (cond (shows.finished i) Finished (cond (leb (shows.attributes i) q) NoQuark (tail (ongoing_at table q)))))))
      ∙ then_7 l.finished (leb l.attributes q) (tail (ongoing_at table q)) _ _ (λ going known. known_same going (leb-false l.attributes q known))
