-- Storing an interval, or refusing it: each way through `insert`, and what the record and the node buffer keep. Assumes nothing.
use Prim.Native.Nat.{ℕ, ◌-◌, ◌≤◌, ◌<◌}
use mathlib.Core.Path.{◌≡◌, refl, sym, ap, subst, ◌∙◌}
use mathlib.Core.Bool.{Bool, true, false, cond}
use mathlib.Core.List.{List}
use Rattle.std.specs.Prelude.{Err}
use Rattle.layout.specs.declared.Entry.{Entry}
use Rattle.record.specs.declared.History.{History}
use Rattle.record.specs.declared.Refusal.{Refusal}
use Rattle.record.specs.Refusals.{Reply, Nothing, accepted}
use Rattle.record.specs.Levels.{intervals_at}
use Rattle.record.specs.Sound.{last_time}
use Rattle.record.specs.Firm.{Firm, Long}
use Rattle.record.specs.Moves.{with_largest, stretched}
use Rattle.record.proofs.Kept.{firm_stretched}
use Rattle.settle.specs.declared.Plan.{Plan}
use Rattle.settle.specs.Settle.{lowest, taken, settle, plan_refusal}
use Rattle.build.specs.Moves.{Held, held, Room, store}
use Rattle.build.specs.Write.{climb, stretch, placed, written, inserted}
use Rattle.build.specs.Carried.{Alike}
use Rattle.build.proofs.Taken.{taken_room, taken_plan, taken_accepted}
use Rattle.build.proofs.Trials.{tried_firm, tried_alike, tried_long}
use Rattle.build.proofs.Turns.{Kept}
use Rattle.build.proofs.Steps.{inserted_history, inserted_length, room_kept}

-- ═══ Each way ═══

module _ (h : History) (b : List ℕ) (x : Entry) where
  refused_same : accepted (plan_refusal h (settle h x.start)) ≡ false → inserted x (held h b) ≡ held h b
  unfolding inserted
  refused_same f = ap (λ (t : Bool). cond t (written x (settle h x.start) (held h b)) (held h b)) f

  accepted_written : accepted (plan_refusal h (settle h x.start)) ≡ true → inserted x (held h b) ≡ written x (settle h x.start) (held h b)
  unfolding inserted
  accepted_written f = ap (λ (t : Bool). cond t (written x (settle h x.start) (held h b)) (held h b)) f

  -- rule 2 has it stored in the level l as it is: neither a close nor a chain
  module _ (l : ℕ) (f : Firm h) (yes : taken h x.start l ≡ true) (is : l ≡ lowest (h.top - h.low) h.branch x.start h.low) (below : l ≤ h.top) where
    taken_fine : plan_refusal h (settle h x.start) ≡ Nothing
    taken_fine = ap (plan_refusal h) (taken_plan h x.start l yes is) ∙ taken_accepted h l below f.top

    taken_inserted : inserted x (held h b) ≡ store x l (stretch x.end (held h b))
    unfolding written placed climb
    taken_inserted = accepted_written (ap accepted taken_fine) ∙ ap (λ (p : Plan). written x p (held h b)) (taken_plan h x.start l yes is)

-- S has grown: a level takes an interval as before
stretched_can : (h : History) (e l : ℕ) → Firm h → e ≤ last_time → h.low ≤ l → l ≤ h.top → intervals_at h.branch l < h.shape.k
    → (let g = stretched h e in Firm g × (g.low ≤ l) × (l ≤ g.top) × (intervals_at g.branch l < g.shape.k))
unfolding stretched with_largest
stretched_can h e l f le low top fits = (firm_stretched h f e le, low, top, fits)

module _ (h : History) (b : List ℕ) (x : Entry) where
  module _ (p : Plan) (q : Reply) (plan : p ≡ settle h x.start) (said : q ≡ plan_refusal h p) where
    answer : q ≡ plan_refusal h (settle h x.start)
    answer = said ∙ ap (plan_refusal h) plan

    pub insert_refused : (y : Refusal) → q ≡ Err y → (q ≡ plan_refusal h (settle h x.start)) × (held h b ≡ inserted x (held h b))
    insert_refused y k = (answer, sym (refused_same h b x (ap accepted (sym answer ∙ k))))

    pub insert_stored : q ≡ Nothing → (τ : Held) → τ ≡ written x p (held h b) → (Nothing ≡ plan_refusal h (settle h x.start)) × (τ ≡ inserted x (held h b))
    insert_stored z τ t =
        let e = accepted_written h b x (ap accepted (sym answer ∙ z)) ∙ ap (λ (y : Plan). written x y (held h b)) (sym plan) in
        (sym z ∙ answer, t ∙ sym e)

  module _ (g : History) (on : g ≡ stretched h x.end) (l : ℕ) (f : Firm h) (t : Bool) (told : t ≡ taken h x.start l) (told-yes : t ≡ true)
      (at : (l ≡ lowest (h.top - h.low) h.branch x.start h.low) × (h.low ≤ l) × (l ≤ h.top)) where
    yes : taken h x.start l ≡ true
    yes = sym told ∙ told-yes

    pub taken_open : (room : Held → Type 0) → Kept room → room (held h b) → x.end ≤ last_time → Firm g × room (held g b) × (g.low ≤ l) × (l ≤ g.top) × (intervals_at g.branch l < g.shape.k)
    unfolding stretched with_largest
    taken_open room kept fits le =
        let k = subst (λ (y : History). Firm y × (y.low ≤ l) × (l ≤ y.top) × (intervals_at y.branch l < y.shape.k)) (sym on)
        (stretched_can h x.end l f le at.1 at.2 (taken_room h x.start l yes)) in
        (k.0, kept (held h b) (held g b) (ap (λ (y : History). y.shape) on) refl fits, k.1, k.2, k.3)

    pub taken_can : Room h b → x.end ≤ last_time → Firm g × Room g b × (g.low ≤ l) × (l ≤ g.top) × (intervals_at g.branch l < g.shape.k)
    taken_can = taken_open (λ σ. Room σ.history σ.nodes) (λ σ τ. room_kept σ.history τ.history σ.nodes τ.nodes)

    pub insert_taken : (τ : Held) → τ ≡ store x l (held g b) → (Nothing ≡ plan_refusal h (settle h x.start)) × (τ ≡ inserted x (held h b))
    unfolding stretch
    insert_taken τ k =
        let e : held g b ≡ stretch x.end (held h b) = λ j. record { history = on j; nodes = b } in
        (sym (taken_fine h b x l f yes at.0 at.2), k ∙ ap (store x l) e ∙ sym (taken_inserted h b x l f yes at.0 at.2))

-- ═══ What it keeps ═══

module _ (h : History) (b : List ℕ) (x : Entry) where
  pub inserted_firm : Firm h → x.end ≤ last_time → Firm (inserted x (held h b)).history
  inserted_firm f le = rw (inserted_history x (held h b)) (tried_firm h x.start x.end f le)

  -- shape, start, latest time, attributes and whether it is finished
  pub inserted_alike : Alike h (inserted x (held h b)).history
  inserted_alike = rw (inserted_history x (held h b)) (tried_alike h x.start x.end)

  pub inserted_long : Long h.branch → Long (inserted x (held h b)).history.branch
  inserted_long g = rw (inserted_history x (held h b)) (tried_long h x.start x.end g)

  pub inserted_room : Room h b → Room (inserted x (held h b)).history (inserted x (held h b)).nodes
  inserted_room room = room_kept h (inserted x (held h b)).history b (inserted x (held h b)).nodes inserted_alike.shape (inserted_length x (held h b)) room
