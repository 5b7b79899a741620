-- What the walk and the table tell of one attribute is what the model finds of it. Assumes nothing.
use Rattle.std.specs.Prelude.{None}
use Prim.Native.Nat.{ℕ, suc, ◌≤◌, ◌<◌}
use mathlib.Core.Bool.{Bool, true, false, cond, not, ◌&&◌, false≢true}
use mathlib.Core.Path.{◌≡◌, refl, sym, ap, subst, ◌∙◌}
use mathlib.Core.List.{List, [], ◌∷◌, ◌++◌, tail-eq_of_cons-eq}
use mathlib.Core.Option.{none}
use native.Mathlib.Omega.{arith}
use lib.Dec.{leb}
use lib.ListN.{length}
use borrow.Author.Tests.{eq-eqb, ne_eqb, le-leb}
use Rattle.layout.specs.Layout.{read_entry}
use Rattle.record.specs.declared.History.{History}
use Rattle.record.specs.Levels.{place_at}
use Rattle.transient.specs.declared.Ongoing.{Ongoing}
use Rattle.transient.specs.Transient.{ongoing_at, ongoing_sound, interval}
use Rattle.walk.specs.View.{view_of}
use Rattle.walk.specs.Walk.{walk_of}
use Rattle.questions.specs.Found.{many, found_of, shown}
use Rattle.questions.specs.Single.{told, told_entry, from_table, table_entry, entry_fine}
use Rattle.full_question.specs.Full.{alone, full_entry}
use Rattle.model.specs.Transient as M
use Rattle.model.specs.Transient.{Interval}
use Rattle.model.specs.Build.{Head, childless, also}
use Rattle.model.specs.Nodes.{∞, Node, open_end, intervals}
use Rattle.model.specs.Questions.{only, covers, ongoing, current, walk, chase}
use Rattle.model.specs.Refusals.{refuse_full}
use Rattle.model.specs.Theorems.{Run, Allowed, taken, left, stands, made, Calls64}
use Rattle.model.proofs.Answers.{found_one}
use Rattle.model.proofs.Legal.{Legal, legal_accepted}
use Rattle.model.proofs.Proved.{walked_by_place}
use Rattle.model.proofs.Running.{running}
use Rattle.model.proofs.Storable.{storable}
use Rattle.represents.specs.Represents.{entry_of}
use Rattle.represents.specs.Mirrors.{Mirrors}
use Rattle.represents.proofs.Passing.{state_passes}
use Rattle.represents.proofs.Walked.{Found, breaks_none, enters, finds}
use Rattle.represents.proofs.Fitting.{readable}

-- an ongoing state as an interval
abbrev pub now : M.History → ℕ → Interval
now l q = record { quark = q; state = (l.table q).state; start = (l.table q).start; end = ∞ }

unfinished : (a b : Bool) → (not a && b) ≡ true → a ≡ false
unfinished true b e = absurd (false≢true e)
unfinished false b e = refl

module _ {r : Run} {h : History} {nodes table : List ℕ} (allowed : Allowed r) (values : Calls64 r.calls) (μ : Mirrors r h nodes table) where
  legal : Legal r.start r.attributes (taken r)
  legal = legal_accepted r.shape r.room r.entries r.start r.attributes r.calls allowed.begins

  -- ---- the table

  -- the entries that are read are sound
  pub fine : (q : ℕ) → q < (left r).attributes → entry_fine (view_of h) q table ≡ true
  unfolding entry_fine view_of ongoing_sound
  fine q lt = rw μ.finished (go (left r).finished refl)
    where
      go : (b : Bool) → (left r).finished ≡ b → cond b true (ongoing_sound (ongoing_at table q) h.start h.latest) ≡ true
      go true e = refl
      go false e =
          let f = (running r.start r.attributes (taken r) legal e).each q in
          rw (μ.entries e q lt, state_passes ((left r).table q).state, μ.start, μ.latest, le-leb (left r).start ((left r).table q).start f.begun, le-leb ((left r).table q).start (left r).latest f.upto)

  -- the table answers where the model's does
  pub table_tells : (q t : ℕ) → q < (left r).attributes → from_table (view_of h) t q table ≡ ongoing (left r) q t
  unfolding from_table view_of
  table_tells q t lt = rw μ.finished (go (left r).finished refl)
    where
      go : (b : Bool) → (left r).finished ≡ b → (not b && leb (ongoing_at table q).start t) ≡ (not b && leb ((left r).table q).start t)
      go true e = refl
      go false e = ap (λ (o : Ongoing). leb o.start t) (μ.entries e q lt)

  table_entry_lem : (q t : ℕ) → q < (left r).attributes → (left r).finished ≡ false
      → table_entry q table ≡ entry_of (now (left r) q)
  unfolding table_entry interval
  table_entry_lem q t lt e = ap (λ (o : Ongoing). interval (record { 0 = q }) o 18446744073709551615) (μ.entries e q lt)

  -- ---- the walk

  module _ (t : ℕ) (from : (left r).start ≤ t) (to : t ≤ (left r).latest) where
    early : t ≤ ∞
    early = omega (arith, (storable r.start r.attributes (taken r) legal).high)

    -- the walk by places is the walk
    entered_is : chase (suc (view_of h).level) t (made r) (view_of h).root.0 ≡ walk t none (stands r)
    unfolding view_of
    entered_is =
        let w = walked_by_place r allowed in
        let e : also childless w.root (open_end (left r)) w.below ≡ also childless μ.root (open_end (left r)) μ.below = sym w.rooted ∙ μ.rooted in
        let same : w.root ≡ μ.root = cc e in
        let asks : refuse_full (left r) t ≡ 0 = rw (le-leb (left r).start t from, le-leb t (left r).latest to) in
        ap (λ (n : ℕ). chase (suc n) t (made r) (place_at h.branch h.top)) μ.level
        ∙ ap (λ (n : ℕ). chase (suc μ.root.level) t (made r) n) μ.place
        ∙ subst (λ (z : Head). chase (suc z.level) t (made r) z.seq ≡ walk t none (stands r)) same (w.walked t asks)

    pub walk_keeps : (walk_of nodes (view_of h) t).rule ≡ None
    walk_keeps = breaks_none (readable allowed values μ) t early

    pub walk_enters : (walk_of nodes (view_of h) t).entered ≡ length (walk t none (stands r))
    walk_enters = enters (readable allowed values μ) t early ∙ ap length entered_is

    walk_finds : (q : ℕ) → Found nodes (found_of nodes (view_of h) q t) (only (covers q t) (intervals (walk t none (stands r))))
    walk_finds q =
        subst (λ (ms : List Node). Found nodes (found_of nodes (view_of h) q t) (only (covers q t) (intervals ms))) entered_is (finds (readable allowed values μ) t early q)

    -- ---- one attribute

    -- what is found of it over table and walk is one interval x, and its entry is what a question answers with
    pub record Told (q : ℕ) : Type 0 where
      pub x : Interval
      pub found : current (left r) q t ++ only (covers q t) (intervals (walk t none (stands r))) ≡ x ∷ []
      pub entry : full_entry (view_of h) t nodes table q ≡ entry_of x
      pub only_one : alone (view_of h) t nodes table q ≡ true
      pub passes : (not (from_table (view_of h) t q table) && not (told (view_of h) t q nodes)) ≡ false

    -- what is found in the nodes, as one number
    none_found : (q : ℕ) → only (covers q t) (intervals (walk t none (stands r))) ≡ [] → found_of nodes (view_of h) q t ≡ 0
    none_found q e = subst (λ (xs : List Interval). Found nodes (found_of nodes (view_of h) q t) xs) e (walk_finds q)

    one_found : (q : ℕ) (x : Interval) → only (covers q t) (intervals (walk t none (stands r))) ≡ x ∷ []
        → (shown (found_of nodes (view_of h) q t) ≡ true) × (told_entry (view_of h) t q nodes ≡ entry_of x)
    unfolding shown told_entry
    one_found q x e =
        let f = subst (λ (xs : List Interval). Found nodes (found_of nodes (view_of h) q t) xs) e (walk_finds q) in
        let s = found_of nodes (view_of h) q t in
        (rw (ne_eqb s 0 (λ z. omega (arith, f.1)), ne_eqb s many (λ z. omega (arith, f.1, f.2))), ap (read_entry nodes) (omega (arith, f.1)) ∙ f.3)

    pub tells : (q : ℕ) → q < (left r).attributes → Told q
    unfolding full_entry alone told
    tells q lt =
        let f = found_one r.shape r.start r.attributes (taken r) allowed.shaped legal q t lt from to in
        go (ongoing (left r) q t) refl f.0 f.1 f.1
      where
        go : (b : Bool) → ongoing (left r) q t ≡ b → (x : Interval) → current (left r) q t ++ only (covers q t) (intervals (walk t none (stands r))) ≡ x ∷ []
            → cond b (now (left r) q ∷ []) [] ++ only (covers q t) (intervals (walk t none (stands r))) ≡ x ∷ [] → Told q
        go true e x f g =
            let on : from_table (view_of h) t q table ≡ true = table_tells q t lt ∙ e in
            let is : now (left r) q ≡ x = cc g in
            record {
              x = x;
              found = f;
              entry = rw on (table_entry_lem q t lt (unfinished (left r).finished _ e) ∙ ap entry_of is);
              only_one = rw on (eq-eqb (found_of nodes (view_of h) q t) 0 (none_found q (tail-eq_of_cons-eq g)));
              passes = rw on;
            }
        go false e x f g =
            let off : from_table (view_of h) t q table ≡ false = table_tells q t lt ∙ e in
            let o = one_found q x g in
            record { x = x; found = f; entry = rw off o.1; only_one = rw off o.0; passes = rw (off, walk_keeps, o.0) }
