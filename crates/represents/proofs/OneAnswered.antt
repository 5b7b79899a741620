-- The single question on a history that calls alone have made: its number, its node count and its entry are the model's. Assumes nothing.
use Prim.Native.Nat.{ℕ, ◌≤◌, ◌<◌}
use mathlib.Core.Bool.{Bool, true, false, cond, not, ◌&&◌}
use mathlib.Core.Path.{◌≡◌, refl, sym, ap, subst, ◌∙◌}
use mathlib.Core.List.{List, [], ◌∷◌, ◌++◌, map}
use mathlib.Core.Option.{none}
use native.Mathlib.Omega.{arith}
use lib.Dec.{leb}
use lib.ListN.{length}
use borrow.Author.Tests.{leb-true, leb-false}
use Rattle.layout.specs.declared.Quark.{Quark}
use Rattle.record.specs.declared.History.{History}
use Rattle.record.specs.Refusals.{Reply, Nothing, Damaged, Outside, NoQuark, number_of, accepted}
use Rattle.walk.specs.View as Q
use Rattle.walk.specs.View.{view_of}
use Rattle.walk.specs.Walk.{walk_of}
use Rattle.questions.specs.Single.{Single, refused_single, told, from_table, entry_fine, single_answer, single_refusal, single_of, table_entry, told_entry}
use Rattle.full_question.specs.Full.{full_entry}
use Rattle.model.specs.Transient.{Interval}
use Rattle.model.specs.Nodes.{intervals}
use Rattle.model.specs.Questions.{only, covers, ongoing, Answer, answer, single, walk}
use Rattle.model.specs.Refusals.{asked, refuse_single}
use Rattle.model.specs.Theorems.{Run, Allowed, left, stands, Calls64}
use Rattle.model.proofs.Tests.{and_both}
use Rattle.represents.specs.Represents.{entry_of}
use Rattle.represents.specs.Mirrors.{Mirrors}
use Rattle.represents.specs.Answered.{SingleAnswered}
use Rattle.represents.proofs.Told.{now, fine, table_tells, walk_enters, tells}

-- a question within the bounds
pub within : (a b t : ℕ) → (leb a t && leb t b) ≡ true → (a ≤ t) × (t ≤ b)
within a b t e = let d = and_both (leb a t) (leb t b) e in (leb-true a t d.0, leb-true t b d.1)

module _ {r : Run} {h : History} {nodes table : List ℕ} (allowed : Allowed r) (values : Calls64 r.calls) (μ : Mirrors r h nodes table) where
  pub asked_same : (t : ℕ) → Q.asked (view_of h) t ≡ asked (left r) t
  unfolding Q.asked view_of
  asked_same t = rw (μ.start, μ.latest)

  module _ (q t : ℕ) where
    -- "query 3 record, 2, 7, 6, 3": of these only 7 and 6 are left
    abbrev reason : Bool → Bool → Reply
    reason a b = cond a NoQuark (cond (not b) Outside Nothing)

    refusal_is : single_refusal h t q nodes table ≡ reason (leb (left r).attributes q) (asked (left r) t)
    unfolding single_refusal
    refusal_is = rw (μ.whole, μ.long, ap (λ (n : ℕ). leb n q) μ.attributes, asked_same t) (go (leb (left r).attributes q) (asked (left r) t) refl refl)
      where
        go : (a b : Bool) → leb (left r).attributes q ≡ a → asked (left r) t ≡ b
            → cond a NoQuark (cond (not b) Outside (cond (not (entry_fine (view_of h) q table)) Damaged
            (cond (not (from_table (view_of h) t q table) && not (told (view_of h) t q nodes)) Damaged Nothing)))
            ≡ cond a NoQuark (cond (not b) Outside Nothing)
        go true b e f = refl
        go false false e f = refl
        go false true e f =
            let lt = leb-false (left r).attributes q e in
            let w = within (left r).start (left r).latest t f in
            rw (fine allowed values μ q lt, (tells allowed values μ t w.0 w.1 q lt).passes)

    -- an answer, and that of the model
    pub record Same (a : Single) : Type 0 where
      pub refusal : a.refusal ≡ Nothing
      pub count : a.nodes ≡ length (single r.shape (left r) q t).entered
      pub entry : a.entry ∷ [] ≡ map entry_of (single r.shape (left r) q t).found

    -- what the model answers where its table does, b, or does not
    abbrev model : Bool → Answer
    model b = answer (cond b (now (left r) q ∷ []) []) (walk t none (stands r)) q t

    pub answer_same : q < (left r).attributes → (left r).start ≤ t → t ≤ (left r).latest → Same (single_answer (view_of h) t q nodes table)
    unfolding single_answer single full_entry
    answer_same lt from to =
        let k = tells allowed values μ t from to q lt in
        go (ongoing (left r) q t) refl k.x k.found k.entry
      where
        go : (b : Bool) → ongoing (left r) q t ≡ b → (x : Interval) → cond b (now (left r) q ∷ []) [] ++ only (covers q t) (intervals (walk t none (stands r))) ≡ x ∷ []
            → full_entry (view_of h) t nodes table q ≡ entry_of x → Same (single_answer (view_of h) t q nodes table)
        go true e x f g =
            let on : from_table (view_of h) t q table ≡ true = table_tells allowed values μ q t lt ∙ e in
            let is : now (left r) q ≡ x = cc f in
            let entry : table_entry q table ≡ entry_of x = rw on at g in
            rw on (record {
              refusal = refl;
              count = subst (λ (b : Bool). 0 ≡ length (model b).entered) (sym e) refl;
              entry = subst (λ (b : Bool). table_entry q table ∷ [] ≡ map entry_of (model b).found) (sym e) (ap (λ z. z ∷ []) (entry ∙ ap entry_of (sym is)));
            })
        go false e x f g =
            let off : from_table (view_of h) t q table ≡ false = table_tells allowed values μ q t lt ∙ e in
            let entry : told_entry (view_of h) t q nodes ≡ entry_of x = rw off at g in
            rw off (record {
              refusal = refl;
              count = subst (λ (b : Bool). (walk_of nodes (view_of h) t).entered ≡ length (model b).entered) (sym e) (walk_enters allowed values μ t from to);
              entry = subst (λ (b : Bool). told_entry (view_of h) t q nodes ∷ [] ≡ map entry_of (model b).found) (sym e) (ap (λ z. z ∷ []) entry ∙ ap (map entry_of) (sym f));
            })

  -- ---- the theorem

  -- The single question is accepted exactly when the model's is, and answers as it does.
  pub single_answered : (t : ℕ) (quark : Quark) → SingleAnswered r quark.0 t (single_of h t quark nodes table)
  unfolding single_of refused_single number_of
  single_answered t quark =
      let q = quark.0 in
      subst (λ (x : Reply). SingleAnswered r quark.0 t (cond (accepted x) (single_answer (view_of h) t quark.0 nodes table) (refused_single x))) (sym (refusal_is quark.0 t))
      (go (leb (left r).attributes quark.0) (asked (left r) t) refl refl)
    where
      go : (a b : Bool) → leb (left r).attributes quark.0 ≡ a → asked (left r) t ≡ b
          → SingleAnswered r quark.0 t (cond (accepted (reason quark.0 t a b)) (single_answer (view_of h) t quark.0 nodes table) (refused_single (reason quark.0 t a b)))
      go true b e f = let z : refuse_single (left r) quark.0 t ≡ 7 = rw e in
          record { number = sym z; nodes = λ y. absurd (omega arith); entry = λ y. absurd (omega arith); refused = λ y. refl }
      go false false e f = let z : refuse_single (left r) quark.0 t ≡ 6 = rw (e, f) in
          record { number = sym z; nodes = λ y. absurd (omega arith); entry = λ y. absurd (omega arith); refused = λ y. refl }
      go false true e f =
          let z : refuse_single (left r) quark.0 t ≡ 0 = rw (e, f) in
          let w = within (left r).start (left r).latest t f in
          let s = answer_same quark.0 t (leb-false (left r).attributes quark.0 e) w.0 w.1 in
          record { number = ap number_of s.refusal ∙ sym z; nodes = λ y. s.count; entry = λ y. s.entry; refused = λ y. absurd (y z) }
