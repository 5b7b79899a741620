-- The full question on a history that calls alone have made: its number, its node count and its entries are the model's. Assumes nothing.
use Prim.Native.Nat.{ℕ, zero, suc, ◌+◌, ◌/◌, ◌≤◌, ◌<◌}
use mathlib.Core.Bool.{Bool, true, false, cond, not}
use mathlib.Core.Path.{◌≡◌, refl, sym, ap, subst, ◌∙◌}
use mathlib.Core.List.{List, [], ◌∷◌, ◌++◌, map, map-append, append-nil, append_assoc}
use mathlib.Core.Option.{none}
use native.Mathlib.Omega.{arith}
use native.Mathlib.Nat.{add-zero, zero-add}
use lib.ListN.{length}
use lib.Seq.{sets}
use borrow.Author.Tests.{le-ltb}
use Rattle.layout.specs.Layout.{entry_size, entry_bytes, spread}
use Rattle.layout.proofs.Encoded.{spread_snoc}
use Rattle.record.specs.declared.History.{History}
use Rattle.record.specs.Refusals.{Reply, Nothing, Damaged, Outside, number_of, accepted}
use Rattle.walk.specs.declared.View.{View}
use Rattle.walk.specs.View.{view_of}
use Rattle.walk.specs.Rules.{kept}
use Rattle.walk.specs.Walk.{walk_of}
use Rattle.questions.specs.Single.{entry_fine}
use Rattle.full_question.specs.Full.{alone, full_entry, every_quark, full_entries, refused_full, full_refusal, full_of, full_written}
use Rattle.model.specs.Transient.{Interval}
use Rattle.model.specs.Questions.{each, full, walk}
use Rattle.model.specs.Refusals.{asked, refuse_full}
use Rattle.model.specs.Theorems.{Run, Allowed, left, stands, Calls64}
use Rattle.represents.specs.Represents.{entry_of}
use Rattle.represents.specs.Mirrors.{Mirrors}
use Rattle.represents.specs.Answered.{FullAnswered}
use Rattle.represents.proofs.Told.{fine, walk_keeps, walk_enters, tells}
use Rattle.represents.proofs.OneAnswered.{within, asked_same}

every : (f : ℕ → Bool) (n : ℕ) → ((q : ℕ) → q < n → f q ≡ true) → every_quark f n ≡ true
unfolding every_quark
every f zero e = refl
every f (suc n) e = rw (every f n (λ q h. e q (omega arith)), e n (omega arith))

-- the entries of one attribute more
entries_snoc : (v : View) (t : ℕ) (nodes table : List ℕ) (q n : ℕ)
    → full_entries v t nodes table q (suc n) ≡ full_entries v t nodes table q n ++ entry_bytes (full_entry v t nodes table (q + n))
unfolding full_entries
entries_snoc v t nodes table q zero = append-nil (entry_bytes (full_entry v t nodes table q)) ∙ ap (λ (n : ℕ). entry_bytes (full_entry v t nodes table n)) (sym (add-zero q))
entries_snoc v t nodes table q (suc n) =
    let e : q + 1 + n ≡ q + suc n = omega arith in
    ap (λ (z : List ℕ). entry_bytes (full_entry v t nodes table q) ++ z) (entries_snoc v t nodes table (q + 1) n)
    ∙ (sym (append_assoc (entry_bytes (full_entry v t nodes table q)) (full_entries v t nodes table (q + 1) n) (entry_bytes (full_entry v t nodes table (q + 1 + n))))
    ∙ ap (λ (k : ℕ). full_entries v t nodes table q (suc n) ++ entry_bytes (full_entry v t nodes table k)) e)

module _ {r : Run} {h : History} {nodes table : List ℕ} (allowed : Allowed r) (values : Calls64 r.calls) (μ : Mirrors r h nodes table) where
  pub attributes_same : (view_of h).attributes ≡ (left r).attributes
  unfolding view_of
  attributes_same = μ.attributes

  module _ (t : ℕ) (from : (left r).start ≤ t) (to : t ≤ (left r).latest) where
    pub entries_fine : every_quark (λ q. entry_fine (view_of h) q table) (view_of h).attributes ≡ true
    entries_fine = every (λ q. entry_fine (view_of h) q table) (view_of h).attributes (λ q lt. fine allowed values μ q (omega (arith, attributes_same)))

    pub each_alone : every_quark (alone (view_of h) t nodes table) (view_of h).attributes ≡ true
    each_alone = every (alone (view_of h) t nodes table) (view_of h).attributes (λ q lt. (tells allowed values μ t from to q (omega (arith, attributes_same))).only_one)

    -- "one interval entry per attribute, in quark order"
    pub entries_same : (n : ℕ) → n ≤ (left r).attributes
        → full_entries (view_of h) t nodes table 0 n ≡ spread entry_bytes (map entry_of (each (left r) (walk t none (stands r)) t n))
    unfolding full_entries
    entries_same zero le = refl
    entries_same (suc n) le =
        let k = tells allowed values μ t from to n (omega arith) in
        let xs = each (left r) (walk t none (stands r)) t n in
        entries_snoc (view_of h) t nodes table 0 n
        ∙ (ap (λ (z : List ℕ). z ++ entry_bytes (full_entry (view_of h) t nodes table (0 + n))) (entries_same n (omega arith))
        ∙ (ap (λ (m : ℕ). spread entry_bytes (map entry_of xs) ++ entry_bytes (full_entry (view_of h) t nodes table m)) (zero-add n)
        ∙ (ap (λ e. spread entry_bytes (map entry_of xs) ++ entry_bytes e) k.entry
        ∙ (sym (spread_snoc entry_bytes (map entry_of xs) (entry_of k.x))
        ∙ (ap (spread entry_bytes) (sym (map-append entry_of xs (k.x ∷ [])))
        ∙ ap (λ (z : List Interval). spread entry_bytes (map entry_of (xs ++ z))) (sym k.found))))))

  -- ---- the theorem

  module _ (t : ℕ) (answer : List ℕ) (room : h.attributes ≤ length answer / entry_size) where
    abbrev reason : Bool → Reply
    reason b = cond (not b) Outside Nothing

    -- "query 3 record, 2, 7, 6, 3": of these only 6 is left
    refusal_is : full_refusal h t nodes table (length answer) ≡ reason (asked (left r) t)
    unfolding full_refusal
    refusal_is = rw (μ.whole, μ.long, le-ltb (length answer / entry_size) h.attributes room, asked_same allowed values μ t) (go (asked (left r) t) refl)
      where
        go : (b : Bool) → asked (left r) t ≡ b
            → cond (not b) Outside (cond (not (every_quark (λ q. entry_fine (view_of h) q table) (view_of h).attributes)) Damaged
            (cond (not (kept (walk_of nodes (view_of h) t).rule)) Damaged (cond (not (every_quark (alone (view_of h) t nodes table) (view_of h).attributes)) Damaged Nothing)))
            ≡ cond (not b) Outside Nothing
        go false f = refl
        go true f =
            let w = within (left r).start (left r).latest t f in
            rw (entries_fine t w.0 w.1, walk_keeps allowed values μ t w.0 w.1, each_alone t w.0 w.1)

    -- The full question is accepted exactly when the model's is, and answers as it does.
    pub full_answered : FullAnswered r t (full_of h t nodes table (length answer)) answer (full_written h t nodes table answer)
    unfolding full_of full_written refused_full number_of full
    full_answered =
        subst (λ (x : Reply). FullAnswered r t (record { refusal = x; nodes = cond (accepted x) (walk_of nodes (view_of h) t).entered 0 }) answer
        (cond (accepted x) (sets answer 0 (full_entries (view_of h) t nodes table 0 h.attributes)) answer)) (sym refusal_is)
        (go (asked (left r) t) refl)
      where
        go : (b : Bool) → asked (left r) t ≡ b
            → FullAnswered r t (record { refusal = reason b; nodes = cond (accepted (reason b)) (walk_of nodes (view_of h) t).entered 0 }) answer
            (cond (accepted (reason b)) (sets answer 0 (full_entries (view_of h) t nodes table 0 h.attributes)) answer)
        go false f = let z : refuse_full (left r) t ≡ 6 = rw f in
            record { number = sym z; nodes = λ y. absurd (omega arith); written = λ y. absurd (omega arith); refused = λ y. (refl, refl) }
        go true f =
            let z : refuse_full (left r) t ≡ 0 = rw f in
            let w = within (left r).start (left r).latest t f in
            record {
              number = sym z;
              nodes = λ y. walk_enters allowed values μ t w.0 w.1;
              written = λ y. ap (λ (n : ℕ). sets answer 0 (full_entries (view_of h) t nodes table 0 n)) μ.attributes
                  ∙ ap (sets answer 0) (entries_same t w.0 w.1 (left r).attributes (omega arith));
              refused = λ y. absurd (y z);
            }
