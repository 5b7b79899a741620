-- What every call says and keeps: its number is its list's, exactly then; refused, all is as it came; both buffers keep their lengths. Assumes nothing.
use Prim.Native.Nat.{ℕ, zero, suc, ◌+◌, ◌-◌}
use mathlib.Core.Path.{◌≡◌, refl, sym, ap, ◌∙◌}
use mathlib.Core.Bool.{Bool, true, false, cond}
use mathlib.Core.List.{List}
use lib.ListN.{length}
use Rattle.layout.specs.declared.Shape.{Shape}
use Rattle.layout.specs.declared.Quark.{Quark}
use Rattle.record.specs.declared.History.{History}
use Rattle.record.specs.Refusals.{Reply, accepted}
use Rattle.record.specs.Refusals as R
use Rattle.record.specs.Moves.{with_attribute, finished_at}
use Rattle.transient.specs.declared.Ongoing.{Ongoing}
use Rattle.transient.specs.declared.Change.{Change}
use Rattle.transient.specs.declared.Decision.{Decision}
use Rattle.transient.specs.declared.Decision.TheVariants as D
use Rattle.transient.specs.Transient.{begins, ongoing_at, interval, with_ongoing, decide}
use Rattle.transient.proofs.Table.{length_with}
use Rattle.build.specs.Moves.{Held, held}
use Rattle.build.specs.Write.{inserted, close_all, planted}
use Rattle.build.proofs.Steps.{inserted_length, close_all_length, planted_length}
use Rattle.calls.specs.Outcome.{Outcome, Comes, answered, outcome, or_refused}
use Rattle.calls.specs.Exactly.{Given, Iff}
use Rattle.calls.specs.Open.{blank, opened, table_opened, open_tests, open_refusal, open_on, open_of}
use Rattle.calls.specs.Change.{carried, change_tests, change_refusal, change_of}
use Rattle.calls.specs.Add.{add_tests, add_refusal, add_of}
use Rattle.calls.specs.Finish.{trial, finish_tests, finish_refusal, stored_from, finish_of}
use Rattle.record.proofs.Said.{accepted_nothing, on_false}
use Rattle.calls.proofs.Exactly.{exactly, exactly_else}

-- ---- of any call

module _ (r : Reply) (h : History) (nodes table : List ℕ) (done : Outcome) where
  -- "A refusal returns its number .. the record as it came, and nothing written."
  pub refused_kept : accepted r ≡ false → or_refused r h nodes table done ≡ outcome (answered r h) nodes table
  refused_kept e = on_false (accepted r) done (outcome (answered r h) nodes table) e

  pub accepted_done : r ≡ R.Nothing → or_refused r h nodes table done ≡ done
  accepted_done e = ap (λ (x : Reply). or_refused x h nodes table done) e

  says : done.answer.refusal ≡ R.Nothing → (or_refused r h nodes table done).answer.refusal ≡ r
  says e = go (accepted r) refl
    where
      go : (b : Bool) → accepted r ≡ b → (cond b done (outcome (answered r h) nodes table)).answer.refusal ≡ r
      go true a = e ∙ sym (accepted_nothing r a)
      go false a = refl

  long_nodes : length done.nodes ≡ length nodes → length (or_refused r h nodes table done).nodes ≡ length nodes
  long_nodes e = go (accepted r)
    where
      go : (b : Bool) → length (cond b done (outcome (answered r h) nodes table)).nodes ≡ length nodes
      go true = e
      go false = refl

  long_table : length done.table ≡ length table → length (or_refused r h nodes table done).table ≡ length table
  long_table e = go (accepted r)
    where
      go : (b : Bool) → length (cond b done (outcome (answered r h) nodes table)).table ≡ length table
      go true = e
      go false = refl

-- a promise leaves no freedom: what it allows, record and buffers, is equal
module _ (o : Outcome) (r r' : Reply) (h h' : History) (nodes nodes' table table' : List ℕ) where
  pub comes_once : Comes r h nodes table o → Comes r' h' nodes' table' o → (r ≡ r') × (h ≡ h') × (nodes ≡ nodes') × (table ≡ table')
  comes_once e f =
      let g : outcome (answered r h) nodes table ≡ outcome (answered r' h') nodes' table' = e ∙ sym f in
      (ap (λ (x : Outcome). x.answer.refusal) g, ap (λ (x : Outcome). x.answer.history) g, ap (λ (x : Outcome). x.nodes) g, ap (λ (x : Outcome). x.table) g)

-- an equal number is given exactly then too
by : (x y r : Reply) (B : Type 0) → x ≡ y → Iff (y ≡ r) B → Iff (x ≡ r) B
by x y r B p i = record { to = λ e. i.to (sym p ∙ e); from = λ b. p ∙ i.from b }

-- ---- opening

pub opened_length : (start n q : ℕ) (table : List ℕ) → length (table_opened start n q table) ≡ length table
unfolding table_opened
opened_length start zero q table = refl
opened_length start (suc n) q table =
    opened_length start n (q + 1) (with_ongoing table (record { 0 = q }) (begins start)) ∙ length_with table (record { 0 = q }) (begins start)

module _ (start attributes : ℕ) (shape : Shape) (nodes table : List ℕ) where
  abbrev opens : Outcome
  opens = outcome (answered R.Nothing (opened start attributes shape)) (planted (opened start attributes shape) nodes) (table_opened start attributes 0 table)

  pub open_says : (open_of start attributes shape nodes table).answer.refusal ≡ open_refusal start attributes shape (length nodes) (length table)
  unfolding open_of open_on
  open_says = says (open_refusal start attributes shape (length nodes) (length table)) blank nodes table opens refl

  -- a refused opening: the record of zeros, nothing written
  pub open_kept : accepted (open_refusal start attributes shape (length nodes) (length table)) ≡ false
      → open_of start attributes shape nodes table ≡ outcome (answered (open_refusal start attributes shape (length nodes) (length table)) blank) nodes table
  unfolding open_of open_on
  open_kept e = refused_kept (open_refusal start attributes shape (length nodes) (length table)) blank nodes table opens e

  pub open_lengths : (length (open_of start attributes shape nodes table).nodes ≡ length nodes) × (length (open_of start attributes shape nodes table).table ≡ length table)
  unfolding open_of open_on
  open_lengths =
      let r = open_refusal start attributes shape (length nodes) (length table) in
      (long_nodes r blank nodes table opens (planted_length (opened start attributes shape) nodes), long_table r blank nodes table opens (opened_length start attributes 0 table))

  pub open_exactly : (r : Reply) → Iff ((open_of start attributes shape nodes table).answer.refusal ≡ r) (Given (open_tests start attributes shape (length nodes) (length table)) R.Nothing r)
  unfolding open_refusal
  open_exactly r = by _ (open_refusal start attributes shape (length nodes) (length table)) r _ open_says (exactly (open_tests start attributes shape (length nodes) (length table)) r)

-- ---- set, remove, increment

module _ (h : History) (t : ℕ) (q : Quark) (o : Ongoing) (nodes table : List ℕ) where
  carried_says : (d : Decision) → (carried h t q o nodes table d).answer.refusal ≡ R.Nothing
  unfolding carried
  carried_says D.Top = refl
  carried_says D.Same = refl
  carried_says (D.Replaced n) = refl
  carried_says (D.Ended n) = refl

  carried_nodes : (d : Decision) → length (carried h t q o nodes table d).nodes ≡ length nodes
  unfolding carried
  carried_nodes D.Top = refl
  carried_nodes D.Same = refl
  carried_nodes (D.Replaced n) = refl
  carried_nodes (D.Ended n) = inserted_length (interval q o (t - 1)) (held h nodes)

  carried_table : (d : Decision) → length (carried h t q o nodes table d).table ≡ length table
  unfolding carried
  carried_table D.Top = refl
  carried_table D.Same = refl
  carried_table (D.Replaced n) = length_with table q n
  carried_table (D.Ended n) = length_with table q n

module _ (h : History) (t : ℕ) (q : Quark) (what : Change) (nodes table : List ℕ) where
  abbrev change : Outcome
  change = carried h t q (ongoing_at table q.0) nodes table (decide (ongoing_at table q.0) t what)

  pub change_says : (change_of h t q what nodes table).answer.refusal ≡ change_refusal h t q what nodes table
  unfolding change_of
  change_says = says (change_refusal h t q what nodes table) h nodes table change (carried_says h t q (ongoing_at table q.0) nodes table (decide (ongoing_at table q.0) t what))

  pub change_kept : accepted (change_refusal h t q what nodes table) ≡ false → change_of h t q what nodes table ≡ outcome (answered (change_refusal h t q what nodes table) h) nodes table
  unfolding change_of
  change_kept e = refused_kept (change_refusal h t q what nodes table) h nodes table change e

  pub change_lengths : (length (change_of h t q what nodes table).nodes ≡ length nodes) × (length (change_of h t q what nodes table).table ≡ length table)
  unfolding change_of
  change_lengths =
      let r = change_refusal h t q what nodes table in
      let o = ongoing_at table q.0 in
      (long_nodes r h nodes table change (carried_nodes h t q o nodes table (decide o t what)), long_table r h nodes table change (carried_table h t q o nodes table (decide o t what)))

  pub change_exactly : (r : Reply) → Iff ((change_of h t q what nodes table).answer.refusal ≡ r) (Given (change_tests h t q what nodes table) R.Nothing r)
  unfolding change_refusal
  change_exactly r = by _ (change_refusal h t q what nodes table) r _ change_says (exactly (change_tests h t q what nodes table) r)

-- ---- adding

module _ (h : History) (nodes table : List ℕ) where
  abbrev adds : Outcome
  adds = outcome (answered R.Nothing (with_attribute h)) nodes (with_ongoing table (record { 0 = h.attributes }) (begins h.start))

  pub add_says : (add_of h nodes table).answer.refusal ≡ add_refusal h (length nodes) (length table)
  unfolding add_of
  add_says = says (add_refusal h (length nodes) (length table)) h nodes table adds refl

  pub add_kept : accepted (add_refusal h (length nodes) (length table)) ≡ false → add_of h nodes table ≡ outcome (answered (add_refusal h (length nodes) (length table)) h) nodes table
  unfolding add_of
  add_kept e = refused_kept (add_refusal h (length nodes) (length table)) h nodes table adds e

  pub add_lengths : (length (add_of h nodes table).nodes ≡ length nodes) × (length (add_of h nodes table).table ≡ length table)
  unfolding add_of
  add_lengths =
      let r = add_refusal h (length nodes) (length table) in
      (long_nodes r h nodes table adds refl, long_table r h nodes table adds (length_with table (record { 0 = h.attributes }) (begins h.start)))

  pub add_exactly : (r : Reply) → Iff ((add_of h nodes table).answer.refusal ≡ r) (Given (add_tests h (length nodes) (length table)) R.Nothing r)
  unfolding add_refusal
  add_exactly r = by _ (add_refusal h (length nodes) (length table)) r _ add_says (exactly (add_tests h (length nodes) (length table)) r)

-- ---- finish

pub stored_length : (n q : ℕ) (table : List ℕ) (t : ℕ) (σ : Held) → length (stored_from n q table t σ).nodes ≡ length σ.nodes
unfolding stored_from
stored_length zero q table t σ = refl
stored_length (suc n) q table t σ =
    stored_length n (q + 1) table t (inserted (interval (record { 0 = q }) (ongoing_at table q) t) σ)
    ∙ inserted_length (interval (record { 0 = q }) (ongoing_at table q) t) σ

module _ (h : History) (t : ℕ) (nodes table : List ℕ) where
  abbrev finishes : Outcome
  finishes =
      let σ = stored_from h.attributes 0 table t (held h nodes) in
      let g = σ.history in
      outcome (answered R.Nothing (finished_at g t)) (close_all g t (g.top + 1 - g.low) g.low σ.nodes) table

  pub finish_says : (finish_of h t nodes table).answer.refusal ≡ finish_refusal h t (length nodes) table
  unfolding finish_of
  finish_says = says (finish_refusal h t (length nodes) table) h nodes table finishes refl

  pub finish_kept : accepted (finish_refusal h t (length nodes) table) ≡ false → finish_of h t nodes table ≡ outcome (answered (finish_refusal h t (length nodes) table) h) nodes table
  unfolding finish_of
  finish_kept e = refused_kept (finish_refusal h t (length nodes) table) h nodes table finishes e

  pub finish_lengths : (length (finish_of h t nodes table).nodes ≡ length nodes) × (length (finish_of h t nodes table).table ≡ length table)
  unfolding finish_of
  finish_lengths =
      let r = finish_refusal h t (length nodes) table in
      let σ = stored_from h.attributes 0 table t (held h nodes) in
      let g = σ.history in
      (long_nodes r h nodes table finishes (close_all_length g t (g.top + 1 - g.low) g.low σ.nodes ∙ stored_length h.attributes 0 table t (held h nodes)), long_table r h nodes table finishes refl)

  -- 10 and 11 are the trial's
  pub finish_exactly : (r : Reply) → Iff ((finish_of h t nodes table).answer.refusal ≡ r) (Given (finish_tests h t (length nodes) table) (trial h.attributes 0 table t h) r)
  unfolding finish_refusal
  finish_exactly r = by _ (finish_refusal h t (length nodes) table) r _ finish_says (exactly_else (finish_tests h t (length nodes) table) (trial h.attributes 0 table t h) r)
