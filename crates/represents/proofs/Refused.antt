-- What a call says is its list's answer, and a refusal leaves everything as it came. Assumes nothing.
use Prim.Native.Nat.{ℕ}
use mathlib.Core.Bool.{Bool, true, false, cond}
use mathlib.Core.Path.{◌≡◌, refl, sym, ap, ◌∙◌}
use mathlib.Core.List.{List}
use lib.ListN.{length}
use Rattle.layout.specs.declared.Quark.{Quark}
use Rattle.record.specs.declared.History.{History}
use Rattle.record.specs.Refusals.{Reply, accepted}
use Rattle.record.specs.Refusals as R
use Rattle.transient.specs.declared.Ongoing.{Ongoing}
use Rattle.transient.specs.declared.Decision.{Decision}
use Rattle.transient.specs.declared.Decision.TheVariants.{Top, Same, Replaced, Ended}
use Rattle.transient.specs.Transient.{begins}
use Rattle.transient.proofs.Table.{length_with}
use Rattle.calls.specs.Outcome.{Outcome, outcome, answered, or_refused}
use Rattle.calls.specs.Change.{carried, ongoing, decision, change_refusal, change_of}
use Rattle.calls.specs.Add.{add_refusal, add_of}
use Rattle.calls.specs.Finish.{finish_refusal, finish_of}
use Rattle.model.specs.Transient.{Call, change, add, finish}
use Rattle.represents.specs.Calls.{change_is, outcome_of}
use Rattle.record.proofs.Said.{accepted_nothing}

-- ---- an outcome that is refused or done

module _ (r : Reply) (h : History) (b table : List ℕ) (done : Outcome) where
  pub said : done.answer.refusal ≡ R.Nothing → (or_refused r h b table done).answer.refusal ≡ r
  said e = go (accepted r) refl
    where
      go : (x : Bool) → accepted r ≡ x → (cond x done (outcome (answered r h) b table)).answer.refusal ≡ r
      go true f = e ∙ sym (accepted_nothing r f)
      go false f = refl

  kept : accepted r ≡ false → or_refused r h b table done ≡ outcome (answered r h) b table
  kept e = ap (λ (x : Bool). cond x done (outcome (answered r h) b table)) e

  long : length done.table ≡ length table → length (or_refused r h b table done).table ≡ length table
  long e = go (accepted r)
    where
      go : (x : Bool) → length (cond x done (outcome (answered r h) b table)).table ≡ length table
      go true = e
      go false = refl

carried_says : (h : History) (t : ℕ) (q : Quark) (o : Ongoing) (b table : List ℕ) (d : Decision) → (carried h t q o b table d).answer.refusal ≡ R.Nothing
unfolding carried
carried_says h t q o b table Top = refl
carried_says h t q o b table Same = refl
carried_says h t q o b table (Replaced n) = refl
carried_says h t q o b table (Ended n) = refl

carried_long : (h : History) (t : ℕ) (q : Quark) (o : Ongoing) (b table : List ℕ) (d : Decision) → length (carried h t q o b table d).table ≡ length table
unfolding carried
carried_long h t q o b table Top = refl
carried_long h t q o b table Same = refl
carried_long h t q o b table (Replaced n) = length_with table q n
carried_long h t q o b table (Ended n) = length_with table q n

-- ---- the calls

-- the answer of a call's list
abbrev pub refusal_of : Call → History → List ℕ → List ℕ → Reply
refusal_of (change t q c) h b table = change_refusal h t (record { 0 = q }) (change_is c) b table
refusal_of add h b table = add_refusal h (length b) (length table)
refusal_of (finish t) h b table = finish_refusal h t (length b) table

pub says : (c : Call) (h : History) (b table : List ℕ) → (outcome_of c h b table).answer.refusal ≡ refusal_of c h b table
unfolding change_of add_of finish_of
says (change t q c) h b table =
    said (change_refusal h t (record { 0 = q }) (change_is c) b table) h b table (carried h t (record { 0 = q }) (ongoing h t (record { 0 = q }) (change_is c) b table) b table (decision h t (record { 0 = q }) (change_is c) b table))
    (carried_says h t (record { 0 = q }) (ongoing h t (record { 0 = q }) (change_is c) b table) b table (decision h t (record { 0 = q }) (change_is c) b table))
says add h b table = said (add_refusal h (length b) (length table)) h b table _ refl
says (finish t) h b table = said (finish_refusal h t (length b) table) h b table _ refl

-- "A refusal returns its number .. the record as it came, and nothing written."
pub keeps : (c : Call) (h : History) (b table : List ℕ) → accepted (refusal_of c h b table) ≡ false → outcome_of c h b table ≡ outcome (answered (refusal_of c h b table) h) b table
unfolding change_of add_of finish_of
keeps (change t q c) h b table e = kept (change_refusal h t (record { 0 = q }) (change_is c) b table) h b table _ e
keeps add h b table e = kept (add_refusal h (length b) (length table)) h b table _ e
keeps (finish t) h b table e = kept (finish_refusal h t (length b) table) h b table _ e

-- the table keeps its length
pub keeps_long : (c : Call) (h : History) (b table : List ℕ) → length (outcome_of c h b table).table ≡ length table
unfolding change_of add_of finish_of
keeps_long (change t q c) h b table =
    long (change_refusal h t (record { 0 = q }) (change_is c) b table) h b table _
    (carried_long h t (record { 0 = q }) (ongoing h t (record { 0 = q }) (change_is c) b table) b table (decision h t (record { 0 = q }) (change_is c) b table))
keeps_long add h b table = long (add_refusal h (length b) (length table)) h b table _ (length_with table (record { 0 = h.attributes }) (begins h.start))
keeps_long (finish t) h b table = long (finish_refusal h t (length b) table) h b table _ refl
