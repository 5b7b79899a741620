-- A call of the model as a call on a record and two buffers: what it comes to.
use Rattle.std.specs.Prelude.{ℕ, List, [], ◌∷◌}
use Rattle.record.specs.declared.History.{History}
use Rattle.transient.specs.declared.Change.{Change}
use Rattle.transient.specs.declared.Change.TheVariants.{Set, Remove, Increment}
use Rattle.calls.specs.Outcome.{Outcome}
use Rattle.calls.specs.Change.{change_of}
use Rattle.calls.specs.Add.{add_of}
use Rattle.calls.specs.Finish.{finish_of}
use Rattle.model.specs.Transient as M
use Rattle.model.specs.Transient.{Call, change, add, finish}

-- "Calls: set; remove (becomes null); increment"
abbrev pub change_is : M.Change → Change
change_is (M.set v) = Set v
change_is M.remove = Remove
change_is M.increment = Increment

-- set, remove and increment; add; finish
abbrev pub outcome_of : Call → History → List ℕ → List ℕ → Outcome
outcome_of (change t q c) h b table = change_of h t (record { 0 = q }) (change_is c) b table
outcome_of add h b table = add_of h b table
outcome_of (finish t) h b table = finish_of h t b table

-- calls one after the other, the latest first, on what an outcome leaves
unfoldable pub ran_of : List Call → Outcome → Outcome
ran_of [] o = o
ran_of (c ∷ cs) o = let r = ran_of cs o in outcome_of c r.answer.history r.nodes r.table
