-- Adding an attribute. Document 01: "adding 3 record, 2, 4, 8".
use Rattle.std.specs.Prelude.{ℕ, ◌/◌, Bool, not, ◌||◌, List, [], ◌∷◌, leb, length}
use Rattle.layout.specs.Layout.{entry_size}
use Rattle.record.specs.declared.History.{History}
use Rattle.record.specs.Refusals.{Reply, Nothing, Damaged, Short, Finished, TableFull, first_of}
use Rattle.record.specs.Sound.{sound, long_enough}
use Rattle.record.specs.Moves.{with_attribute}
use Rattle.transient.specs.Transient.{begins, with_ongoing}
use Rattle.calls.specs.Outcome.{Outcome, answered, outcome, or_refused}

-- "8 attribute table full, or 4,096 attributes"
abbrev pub add_tests : History → ℕ → ℕ → List (Bool × Reply)
add_tests h nodes table =
    (not (sound h), Damaged)
    ∷ (not (long_enough h nodes table), Short)
    ∷ (h.finished, Finished)
    ∷ (leb (table / entry_size) h.attributes || leb 4096 h.attributes, TableFull)
    ∷ []

unfoldable pub add_refusal : History → ℕ → ℕ → Reply
add_refusal h nodes table = first_of (add_tests h nodes table)

-- "when added later, it is null from the history's start"
unfoldable pub add_of : History → List ℕ → List ℕ → Outcome
add_of h nodes table =
    or_refused (add_refusal h (length nodes) (length table)) h nodes table
    (outcome (answered Nothing (with_attribute h)) nodes (with_ongoing table (record { 0 = h.attributes }) (begins h.start)))
