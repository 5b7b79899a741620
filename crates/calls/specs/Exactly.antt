-- "Each number is given exactly then": what it means that a list of tests is answered so.
use Rattle.std.specs.Prelude.{◌≡◌, Bool, true, false, cond, List, [], ◌∷◌, ◌++◌, ◌⊎◌}
use Rattle.record.specs.Refusals.{Reply}

-- none of the tests holds
abbrev pub quiet : List (Bool × Reply) → Bool
quiet [] = true
quiet (x ∷ rest) = cond x.0 false (quiet rest)

-- a test that is answered r holds, and none before it does
pub record Decides (tests : List (Bool × Reply)) (r : Reply) : Type 0 where
  pub before : List (Bool × Reply)
  pub after : List (Bool × Reply)
  pub split : tests ≡ before ++ ((true, r) ∷ after)
  pub none : quiet before ≡ true

-- or none of them holds, and what follows the list is r
abbrev pub Given : List (Bool × Reply) → Reply → Reply → Type 0
Given tests after r = Decides tests r ⊎ ((quiet tests ≡ true) × (after ≡ r))

-- both ways
pub record Iff (A B : Type 0) : Type 0 where
  pub to : A → B
  pub from : B → A
