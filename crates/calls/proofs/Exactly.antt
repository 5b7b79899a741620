-- "Each number is given exactly then": one law for every list of tests. Assumes nothing.
use mathlib.Core.Path.{◌≡◌, refl, sym, ap, ◌∙◌}
use mathlib.Core.Bool.{Bool, true, false, cond, false≢true}
use mathlib.Core.List.{List, [], ◌∷◌, ◌++◌}
use mathlib.Core.Logic.{inl, inr}
use Rattle.record.specs.Refusals.{Reply, Nothing, first_of, first_else}
use Rattle.calls.specs.Exactly.{quiet, Given, Iff}

-- ---- from the answer to the tests

passed : (q : Reply) (l : List (Bool × Reply)) (s r : Reply) → Given l s r → Given ((false, q) ∷ l) s r
passed q l s r (inl d) = inl (record { before = (false, q) ∷ d.before; after = d.after; split = ap (λ (m : List (Bool × Reply)). (false, q) ∷ m) d.split; none = d.none })
passed q l s r (inr n) = inr n

one : (b : Bool) (q : Reply) (l : List (Bool × Reply)) (s r : Reply) → (first_else l s ≡ r → Given l s r) → cond b q (first_else l s) ≡ r → Given ((b, q) ∷ l) s r
one true q l s r next e = inl (record { before = []; after = l; split = ap (λ (y : Reply). (true, y) ∷ l) e; none = refl })
one false q l s r next e = passed q l s r (next e)

given : (l : List (Bool × Reply)) (s r : Reply) → first_else l s ≡ r → Given l s r
given [] s r e = inr (refl, e)
given (x ∷ l) s r e = one x.0 x.1 l s r (given l s r) e

-- ---- from the tests to the answer

silent : (b : Bool) (q : Reply) (n : Bool) (y r : Reply) → cond b false n ≡ true → (n ≡ true → y ≡ r) → cond b q y ≡ r
silent true q n y r e next = absurd (false≢true e)
silent false q n y r e next = next e

found : (l m : List (Bool × Reply)) (s r : Reply) → quiet l ≡ true → first_else (l ++ ((true, r) ∷ m)) s ≡ r
found [] m s r e = refl
found (x ∷ l) m s r e = silent x.0 x.1 (quiet l) (first_else (l ++ ((true, r) ∷ m)) s) r e (found l m s r)

left : (l : List (Bool × Reply)) (s : Reply) → quiet l ≡ true → first_else l s ≡ s
left [] s e = refl
left (x ∷ l) s e = silent x.0 x.1 (quiet l) (first_else l s) s e (left l s)

gives : (l : List (Bool × Reply)) (s r : Reply) → Given l s r → first_else l s ≡ r
gives l s r (inl d) = ap (λ (m : List (Bool × Reply)). first_else m s) d.split ∙ found d.before d.after s r d.none
gives l s r (inr n) = left l s n.0 ∙ n.1

-- ---- the law

-- where something follows the list
pub exactly_else : (tests : List (Bool × Reply)) (after r : Reply) → Iff (first_else tests after ≡ r) (Given tests after r)
exactly_else tests after r = record { to = given tests after r; from = gives tests after r }

of_else : (l : List (Bool × Reply)) → first_of l ≡ first_else l Nothing
of_else [] = refl
of_else (x ∷ l) = ap (λ (y : Reply). cond x.0 x.1 y) (of_else l)

-- The answer is r exactly where a test answered r holds and none before it does; it is 0 besides where none holds.
pub exactly : (tests : List (Bool × Reply)) (r : Reply) → Iff (first_of tests ≡ r) (Given tests Nothing r)
exactly tests r = record { to = λ e. given tests Nothing r (sym (of_else tests) ∙ e); from = λ g. of_else tests ∙ gives tests Nothing r g }
