-- The examples, by computation.
use mathlib.Core.Path.{refl}
use Rattle.demands.specs.Examples.{Holds, Examples, E1, E2, E3, E4, E5, E6, E7, E8, E9, E10_16, E10_17, E10_15}
use Rattle.demands.proofs.Computing.{computing}

e1 : Holds E1
unfolding computing
e1 = record { said = refl; left = refl }

e2 : Holds E2
unfolding computing
e2 = record { said = refl; left = tt }

e3 : Holds E3
unfolding computing
e3 = record { said = refl; left = tt }

e4 : Holds E4
unfolding computing
e4 = record { said = refl; left = tt }

e5 : Holds E5
unfolding computing
e5 = record { said = refl; left = tt }

e6 : Holds E6
unfolding computing
e6 = record { said = refl; left = tt }

e7 : Holds E7
unfolding computing
e7 = record { said = refl; left = tt }

e8 : Holds E8
unfolding computing
e8 = record { said = refl; left = tt }

e9 : Holds E9
unfolding computing
e9 = record { said = refl; left = tt }

e10_16 : Holds E10_16
unfolding computing
e10_16 = record { said = refl; left = refl }

e10_17 : Holds E10_17
unfolding computing
e10_17 = record { said = refl; left = tt }

e10_15 : Holds E10_15
unfolding computing
e10_15 = record { said = refl; left = tt }

-- E1 to E10
pub examples : Examples
examples = (e1, (e2, (e3, (e4, (e5, (e6, (e7, (e8, (e9, (e10_16, (e10_17, (e10_15, tt))))))))))))
