-- "What a call says": that it is accepted, or its refusal; the paper's number of each; and the order of a call's refusals as a list.
use Rattle.std.specs.Prelude.{ℕ, Bool, true, false, cond, List, [], ◌∷◌, Result, Ok, Err}
use Rattle.record.specs.declared.Refusal.{Refusal}
use Rattle.record.specs.declared.Refusal.TheVariants as R

-- what a call says
abbrev pub Reply : Type 0
Reply = Result Unit Refusal

-- its names: that of 0, accepted, and those of the refusals
abbrev pub Nothing : Reply
Nothing = Ok tt

abbrev pub Numbers : Reply
Numbers = Err R.Numbers

abbrev pub Short : Reply
Short = Err R.Short

abbrev pub Damaged : Reply
Damaged = Err R.Damaged

abbrev pub Finished : Reply
Finished = Err R.Finished

abbrev pub Early : Reply
Early = Err R.Early

abbrev pub Outside : Reply
Outside = Err R.Outside

abbrev pub NoQuark : Reply
NoQuark = Err R.NoQuark

abbrev pub TableFull : Reply
TableFull = Err R.TableFull

abbrev pub Top : Reply
Top = Err R.Top

abbrev pub Deep : Reply
Deep = Err R.Deep

abbrev pub NoRoom : Reply
NoRoom = Err R.NoRoom

abbrev pub NoTag : Reply
NoTag = Err R.NoTag

abbrev pub WrongLength : Reply
WrongLength = Err R.WrongLength

abbrev pub Cut : Reply
Cut = Err R.Cut

abbrev pub NotOpen : Reply
NotOpen = Err R.NotOpen

abbrev pub LongFeed : Reply
LongFeed = Err R.LongFeed

unfoldable pub number_of : Reply → ℕ
number_of (Ok u) = 0
number_of (Err R.Numbers) = 1
number_of (Err R.Short) = 2
number_of (Err R.Damaged) = 3
number_of (Err R.Finished) = 4
number_of (Err R.Early) = 5
number_of (Err R.Outside) = 6
number_of (Err R.NoQuark) = 7
number_of (Err R.TableFull) = 8
number_of (Err R.Top) = 9
number_of (Err R.Deep) = 10
number_of (Err R.NoRoom) = 11
number_of (Err R.NoTag) = 12
number_of (Err R.WrongLength) = 13
number_of (Err R.Cut) = 14
number_of (Err R.NotOpen) = 15
number_of (Err R.LongFeed) = 16

-- "Each number is given exactly then": a call's refusals are a list of tests and what each is answered, and the first test that holds decides.
abbrev pub first_of : List (Bool × Reply) → Reply
first_of [] = Nothing
first_of (x ∷ rest) = cond x.0 x.1 (first_of rest)

-- the same, where what follows the list decides if none of its tests holds
abbrev pub first_else : List (Bool × Reply) → Reply → Reply
first_else [] r = r
first_else (x ∷ rest) r = cond x.0 x.1 (first_else rest r)

-- 0 accepted
abbrev pub accepted : Reply → Bool
accepted (Ok u) = true
accepted (Err r) = false
