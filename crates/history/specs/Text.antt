-- What an answer is as text. "Each line: record number from 0, answer number." Plain decimal, one space between, a newline at the end.
use Rattle.std.specs.Prelude.{ℕ, zero, suc, ◌*◌, ℤ, cond, List, [], ◌∷◌, ◌++◌, decimal}
use Rattle.std.specs.Fmt.{signed_decimal}
use Rattle.layout.specs.Layout.{entry_size, read_entry}
use Rattle.layout.specs.declared.Entry.{Entry}
use Rattle.record.specs.Refusals.{accepted, number_of, Reply}
use Rattle.questions.specs.Single.{Single}
use Rattle.full_question.specs.Full.{Full}
use Rattle.history.specs.Step.{Shown, Said, One, All}

-- a space, and the number
abbrev pub number : ℕ → List ℕ
number x = 32 ∷ decimal x

abbrev pub signed_number : ℤ → List ℕ
signed_number v = 32 ∷ signed_decimal v

abbrev pub newline : List ℕ
newline = 10 ∷ []

-- start, end, kind, value
unfoldable pub state : Entry → List ℕ
state e = number e.start ++ number e.end ++ number e.kind ++ signed_number e.value

abbrev pub answer_number : ℕ → Reply → List ℕ
answer_number i r = decimal i ++ number (number_of r)

abbrev pub said : ℕ → Reply → List ℕ
said i r = answer_number i r ++ newline

-- "Accepted single adds start, end, kind, value, nodes entered."
unfoldable pub single : ℕ → Single → List ℕ
single i s = cond (accepted s.refusal) (answer_number i s.refusal ++ state s.entry ++ number s.nodes ++ newline) (said i s.refusal)

-- "a line per attribute: `=`, quark, start, end, kind, value"
abbrev pub attribute : ℕ → Entry → List ℕ
attribute q e = (61 ∷ number q) ++ state e ++ newline

unfoldable pub attributes : ℕ → List ℕ → List ℕ
attributes zero answer = []
attributes (suc n) answer = attributes n answer ++ attribute n (read_entry answer (n * entry_size))

-- "Accepted full adds nodes entered, then a line per attribute"
unfoldable pub full : ℕ → Full → ℕ → List ℕ → List ℕ
full i f n answer = cond (accepted f.refusal) (answer_number i f.refusal ++ number f.nodes ++ newline ++ attributes n answer) (said i f.refusal)

unfoldable pub shown : ℕ → Shown → ℕ → List ℕ → List ℕ
shown i (Said r) n answer = said i r
shown i (One s) n answer = single i s
shown i (All f) n answer = full i f n answer
