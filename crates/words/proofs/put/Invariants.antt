-- What is left to store, stored in the bytes as they are, makes the number's bytes.
use Rattle.std.proofs.Common.{◌≡◌, ◌-◌}
use Rattle.std.proofs.lemmas.List.Edits.{sets}
use Rattle.words.specs.Words.{le}
use Rattle.words.proofs.put.Given as goal

abbrev pub invariant-loop-byte : goal.invariant-loop-byte
invariant-loop-byte l = sets l.byte-items l.byte-index (le (l.n - l.byte-index) l.rest) ≡ le l.n l.v
