-- The loop has R7 of the quarks before the one reached. Assumes nothing.
use mathlib.Core.Path.{◌≡◌}
use lib.ListN.{get_or}
use Rattle.questions.specs.Found.{shown}
use Rattle.full_question.specs.Full.{every_quark}
use Rattle.full_question.proofs.all.all_one.Given as goal

abbrev pub invariant-loop-s : goal.invariant-loop-s
invariant-loop-s l = l.all ≡ every_quark (λ q. shown (get_or l.found q 0)) l.s-index
