-- Each arm leaves what its call or question promises. Assumes nothing.
use mathlib.Core.Path.{refl, sym}
use mathlib.Core.Bool.{false≢true}
use mir.Syntax.{w64}
use mir.Val.{SFits}
use mir.Facts.{to_z-of_z}
use borrow.Author.Rules.{rules}
use Rattle.history.specs.Step.{called, opens}
use Rattle.history.proofs.Records.{did}
use Rattle.history.proofs.step.call.Goals as goal

pub unreachable-requires : goal.unreachable-requires
unfolding opens
unreachable-requires c = false≢true (sym (rw c.in-Open.is at c.requires))

-- the value fits, so it is read back from its bits
pub returns-in-Set : goal.returns-in-Set
unfolding called
returns-in-Set c =
    let fits : SFits w64 c.in-Set.value = search rules in
    rw c.in-Set.is (did _ _ _ _ _ _ (rw (to_z-of_z fits) at c.set.ensures))

pub returns-in-Remove : goal.returns-in-Remove
unfolding called
returns-in-Remove c = rw c.in-Remove.is (did _ _ _ _ _ _ c.remove.ensures)

pub returns-in-Increment : goal.returns-in-Increment
unfolding called
returns-in-Increment c = rw c.in-Increment.is (did _ _ _ _ _ _ c.increment.ensures)

pub returns-in-Add : goal.returns-in-Add
unfolding called
returns-in-Add c = rw c.in-Add.is (did _ _ _ _ _ _ c.add.ensures)

pub returns-in-Finish : goal.returns-in-Finish
unfolding called
returns-in-Finish c = rw c.in-Finish.is (did _ _ _ _ _ _ c.finish.ensures)

pub returns-in-Single : goal.returns-in-Single
unfolding called
returns-in-Single c = rw (c.in-Single.is, c.single.ensures) refl

pub returns-in-Full : goal.returns-in-Full
unfolding called
returns-in-Full c = rw (c.in-Full.is, c.full.ensures.0, c.full.ensures.1) refl
