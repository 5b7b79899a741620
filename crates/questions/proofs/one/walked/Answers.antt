-- Each `return` cites the law of its way through `walked_single`. Assumes nothing.
use Prim.Native.Nat.{◌+◌, ◌≤◌, ◌<◌}
use mathlib.Core.Path.{refl, sym, ap}
use mathlib.Core.Bool.{not}
use native.Mathlib.Omega.{arith}
use lib.ListN.{length}
use Rattle.questions.specs.Single.{said}
use Rattle.questions.proofs.Finds.{near_found}
use Rattle.questions.proofs.Singles.{walked_damaged, walked_none, walked_told}
use Rattle.questions.proofs.one.walked.Goals as goal

pub returns-in_default : goal.returns-in_default
unfolding said
returns-in_default c = walked_damaged _ _ _ _ _ (sym c.in_default.ensures.kept) refl

pub returns-then-not-one : goal.returns-then-not-one
unfolding said
returns-then-not-one c =
    let finds = c.in-Some.ensures.finds.1 in
    walked_none _ _ _ _ _ _ _ (sym c.in-Some.ensures.kept) finds c.one.ensures (ap not c.if-not-one.true) refl

pub overflow_sub-s : goal.overflow_sub-s
overflow_sub-s c =
    let near : (0 < c.in-Some.s) × (c.in-Some.s + 31 ≤ length c.args.nodes.now) = near_found _ _ c.requires _ _ _ _ c.in-Some.ensures.finds.1 c.one.ensures (ap not c.if-not-one.false) in
    omega arith

pub read_entry-entry-requires : goal.read_entry-entry-requires
read_entry-entry-requires c =
    let near : (0 < c.in-Some.s) × (c.in-Some.s + 31 ≤ length c.args.nodes.now) = near_found _ _ c.requires _ _ _ _ c.in-Some.ensures.finds.1 c.one.ensures (ap not c.if-not-one.false) in
    omega arith

pub returns : goal.returns
unfolding said
returns c =
    let found = c.in-Some.ensures.finds in
    walked_told _ _ _ _ _ _ _ (sym c.in-Some.ensures.kept) found.1 c.one.ensures _ _ (ap not c.if-not-one.false) found.0 c.read_entry-entry.ensures refl
