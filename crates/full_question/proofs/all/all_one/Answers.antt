use Prim.Native.Nat.{ℕ, ◌<◌}
use mathlib.Core.Path.{sym, ap, ◌∙◌}
use mathlib.Core.Bool.{Bool, not}
use native.Mathlib.Omega.{arith}
use lib.Dec.{eqb}
use lib.ListN.{get_or}
use Rattle.std.proofs.lemmas.List.{get_or-take, length-take-le}
use Rattle.questions.specs.Found.{shown}
use Rattle.full_question.specs.Full.{every_quark}
use Rattle.full_question.proofs.Fulls.{every_none, every_next}
use Rattle.full_question.proofs.Once.{once_shown}
use Rattle.full_question.proofs.all.all_one.Goals as goal

pub loop-s-init : goal.loop-s-init
loop-s-init c = sym (every_none _)

pub loop-s-preserved : goal.loop-s-preserved
loop-s-preserved c =
    let f : ℕ → Bool = λ q. shown (get_or c.args.found.now q 0) in
    let h : c.loop-s.s-index < c.args.n = omega (arith, c.loop-s-test.true, length-take-le c.args.n c.args.found.now c.requires.0) in
    every_next f _ _ _ c.loop-s.invariant (ap (λ (s : ℕ). not (eqb s 0)) (get_or-take _ _ _ _ h) ∙ once_shown _ _ _ c.requires.1 h)

pub returns : goal.returns
returns c =
    let f : ℕ → Bool = λ q. shown (get_or c.args.found.now q 0) in
    c.loop-s.invariant ∙ ap (every_quark f) (omega (arith, c.loop-s-test.false, length-take-le c.args.n c.args.found.now c.requires.0))
