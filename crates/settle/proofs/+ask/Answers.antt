-- Each way cites the law of its way through `ask_up`.
use Rattle.std.proofs.Common.{ap}
use Rattle.settle.specs.declared.Plan.{Plan}
use Rattle.settle.proofs.Ways.{here, chained, new_root_lem, level_upward}
use Rattle.settle.proofs.+ask.Goals as goal

pub returns-in-Here : goal.returns-in-Here
returns-in-Here t c = λ x. ap (λ (p : Plan). p.level) (here _ _ _ _ _ x _ c.rule.ensures _ c.in-Here.is)

pub returns-in-Chain : goal.returns-in-Chain
returns-in-Chain t c = λ x. ap (λ (p : Plan). p.level) (chained _ _ _ _ _ x _ c.rule.ensures _ c.in-Chain.is)

pub returns-then-level-h : goal.returns-then-level-h
returns-then-level-h t c = λ x. ap (λ (p : Plan). p.level) (new_root_lem _ _ _ _ _ x _ c.rule.ensures c.in-Close.is c.if-level-h.true)

pub returns-else-level-h : goal.returns-else-level-h
returns-else-level-h t c = λ x. level_upward c.args.h.now _ _ _ _ x _ c.rule.ensures _ c.in-Close.is c.requires.1 c.if-level-h.false c.ask.ensures
