-- `calls::changing::carry` meets its contract. Assumes nothing.
use Rattle.calls.proofs.Changes.{carry_top, carry_same, carry_replaced, carry_before}
use Rattle.calls.proofs.changing.carry.Goals as goal

pub store-requires : goal.store-requires
store-requires c = (c.requires, carry_before _ _ _ _ _ _ _ _ c.decide.ensures _ c.in-Ended.is c.requires)

pub returns-in-Top : goal.returns-in-Top
returns-in-Top c = carry_top _ _ _ _ _ _ _ _ c.decide.ensures c.in-Top.is

pub returns-in-Same : goal.returns-in-Same
returns-in-Same c = carry_same _ _ _ _ _ _ _ _ c.decide.ensures _ c.in-Same.is c.at_time.ensures

pub returns-in-Replaced : goal.returns-in-Replaced
returns-in-Replaced c = carry_replaced _ _ _ _ _ _ _ _ c.decide.ensures _ _ _ c.in-Replaced.is c.put_ongoing.ensures c.at_time-in-Replaced.ensures
