-- `finishing::store_all` meets its contract: what is left to store from the entry reached, with the header that is due written, is the whole.
-- Assumes nothing.
use Rattle.finishing.specs.Due.{Due, caught_up}
use Rattle.finishing.proofs.Finishes.{StoreLeft}
use Rattle.finishing.proofs.store_all.Given as goal

abbrev pub invariant-loop-q : goal.invariant-loop-q
invariant-loop-q l = Due l.h l.due × StoreLeft l.initial.h.attributes l.table l.t l.initial.h l.initial.nodes l.q l.h (caught_up l.h l.due l.nodes)
