-- `layout::name_word` meets its contract. Assumes nothing.
use Rattle.words.proofs.Numbers.{le_join}
use borrow.Author.Rules.{rules}
use Rattle.layout.proofs.name_word.Goals as goal

pub returns : goal.returns
returns c = rw (c.from.ensures, c.from-2.ensures) (le_join 4 4 _ _ (search rules))
