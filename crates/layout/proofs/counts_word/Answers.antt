-- `layout::counts_word` meets its contract. Assumes nothing.
use Rattle.layout.proofs.Parts.{counts_word_lem}
use borrow.Author.Rules.{rules}
use Rattle.layout.proofs.counts_word.Goals as goal

pub returns : goal.returns
returns c =
    rw (c.from.ensures, c.from-2.ensures, c.from-3.ensures, c.from-4.ensures)
    (counts_word_lem c.args.h (search rules) (search rules) (search rules) (search rules))
