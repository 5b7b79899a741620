-- `layout::write_header` meets its contract. Assumes nothing.
use Rattle.layout.proofs.Parts.{header_put}
use Rattle.layout.proofs.write_header.Goals as goal

pub returns : goal.returns
returns c =
    header_put _ _ _ _ _ _ _ _ c.put.ensures c.put-2.ensures c.name_word.ensures c.put-3.ensures
    c.counts_word.ensures c.put-4.ensures
