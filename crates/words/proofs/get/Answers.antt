use Rattle.std.proofs.Common.{◌≡◌, ◌^◌, ◌<◌, ◌∙◌, arith}
use Rattle.words.specs.Words.{num}
use Rattle.words.proofs.Numbers.{num_copied, num_below}
use Rattle.words.proofs.get.Goals as goal

pub returns : goal.returns
returns c =
    let a = c.args in
    let read : c.from_le_bytes.result ≡ num a.b.now a.at a.n = c.from_le_bytes.ensures ∙ num_copied _ _ _ _ c.requires.0 c.requires.1 c.copy_from_slice.ensures.after in
    let room : num a.b.now a.at a.n < 256 ^ a.n = num_below a.b.now (λ k h. (c.type_inv.b k).fits) _ _ c.requires.0 in
    (read, omega arith)
