-- By the law of the mask. The value fits, so it is read back from its bits. Assumes nothing.
use Rattle.std.proofs.Common.{◌+◌, ◌%◌, ap, ◌∙◌, arith, to_z-of_z, w64, SFits, of_z, rules}
use Rattle.transient.proofs.Sound.{state_masked}
use Rattle.transient.proofs.null_value.Goals as goal

pub returns : goal.returns
returns c =
    let value_fits : SFits w64 c.args.value = search rules in
    state_masked _ c.bits.result ((c.from.result + 18446744073709551615) % 18446744073709551616) _ (c.bits.ensures ∙ ap (of_z w64) (to_z-of_z (value_fits))) (omega arith) (omega arith) (omega arith)
