-- `walk::rules::nulls` meets its contract. The value fits, so it is the one that is asked of. Assumes nothing.
use Rattle.std.proofs.Common.{ap, ◌∙◌, to_z-of_z, w64, SFits, rules}
use Rattle.transient.specs.Transient.{state_sound}
use Rattle.walk.proofs.Entries.{or_null}
use Rattle.walk.proofs.rules.nulls.Goals as goal

pub returns : goal.returns
returns c =
    let value_fits : SFits w64 c.args.e.value = search rules in
    or_null c.args.before _ c.null_value.result _ (λ k. c.null_value.ensures k ∙ ap (state_sound _) (to_z-of_z (value_fits)))
