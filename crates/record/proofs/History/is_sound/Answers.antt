use mathlib.Core.Path.{sym, ◌∙◌}
use native.Mathlib.Omega.{arith}
use borrow.Author.Rules.{rules}
use Rattle.record.proofs.Facts.{sound_numbered}
use Rattle.record.proofs.History.is_sound.Goals as goal
use Rattle.record.proofs.History.is_sound.Goals.{then-shape_allowed, else-shape_allowed}

pub branch_sound-requires : goal.branch_sound-requires
branch_sound-requires c =
    elim c.if-shape_allowed.branch [
      | then-shape_allowed w ↦ let n = sound_numbered _ (sym w.numbers_sound.ensures ∙ sym w.value-is ∙ c.if-numbers_sound.true) in omega arith
      | else-shape_allowed w ↦ search rules
    ]
