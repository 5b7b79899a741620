-- By its two cases, as the entry itself. Assumes nothing.
use mathlib.Core.Path.{refl, ap, ◌∙◌}
use Rattle.layout.specs.Layout.{entry_name}
use Rattle.transient.specs.Transient.{interval}
use Rattle.full_question.proofs.Fulls.{entry_table, entry_node}
use Rattle.full_question.proofs.all.name_for.Goals as goal

pub returns-then-s-eq-ONGOING : goal.returns-then-s-eq-ONGOING
unfolding interval
returns-then-s-eq-ONGOING c = rw (c.from.ensures, c.from-then-s-eq-ONGOING.ensures) (ap entry_name (entry_table _ _ _ _ _ _ c.if-s-eq-ONGOING.true c.read_ongoing-o.ensures refl))

pub returns : goal.returns
returns c = c.read_name.ensures ∙ ap entry_name (entry_node _ _ _ _ _ c.if-s-eq-ONGOING.false refl)
