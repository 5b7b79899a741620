-- Each `return` cites the law of its way through `single_of`. Assumes nothing.
use Prim.Native.Nat.{◌<◌}
use mathlib.Core.Path.{refl, sym, ap, subst, ◌∙◌}
use mathlib.Core.Bool.{not}
use Rattle.questions.specs.Single.{said}
use Rattle.walk.specs.declared.View.{View}
use Rattle.walk.specs.View.{view_of}
use Rattle.record.proofs.Facts.{admitted_facts}
use Rattle.walk.proofs.Admitted.{sound_roomy}
use Rattle.questions.proofs.Singles.{single_head, single_7, single_6, single_view}
use Rattle.questions.proofs.one.single.Goals as goal

pub returns-in_err-admit : goal.returns-in_err-admit
returns-in_err-admit c = single_head _ _ _ _ _ _ _ (sym c.admit.ensures ∙ c.in_err-admit.was) c.from_residual.ensures.1

pub view_of-v-requires : goal.view_of-v-requires
view_of-v-requires c = (admitted_facts _ _ _ (sym c.admit.ensures ∙ c.in_ok-admit.was)).0

pub returns-then-v-quark : goal.returns-then-v-quark
unfolding said
returns-then-v-quark c = single_7 _ _ _ _ _ _ (sym c.admit.ensures ∙ c.in_ok-admit.was) _ c.view_of-v.ensures c.if-v-quark.true refl

pub returns-then-not-asked : goal.returns-then-not-asked
unfolding said
returns-then-not-asked c = single_6 _ _ _ _ _ _ (sym c.admit.ensures ∙ c.in_ok-admit.was) _ c.view_of-v.ensures c.if-v-quark.false _ c.asked.ensures (ap not c.if-not-asked.true) refl

pub admitted-requires : goal.admitted-requires
unfolding view_of
admitted-requires c =
    let f = admitted_facts _ _ _ (sym c.admit.ensures ∙ c.in_ok-admit.was) in
    (f.0, sound_roomy _ f.0 _ f.1, subst (λ (v : View). c.args.quark.0 < v.attributes) c.view_of-v.ensures c.if-v-quark.false, f.2)

pub returns : goal.returns
returns c = single_view _ _ _ _ _ _ (sym c.admit.ensures ∙ c.in_ok-admit.was) _ c.view_of-v.ensures c.if-v-quark.false _ c.asked.ensures (ap not c.if-not-asked.false) c.admitted.ensures
