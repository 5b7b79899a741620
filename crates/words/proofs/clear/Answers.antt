use Rattle.std.proofs.Common.{◌-◌, ◌∙◌, ℕ, arith, ap, replicate}
use Rattle.std.proofs.lemmas.List.{length-replicate}
use Rattle.words.proofs.Stores.{length_mid, sets_whole}
use Rattle.words.proofs.clear.Goals as goal

pub returns : goal.returns
returns c =
    let a = c.args in
    let k = a.to - a.from in
    sets_whole a.from k a.b.now _ (replicate k 0)
    (c.fill.ensures.after (λ _ e. e) ∙ ap (λ (n : ℕ). replicate n 0) (length_mid a.from k a.b.now (omega arith)))
    (length-replicate k 0)
    (omega arith)
