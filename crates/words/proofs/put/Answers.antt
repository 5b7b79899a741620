use Rattle.std.proofs.Common.{◌+◌, ◌-◌, ℕ, sym, ◌∙◌, arith}
use borrow.Rule.Slice.PartMut.{mid_of}
use Rattle.words.specs.Words.{le}
use Rattle.words.proofs.Stores.{length_mid, sets_whole}
use Rattle.words.proofs.Numbers.{length_le, put_none, put_step, put_done}
use Rattle.words.proofs.put.Goals as goal

pub loop-byte-init : goal.loop-byte-init
loop-byte-init c =
    let a = c.args in
    let k : ℕ = a.at + a.n - a.at in
    put_none (mid_of a.at k a.b.now) a.n a.v (omega (arith, length_mid a.at k a.b.now (omega arith)))

pub loop-byte-preserved : goal.loop-byte-preserved
loop-byte-preserved c =
    let a = c.args in
    sym (put_step c.loop-byte.byte-items _ _ _ (omega (arith, length_mid a.at (a.at + a.n - a.at) a.b.now (omega arith)))) ∙ c.loop-byte.invariant

pub returns : goal.returns
returns c =
    let a = c.args in
    let k : ℕ = a.at + a.n - a.at in
    sets_whole a.at k a.b.now _ (le a.n a.v)
    (sym (put_done c.loop-byte.byte-items _ _ _ (omega (arith, length_mid a.at k a.b.now (omega arith)))) ∙ c.loop-byte.invariant)
    (omega (arith, length_le a.n a.v))
    (omega arith)
