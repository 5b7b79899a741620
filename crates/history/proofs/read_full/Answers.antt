-- What one read more took from the input stands behind what stood in the buffer.
use Rattle.std.proofs.Common.{◌≡◌, ℕ, ◌+◌, ◌-◌, ◌≤◌, List, ◌++◌, rules, length, take, ◌∙◌, sym, ap, subst, length-take-le}
use Rattle.std.proofs.lemmas.List.{take-append-le}
use Rattle.std.proofs.Math.Seq.{take-append-add}
use Rattle.std.specs.Io.KnownBytes.{Consumes}
use Rattle.std.proofs.KnownBytes.{Consumes-trans}
use borrow.Rule.Slice.PartMut.{put_mid, post_of}
use Rattle.history.proofs.read_full.Goals as goal

take_read : (at k n : ℕ) (xs ys : List ℕ) → at ≤ length xs → n ≤ length ys → take (at + n) (put_mid at k xs ys) ≡ take at xs ++ take n ys
take_read at k n xs ys within fits =
    ap (λ m. take (m + n) (put_mid at k xs ys)) (sym (length-take-le at xs within))
    ∙ take-append-add (take at xs) (ys ++ post_of at k xs) n
    ∙ ap (λ t. take at xs ++ t) (take-append-le n ys (post_of at k xs) fits)

pub loop-done-preserved : goal.loop-done-preserved
loop-done-preserved g c =
    let at = c.loop-done.done in
    let joined = take_read at (length c.loop-done.buf - at) c.in_ok-n.n c.loop-done.buf c.read.new.buf c.loop-done.invariant.0 c.in_ok-n.ensures.bound.0 in
    (search rules, subst (Consumes _ _) (sym joined) (Consumes-trans _ _ _ _ _ c.loop-done.invariant.1 c.in_ok-n.ensures.bytes.0))
