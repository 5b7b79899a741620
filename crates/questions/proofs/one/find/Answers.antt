-- The way down is found before the entries are looked at. Assumes nothing.
use Rattle.std.specs.Prelude.{is_some, Ok}
use Prim.Native.Nat.{ℕ, ◌+◌, ◌-◌}
use mathlib.Core.Path.{◌≡◌, refl, sym, ap, subst, ◌∙◌}
use native.Mathlib.Omega.{arith}
use Rattle.walk.specs.Standing.{due_at}
use Rattle.walk.specs.Walk.{counted, ended}
use Rattle.walk.proofs.Room.{header_room, children_room, entries_room, node_lies}
use Rattle.walk.proofs.Broken.{Fitting, broken_fits, is_kept, is_broken, picked_among}
use Rattle.walk.proofs.Ways.{down_broken, down_ended, down_onto}
use Rattle.walk.proofs.Turns.{reading, walking_bad, walking_past, walking_unsound}
use Rattle.questions.proofs.Finding.{Finding, finding_root, finding_ends, finding_next, finding_last}
use Rattle.questions.proofs.one.find.Goals as goal

pub loop-level-init : goal.loop-level-init
loop-level-init c = finding_root _ _ _ _ _ c.requires c.root-due.ensures

pub read_header-h-requires : goal.read_header-h-requires
read_header-h-requires c = omega (arith, c.stands_at-at.ensures.1, c.requires.room, header_room c.args.v.shape)

pub overflow_add-at : goal.overflow_add-at
overflow_add-at c =
    let lies = node_lies c.args.v c.args.nodes.now c.requires c.stands_at-at.result c.stands_at-at.ensures.1 in
    omega (arith, c.child_at.ensures, lies.1, children_room c.args.v.shape 0 (omega arith))

pub pick-picked-requires : goal.pick-picked-requires
pick-picked-requires c =
    let fitting : Fitting c.args.v c.read_header-h.result = broken_fits _ _ _ _ _ (c.broken.ensures 0) (is_kept _ _ c.is_some.ensures c.if-is_some.false) in
    let lies = node_lies c.args.v c.args.nodes.now c.requires c.stands_at-at.result c.stands_at-at.ensures.1 in
    (omega (arith, c.requires.shaped.fifty, fitting.children), omega (arith, c.child_at.ensures, lies.0, children_room c.args.v.shape _ fitting.children))

pub down_to-requires : goal.down_to-requires
down_to-requires c =
    let fitting : Fitting c.args.v c.read_header-h.result = broken_fits _ _ _ _ _ (c.broken.ensures 0) (is_kept _ _ c.is_some.ensures c.if-is_some.false) in
    let lies = node_lies c.args.v c.args.nodes.now c.requires c.stands_at-at.result c.stands_at-at.ensures.1 in
    (c.requires, lies.0, picked_among _ _ _ (rw c.from.ensures at c.pick-picked.ensures.among) fitting.children)

pub overflow_add-first : goal.overflow_add-first
overflow_add-first c =
    let lies = node_lies c.args.v c.args.nodes.now c.requires c.stands_at-at.result c.stands_at-at.ensures.1 in
    omega (arith, c.entry_at.ensures, lies.1, entries_room c.args.v.shape 0 (omega arith))

pub look-requires : goal.look-requires
look-requires c =
    let fitting : Fitting c.args.v c.read_header-h.result = broken_fits _ _ _ _ _ (c.broken.ensures 0) (is_kept _ _ c.is_some.ensures c.if-is_some.false) in
    let lies = node_lies c.args.v c.args.nodes.now c.requires c.stands_at-at.result c.stands_at-at.ensures.1 in
    let room = entries_room c.args.v.shape _ fitting.intervals in
    let first = c.entry_at.ensures in
    let same = c.from-in-loop-level.ensures in
    (omega (arith, first, room, lies.0, same), omega (arith, first, room, lies.1, same), fitting.bounds)

pub returns-then-is_some-clause-kept : goal.returns-then-is_some-clause-kept
returns-then-is_some-clause-kept c =
    let r = reading c.loop-level.invariant.walking c.stands_at-at.ensures.0 c.read_header-h.ensures (c.broken.ensures _) in
    sym (walking_bad _ _ _ _ _ _ _ _ r (is_broken _ _ c.is_some.ensures c.if-is_some.true))

pub returns-in_default-clause-kept : goal.returns-in_default-clause-kept
returns-in_default-clause-kept c =
    let r = reading c.loop-level.invariant.walking c.stands_at-at.ensures.0 c.read_header-h.ensures (c.broken.ensures _) in
    let well = is_kept _ _ c.is_some.ensures c.if-is_some.false in
    sym (walking_past _ _ _ _ _ _ _ _ r well _ refl (down_broken _ _ _ _ _ _ _ _ _ c.child_at.ensures (rw c.from.ensures at c.pick-picked.ensures.picked) c.down_to.ensures _ c.in_default.is))

pub returns-in_err-s-clause-kept : goal.returns-in_err-s-clause-kept
returns-in_err-s-clause-kept c =
    let r = reading c.loop-level.invariant.walking c.stands_at-at.ensures.0 c.read_header-h.ensures (c.broken.ensures _) in
    let well = is_kept _ _ c.is_some.ensures c.if-is_some.false in
    ap is_some c.from_residual.ensures ∙ sym (walking_unsound _ _ _ _ _ _ _ _ r well _ _ c.entry_at.ensures (rw c.from-in-loop-level.ensures at c.in_err-s.ensures.sound) refl)

pub loop-level-preserved : goal.loop-level-preserved
loop-level-preserved c =
    let same : c.loop-level.level ≡ c.loop-level.level - 1 + 1 = omega arith in
    let r = reading c.loop-level.invariant.walking c.stands_at-at.ensures.0 c.read_header-h.ensures (c.broken.ensures _) in
    let well = is_kept _ _ c.is_some.ensures c.if-is_some.false in
    let down = down_onto _ _ _ _ _ _ _ _ _ c.child_at.ensures (rw c.from.ensures at c.pick-picked.ensures.picked) c.down_to.ensures _ (c.in-Ok.is ∙ ap Ok c.in-Some.is) in
    subst (λ (n : ℕ). Finding c.args.nodes.now c.args.v c.args.quark.0 c.args.t (due_at c.in-Some.below (c.loop-level.entered + 1)) n c.in_ok-s.s) same
    (finding_next _ _ _ _ _ _ _ c.loop-level.invariant _ _ _ r well _ c.entry_at.ensures (rw c.from-in-loop-level.ensures at c.in_ok-s.ensures.sound) _ (rw c.from-in-loop-level.ensures at c.in_ok-s.ensures.finds) _ down refl refl)

pub returns-in-None-clause-kept : goal.returns-in-None-clause-kept
unfolding counted ended
returns-in-None-clause-kept c =
    let r = reading c.loop-level.invariant.walking c.stands_at-at.ensures.0 c.read_header-h.ensures (c.broken.ensures _) in
    let well = is_kept _ _ c.is_some.ensures c.if-is_some.false in
    let down = down_ended _ _ _ _ _ _ _ _ _ c.child_at.ensures (rw c.from.ensures at c.pick-picked.ensures.picked) c.down_to.ensures (c.in-Ok.is ∙ ap Ok c.in-None.is) in
    (finding_ends _ _ _ _ _ _ (finding_last _ _ _ _ _ _ _ c.loop-level.invariant _ _ _ r well _ c.entry_at.ensures (rw c.from-in-loop-level.ensures at c.in_ok-s.ensures.sound) _ (rw c.from-in-loop-level.ensures at c.in_ok-s.ensures.finds) _ down refl refl)).kept

pub returns-in-None-clause-finds : goal.returns-in-None-clause-finds
unfolding counted ended
returns-in-None-clause-finds c =
    let r = reading c.loop-level.invariant.walking c.stands_at-at.ensures.0 c.read_header-h.ensures (c.broken.ensures _) in
    let well = is_kept _ _ c.is_some.ensures c.if-is_some.false in
    let down = down_ended _ _ _ _ _ _ _ _ _ c.child_at.ensures (rw c.from.ensures at c.pick-picked.ensures.picked) c.down_to.ensures (c.in-Ok.is ∙ ap Ok c.in-None.is) in
    (finding_ends _ _ _ _ _ _ (finding_last _ _ _ _ _ _ _ c.loop-level.invariant _ _ _ r well _ c.entry_at.ensures (rw c.from-in-loop-level.ensures at c.in_ok-s.ensures.sound) _ (rw c.from-in-loop-level.ensures at c.in_ok-s.ensures.finds) _ down refl refl)).finds

pub returns-in-Some-clause-kept : goal.returns-in-Some-clause-kept
returns-in-Some-clause-kept c =
    let none : c.loop-level.level ≡ 0 = omega arith in
    let r = reading c.loop-level.invariant.walking c.stands_at-at.ensures.0 c.read_header-h.ensures (c.broken.ensures _) in
    let well = is_kept _ _ c.is_some.ensures c.if-is_some.false in
    let down = down_onto _ _ _ _ _ _ _ _ _ c.child_at.ensures (rw c.from.ensures at c.pick-picked.ensures.picked) c.down_to.ensures _ (c.in-Ok.is ∙ ap Ok c.in-Some.is) in
    (finding_ends _ _ _ _ _ _ (subst (λ (n : ℕ). Finding c.args.nodes.now c.args.v c.args.quark.0 c.args.t (due_at c.in-Some.below (c.loop-level.entered + 1)) n c.in_ok-s.s) none (finding_next _ _ _ _ _ _ _ c.loop-level.invariant _ _ _ r well _ c.entry_at.ensures (rw c.from-in-loop-level.ensures at c.in_ok-s.ensures.sound) _ (rw c.from-in-loop-level.ensures at c.in_ok-s.ensures.finds) _ down refl refl))).kept

pub returns-in-Some-clause-finds : goal.returns-in-Some-clause-finds
returns-in-Some-clause-finds c =
    let none : c.loop-level.level ≡ 0 = omega arith in
    let r = reading c.loop-level.invariant.walking c.stands_at-at.ensures.0 c.read_header-h.ensures (c.broken.ensures _) in
    let well = is_kept _ _ c.is_some.ensures c.if-is_some.false in
    let down = down_onto _ _ _ _ _ _ _ _ _ c.child_at.ensures (rw c.from.ensures at c.pick-picked.ensures.picked) c.down_to.ensures _ (c.in-Ok.is ∙ ap Ok c.in-Some.is) in
    (finding_ends _ _ _ _ _ _ (subst (λ (n : ℕ). Finding c.args.nodes.now c.args.v c.args.quark.0 c.args.t (due_at c.in-Some.below (c.loop-level.entered + 1)) n c.in_ok-s.s) none (finding_next _ _ _ _ _ _ _ c.loop-level.invariant _ _ _ r well _ c.entry_at.ensures (rw c.from-in-loop-level.ensures at c.in_ok-s.ensures.sound) _ (rw c.from-in-loop-level.ensures at c.in_ok-s.ensures.finds) _ down refl refl))).finds
