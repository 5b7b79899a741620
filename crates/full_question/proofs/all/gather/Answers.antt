-- The way down is found before the entries are looked at. Assumes nothing.
use Rattle.std.specs.Prelude.{Ok}
use Prim.Native.Nat.{ℕ, ◌+◌, ◌-◌}
use mathlib.Core.Path.{◌≡◌, refl, ap, subst, ◌∙◌}
use mathlib.Core.Bool.{not}
use native.Mathlib.Omega.{arith}
use Rattle.walk.specs.Standing.{due_at}
use Rattle.walk.specs.Walk.{counted, ended}
use Rattle.walk.proofs.Room.{header_room, children_room, entries_room, node_lies}
use Rattle.walk.proofs.Broken.{Fitting, broken_fits, is_kept, is_broken, picked_among}
use Rattle.walk.proofs.Ways.{down_broken, down_ended, down_onto}
use Rattle.walk.proofs.Turns.{reading, walking_bad, walking_past}
use Rattle.full_question.proofs.Gathering.{Gathering, gathering_root, gathered_broken, gathered_all, gathered_stop, gathering_next, gathering_last}
use Rattle.full_question.proofs.all.gather.Goals as goal

pub loop-level-init : goal.loop-level-init
loop-level-init c = let p = c.requires in gathering_root _ _ _ _ _ _ p.0 c.root-due.ensures p.3

pub read_header-h-requires : goal.read_header-h-requires
read_header-h-requires c = omega (arith, c.stands_at-at.ensures.1, c.requires.0.room, header_room c.args.v.shape)

pub overflow_add-at : goal.overflow_add-at
overflow_add-at c =
    let lies = node_lies c.args.v c.args.nodes.now c.requires.0 c.stands_at-at.result c.stands_at-at.ensures.1 in
    omega (arith, c.child_at.ensures, lies.1, children_room c.args.v.shape 0 (omega arith))

pub pick-picked-requires : goal.pick-picked-requires
pick-picked-requires c =
    let fitting : Fitting c.args.v c.read_header-h.result = broken_fits _ _ _ _ _ (c.broken.ensures 0) (is_kept _ _ c.is_some.ensures c.if-is_some.false) in
    let lies = node_lies c.args.v c.args.nodes.now c.requires.0 c.stands_at-at.result c.stands_at-at.ensures.1 in
    (omega (arith, c.requires.0.shaped.fifty, fitting.children), omega (arith, c.child_at.ensures, lies.0, children_room c.args.v.shape _ fitting.children))

pub down_to-requires : goal.down_to-requires
down_to-requires c =
    let fitting : Fitting c.args.v c.read_header-h.result = broken_fits _ _ _ _ _ (c.broken.ensures 0) (is_kept _ _ c.is_some.ensures c.if-is_some.false) in
    let lies = node_lies c.args.v c.args.nodes.now c.requires.0 c.stands_at-at.result c.stands_at-at.ensures.1 in
    (c.requires.0, lies.0, picked_among _ _ _ (rw c.from.ensures at c.pick-picked.ensures.among) fitting.children)

pub overflow_add-first : goal.overflow_add-first
overflow_add-first c =
    let lies = node_lies c.args.v c.args.nodes.now c.requires.0 c.stands_at-at.result c.stands_at-at.ensures.1 in
    omega (arith, c.entry_at.ensures, lies.1, entries_room c.args.v.shape 0 (omega arith))

pub look-requires : goal.look-requires
look-requires c =
    let fitting : Fitting c.args.v c.read_header-h.result = broken_fits _ _ _ _ _ (c.broken.ensures 0) (is_kept _ _ c.is_some.ensures c.if-is_some.false) in
    let lies = node_lies c.args.v c.args.nodes.now c.requires.0 c.stands_at-at.result c.stands_at-at.ensures.1 in
    let inv = c.loop-level.invariant in
    let room = entries_room c.args.v.shape _ fitting.intervals in
    let first = c.entry_at.ensures in
    let same = c.from-in-loop-level.ensures in
    (omega (arith, first, room, lies.0, same), omega (arith, first, room, lies.1, same), omega (arith, inv.long, c.requires.2), inv.ones)

pub returns-then-is_some-clause-told : goal.returns-then-is_some-clause-told
returns-then-is_some-clause-told c =
    let r = reading c.loop-level.invariant.walking c.stands_at-at.ensures.0 c.read_header-h.ensures (c.broken.ensures _) in
    (gathered_broken _ _ _ _ _ c.loop-level.found (walking_bad _ _ _ _ _ _ _ _ r (is_broken _ _ c.is_some.ensures c.if-is_some.true))).told

pub returns-in_default-clause-told : goal.returns-in_default-clause-told
returns-in_default-clause-told c =
    let r = reading c.loop-level.invariant.walking c.stands_at-at.ensures.0 c.read_header-h.ensures (c.broken.ensures _) in
    let well = is_kept _ _ c.is_some.ensures c.if-is_some.false in
    (gathered_broken _ _ _ _ _ c.loop-level.found (walking_past _ _ _ _ _ _ _ _ r well _ refl (down_broken _ _ _ _ _ _ _ _ _ c.child_at.ensures (rw c.from.ensures at c.pick-picked.ensures.picked) c.down_to.ensures _ c.in_default.is))).told

pub returns-then-not-look-clause-told : goal.returns-then-not-look-clause-told
returns-then-not-look-clause-told c =
    let r = reading c.loop-level.invariant.walking c.stands_at-at.ensures.0 c.read_header-h.ensures (c.broken.ensures _) in
    let well = is_kept _ _ c.is_some.ensures c.if-is_some.false in
    let p = c.requires in
    (gathered_stop _ _ _ _ _ p.1 p.2 _ _ _ c.loop-level.invariant _ _ _ r well _ c.entry_at.ensures _ (rw c.from-in-loop-level.ensures at c.look.ensures.told) c.look.new.found (ap not c.if-not-look.true)).told

pub loop-level-preserved : goal.loop-level-preserved
loop-level-preserved c =
    let same : c.loop-level.level ≡ c.loop-level.level - 1 + 1 = omega arith in
    let r = reading c.loop-level.invariant.walking c.stands_at-at.ensures.0 c.read_header-h.ensures (c.broken.ensures _) in
    let well = is_kept _ _ c.is_some.ensures c.if-is_some.false in
    let down = down_onto _ _ _ _ _ _ _ _ _ c.child_at.ensures (rw c.from.ensures at c.pick-picked.ensures.picked) c.down_to.ensures _ (c.in-Ok.is ∙ ap Ok c.in-Some.is) in
    let p = c.requires in
    subst (λ (n : ℕ). Gathering c.args.nodes.now c.args.v c.args.t c.args.attributes c.args.found.now (due_at c.in-Some.below (c.loop-level.entered + 1)) n c.look.new.found) same
    (gathering_next _ _ _ _ _ p.1 p.2 _ _ _ c.loop-level.invariant _ _ _ r well _ c.entry_at.ensures _ (rw c.from-in-loop-level.ensures at c.look.ensures.told) (ap not c.if-not-look.false) _ (rw c.from-in-loop-level.ensures at c.look.ensures.notes) _ down refl refl)

pub returns-in-None : goal.returns-in-None
unfolding counted ended
returns-in-None c =
    let r = reading c.loop-level.invariant.walking c.stands_at-at.ensures.0 c.read_header-h.ensures (c.broken.ensures _) in
    let well = is_kept _ _ c.is_some.ensures c.if-is_some.false in
    let down = down_ended _ _ _ _ _ _ _ _ _ c.child_at.ensures (rw c.from.ensures at c.pick-picked.ensures.picked) c.down_to.ensures (c.in-Ok.is ∙ ap Ok c.in-None.is) in
    let p = c.requires in
    let g = gathered_all _ _ _ _ _ _ _ (gathering_last _ _ _ _ _ p.1 p.2 _ _ _ c.loop-level.invariant _ _ _ r well _ c.entry_at.ensures _ (rw c.from-in-loop-level.ensures at c.look.ensures.told) (ap not c.if-not-look.false) _ (rw c.from-in-loop-level.ensures at c.look.ensures.notes) _ down refl refl) in
    record { told = g.told; gathers = g.gathers }

pub returns-in-Some : goal.returns-in-Some
returns-in-Some c =
    let none : c.loop-level.level ≡ 0 = omega arith in
    let r = reading c.loop-level.invariant.walking c.stands_at-at.ensures.0 c.read_header-h.ensures (c.broken.ensures _) in
    let well = is_kept _ _ c.is_some.ensures c.if-is_some.false in
    let down = down_onto _ _ _ _ _ _ _ _ _ c.child_at.ensures (rw c.from.ensures at c.pick-picked.ensures.picked) c.down_to.ensures _ (c.in-Ok.is ∙ ap Ok c.in-Some.is) in
    let p = c.requires in
    let g = gathered_all _ _ _ _ _ _ _ (subst (λ (n : ℕ). Gathering c.args.nodes.now c.args.v c.args.t c.args.attributes c.args.found.now (due_at c.in-Some.below (c.loop-level.entered + 1)) n c.look.new.found) none
    (gathering_next _ _ _ _ _ p.1 p.2 _ _ _ c.loop-level.invariant _ _ _ r well _ c.entry_at.ensures _ (rw c.from-in-loop-level.ensures at c.look.ensures.told) (ap not c.if-not-look.false) _ (rw c.from-in-loop-level.ensures at c.look.ensures.notes) _ down refl refl)) in
    record { told = g.told; gathers = g.gathers }
