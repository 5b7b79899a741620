-- R1 to R6 on the bytes of a model's nodes: no test that a question makes of a node fails. Assumes nothing.
use Rattle.std.specs.Prelude.{None}
use Prim.Native.Nat.{ℕ, ◌+◌, ◌≤◌, ◌<◌}
use mathlib.Core.Bool.{Bool, true, false, cond, not, ◌&&◌, ◌||◌}
use mathlib.Core.Path.{◌≡◌, refl, ap, ◌∙◌}
use mathlib.Core.List.{List, [], ◌∷◌}
use native.Mathlib.Omega.{arith}
use lib.Dec.{leb, eqb}
use lib.ListN.{length, get_or}
use borrow.Author.Tests.{eqb-true, eq-eqb, lt-ltb, le-leb}
use Rattle.layout.specs.declared.Header.{Header}
use Rattle.layout.specs.Layout.{entry_size, read_entry}
use Rattle.transient.specs.Transient.{state_sound}
use Rattle.walk.specs.declared.View.{View}
use Rattle.walk.specs.Standing.{Walk}
use Rattle.walk.specs.Rules as Q
use Rattle.walk.specs.Rules.{r1, r2, r3, r4, r5, broken, entry_sound}
use Rattle.walk.specs.Walk.{all_sound}
use Rattle.model.specs.State.{State, null, int, kind_of, value_of}
use Rattle.model.specs.Transient.{Interval}
use Rattle.model.specs.Nodes.{∞, Node, blank}
use Rattle.model.specs.Questions.{holds}
use Rattle.model.specs.Invariant.{Inside}
use Rattle.model.specs.Rules.{Sits, Known}
use Rattle.represents.specs.Represents.{shape_of, header_of, entry_of}
use Rattle.represents.specs.Readable.{Readable}
use Rattle.represents.proofs.Holding.{HeldAt}

-- "An open node holds every t from its start": its end is 2^64-1, which no time passes
pub holds_same : (t : ℕ) (m : Node) → t ≤ ∞ → Q.holds t (header_of m) ≡ holds t m
unfolding Q.holds
holds_same t m h = go (eqb m.end ∞) refl
  where
    go : (b : Bool) → eqb m.end ∞ ≡ b → (leb m.start t && (eqb (cond b 1 2) 1 || leb t m.end)) ≡ (leb m.start t && leb t m.end)
    go true e = let k = eqb-true m.end ∞ e in rw (le-leb t m.end (omega arith))
    go false e = refl

-- ---- R6

pub state_passes : (s : State) → state_sound (kind_of s) (value_of s) ≡ true
unfolding state_sound
state_passes null = refl
state_passes (int z) = refl

entry_passes : (n : ℕ) (h : Header) (x : Interval) → x.quark < n → h.start ≤ x.start → x.start ≤ x.end → x.end ≤ h.end → entry_sound n h (entry_of x) ≡ true
unfolding entry_sound
entry_passes n h x a b c d =
    rw (lt-ltb x.quark n a, state_passes x.state, le-leb x.start x.end c, le-leb h.start x.start b, le-leb x.end h.end d)

pub held_passes : (l : List ℕ) (n : ℕ) (h : Header) (p : ℕ) (xs : List Interval) → HeldAt l p xs → Known n xs → Inside h.start h.end xs → all_sound l n h p (length xs) true ≡ true
unfolding all_sound
held_passes l n h p [] at k i = refl
held_passes l n h p (x ∷ xs) at k i =
    let e : entry_sound n h (read_entry l p) ≡ true = ap (entry_sound n h) at.0 ∙ entry_passes n h x k.0 i.0 i.1 i.2 in
    ap (λ (b : Bool). all_sound l n h (p + entry_size) (length xs) b) e ∙ held_passes l n h (p + entry_size) xs at.1 k.1 i.3

-- ---- R1 to R5

-- the walk stands before a node that is due at level n, and what the node's parent says of it (R5) is so
pub record Due (ns : List Node) (n : ℕ) (w : Walk) : Type 0 where
  pub go : w.go ≡ true
  pub place : w.place.0 < length ns
  pub level : (get_or ns w.place.0 blank).level ≡ n
  pub fifth : r5 w (header_of (get_or ns w.place.0 blank)) ≡ true

third : (m : Node) → m.start ≤ m.end → r3 (header_of m) ≡ true
unfolding r3
third m h = rw (le-leb m.start m.end h) (go (eqb m.end ∞))
  where
    go : (b : Bool) → (true && (eqb (cond b 1 2) 1 || eqb (cond b 1 2) 2)) ≡ true
    go true = refl
    go false = refl

fourth : (v : View) (ns : List Node) (m : Node) → Sits (shape_of v.shape) ns m → r4 v (header_of m) ≡ true
unfolding r4
fourth v ns m s = rw (le-leb (length m.held) v.shape.k s.intervals, le-leb (length m.children) v.shape.c s.children) (go (eqb m.level 0) refl)
  where
    go : (b : Bool) → eqb m.level 0 ≡ b → (true && true && (not b || eqb (length m.children) 0)) ≡ true
    go true e = rw (s.leaf (eqb-true m.level 0 e))
    go false e = refl

none_broken : (v : View) (w : Walk) (n : ℕ) (h : Header) → r1 v w h ≡ true → r2 n h ≡ true → r3 h ≡ true → r4 v h ≡ true → r5 w h ≡ true → broken v w n h ≡ None
unfolding broken
none_broken v w n h a b c d e = rw (a, b, c, d, e)

pub passes : {v : View} {l : List ℕ} {ns : List Node} (r : Readable v l ns) (n : ℕ) (w : Walk) (d : Due ns n w) → broken v w n (header_of (get_or ns w.place.0 blank)) ≡ None
unfolding r1 r2
passes {v} {l} {ns} r n w d =
    let m = get_or ns w.place.0 blank in
    let s = r.sits w.place.0 d.place in
    let one : r1 v w (header_of m) ≡ true =
    rw (eq-eqb m.seq w.place.0 s.0, lt-ltb m.seq v.used (omega (arith, s.0, r.used, d.place)))
    in
    none_broken v w n (header_of m) one (eq-eqb m.level n d.level) (third m s.1.ordered) (fourth v ns m s.1) d.fifth
