-- The child that a step goes on to, on the bytes of a model's nodes, is the model's. Assumes nothing.
use Rattle.std.specs.Prelude.{Option, Some, None}
use Prim.Native.Nat.{ℕ, suc, ◌+◌, ◌*◌, ◌≤◌}
use mathlib.Core.Bool.{Bool, true, false, cond}
use mathlib.Core.Path.{◌≡◌, refl, sym, ap, subst, ◌∙◌}
use mathlib.Core.List.{List, [], ◌∷◌, Memᴰ}
use mathlib.Core.Option.{Option as OptionM, none, some}
use native.Mathlib.Omega.{arith}
use lib.Dec.{leb}
use lib.ListN.{length, get_or}
use borrow.Author.Tests.{eq-eqb, lt-ltb, le-leb}
use Rattle.layout.specs.declared.Header.{Header}
use Rattle.layout.specs.Layout.{child_size, node_size, child_at, entry_at, read_header, read_child}
use Rattle.walk.specs.declared.View.{View}
use Rattle.walk.specs.Standing.{Walk}
use Rattle.walk.specs.Rules as Q
use Rattle.walk.specs.Rules.{r5}
use Rattle.walk.specs.Walk as W
use Rattle.walk.specs.Walk.{ended, counted, all_sound, pick, child, down_to, descend, inside, enter, step}
use Rattle.model.specs.Nodes.{∞, Node, blank}
use Rattle.model.specs.Questions.{holds, or_else, last_at, onward, chase}
use Rattle.model.specs.Rules.{Child, Sits}
use Rattle.represents.specs.Represents.{shape_of, header_of, child_of}
use Rattle.represents.specs.Readable.{Readable}
use Rattle.represents.proofs.Holding.{ChildrenAt, NodeAt, at, known_at}
use Rattle.represents.proofs.Passing.{holds_same, held_passes, Due, passes}

-- ---- "the last child entry with start at or below t"

none_picked : (l : List ℕ) (t p i : ℕ) (k : Option ℕ) (cs : List (ℕ × ℕ)) → ChildrenAt l p cs → last_at t cs ≡ none → pick l t p i (length cs) k ≡ k
unfolding pick
none_picked l t p i k [] h e = refl
none_picked l t p i k (c ∷ cs) h e = go (last_at t cs) (leb c.1 t) refl refl e (none_picked l t (p + child_size) (i + 1) k cs h.1)
  where
    go : (o : OptionM ℕ) (b : Bool) → last_at t cs ≡ o → leb c.1 t ≡ b → or_else o (cond b (some c.0) none) ≡ none
        → (last_at t cs ≡ none → pick l t (p + child_size) (i + 1) (length cs) k ≡ k)
        → pick l t (p + child_size) (i + 1) (length cs) (cond (leb (read_child l p).start t) (Some i) k) ≡ k
    go (some a) b f g e ih = let z : ◌≡◌ {A = ℕ} 0 1 = cc e in absurd (omega arith)
    go none true f g e ih = let z : ◌≡◌ {A = ℕ} 0 1 = cc e in absurd (omega arith)
    go none false f g e ih = rw (ap (λ z. z.start) h.0, g) (ih f)

-- the j-th, counted from i, of the entries from byte p on, which are cs, has the place c
pub record Picked (l : List ℕ) (p i c : ℕ) (cs : List (ℕ × ℕ)) (k : Option ℕ) : Type 0 where
  pub number : ℕ
  pub start : ℕ
  pub picked : k ≡ Some (i + number)
  pub among : Memᴰ (c, start) cs
  pub read : read_child l (p + child_size * number) ≡ child_of (c, start)

one_picked : (l : List ℕ) (t p i : ℕ) (k : Option ℕ) (c : ℕ) (cs : List (ℕ × ℕ)) → ChildrenAt l p cs → last_at t cs ≡ some c → Picked l p i c cs (pick l t p i (length cs) k)
unfolding pick
one_picked l t p i k c [] h e = let z : ◌≡◌ {A = ℕ} 0 1 = cc e in absurd (omega arith)
one_picked l t p i k c (x ∷ cs) h e = go (last_at t cs) (leb x.1 t) refl refl e (λ j. one_picked l t (p + child_size) (i + 1) j c cs h.1)
  where
    go : (o : OptionM ℕ) (b : Bool) → last_at t cs ≡ o → leb x.1 t ≡ b → or_else o (cond b (some x.0) none) ≡ some c
        → ((j : Option ℕ) → last_at t cs ≡ some c → Picked l (p + child_size) (i + 1) c cs (pick l t (p + child_size) (i + 1) (length cs) j))
        → Picked l p i c (x ∷ cs) (pick l t (p + child_size) (i + 1) (length cs) (cond (leb (read_child l p).start t) (Some i) k))
    go (some a) b f g e ih =
        let r = ih (cond (leb (read_child l p).start t) (Some i) k) (f ∙ e) in
        record {
          number = suc r.number;
          start = r.start;
          picked = r.picked ∙ ap (λ (x : ℕ). Some x) (omega arith);
          among = Memᴰ.tail r.among;
          read = ap (read_child l) (omega arith) ∙ r.read;
        }
    go none true f g e ih =
        let z : x.0 ≡ c = cc e in
        record {
          number = 0;
          start = x.1;
          picked = rw (ap (λ z. z.start) h.0, g) (none_picked l t (p + child_size) (i + 1) (Some i) cs h.1 f ∙ ap (λ (x : ℕ). Some x) (omega arith));
          among = Memᴰ.head (ap (λ (n : ℕ). (n, x.1)) (sym z));
          read = ap (read_child l) (omega arith) ∙ h.0 ∙ ap (λ (n : ℕ). child_of (n, x.1)) z;
        }
    go none false f g e ih = let z : ◌≡◌ {A = ℕ} 0 1 = cc e in absurd (omega arith)

-- ---- one step

module _ {v : View} {l : List ℕ} {ns : List Node} (r : Readable v l ns) (t : ℕ) (early : t ≤ ∞) where
  -- what a step at the node m comes to, where the model goes on with the nodes ms: it ends, or it is due at the child c
  pub data Steps (n : ℕ) (w : Walk) (ms : List Node) : Walk → Type 0 where
    ends : ms ≡ [] → Steps n w ms (ended (counted w) None w.place)
    goes : (u : Walk) → suc (get_or ns u.place.0 blank).level ≡ n → Due ns (get_or ns u.place.0 blank).level u → u.entered ≡ w.entered + 1
        → ms ≡ chase n t ns u.place.0 → Steps n w ms u

  module _ (n : ℕ) (w : Walk) (d : Due ns n w) where
    abbrev m : Node
    m = get_or ns w.place.0 blank

    abbrev P : ℕ
    P = w.place.0 * node_size v.shape

    m_at : NodeAt v.shape l P m
    m_at = at r w.place.0 d.place

    m_sits : Sits (shape_of v.shape) ns m
    m_sits = (r.sits w.place.0 d.place).1

    child_steps : (c a : ℕ) → Child ns m c a
        → Steps n w (cond (holds t (get_or ns c blank)) (chase n t ns c) []) (child l v t m.end (child_of (c, a)) (counted w))
    unfolding child counted r5 W.onward
    child_steps c a k =
        let e : Q.holds t (read_header l (c * node_size v.shape)) ≡ holds t (get_or ns c blank) = ap (Q.holds t) (at r c k.used).header ∙ holds_same t (get_or ns c blank) early in
        rw (lt-ltb c v.used (omega (arith, k.used, r.used)), e) (go (holds t (get_or ns c blank)))
      where
        fifth : r5 (W.onward (counted w) (child_of (c, a)) m.end) (header_of (get_or ns c blank)) ≡ true
        fifth = rw (eq-eqb (get_or ns c blank).start a k.start, le-leb (get_or ns c blank).end m.end k.end)

        go : (b : Bool) → Steps n w (cond b (chase n t ns c) []) (cond b (W.onward (counted w) (child_of (c, a)) m.end) (ended (counted w) None w.place))
        go true = goes (W.onward (counted w) (child_of (c, a)) m.end) (k.level ∙ d.level) (record { go = refl; place = k.used; level = refl; fifth = fifth }) refl refl
        go false = ends refl

    descend_steps : Steps n w (onward t ns (chase n t ns) (last_at t m.children)) (descend l v t (header_of m) P w)
    unfolding descend down_to child_at counted
    descend_steps = go (last_at t m.children) refl
      where
        go : (o : OptionM ℕ) → last_at t m.children ≡ o → Steps n w (onward t ns (chase n t ns) o) (descend l v t (header_of m) P w)
        go none e = rw (none_picked l t (P + child_at 0) 0 None m.children m_at.children e) (ends refl)
        go (some c) e =
            let p = one_picked l t (P + child_at 0) 0 None c m.children m_at.children e in
            let k : pick l t (P + child_at 0) 0 (length m.children) None ≡ Some p.number = p.picked ∙ ap (λ (x : ℕ). Some x) (omega arith) in
            let f : read_child l (P + child_at p.number) ≡ child_of (c, p.start) = ap (read_child l) (omega arith) ∙ p.read in
            rw (k, f) (child_steps c p.start (m_sits.each c p.start p.among))

    pub steps : Steps n w (onward t ns (chase n t ns) (last_at t m.children)) (step l v t n w)
    unfolding step enter inside
    steps =
        let s : all_sound l v.attributes (header_of m) (P + entry_at v.shape 0) (length m.held) true ≡ true =
        held_passes l v.attributes (header_of m) (P + entry_at v.shape 0) m.held m_at.held (known_at v.attributes ns w.place.0 d.place r.known) m_sits.inside
        in
        subst (λ (h : Header). Steps n w (onward t ns (chase n t ns) (last_at t m.children)) (enter l v t n h P w)) (sym m_at.header) (rw (passes r n w d, s) descend_steps)
