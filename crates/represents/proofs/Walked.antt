-- The walk on the bytes of a model's nodes is the model's walk by places: it breaks no rule, enters as many nodes, and finds what is in them. Assumes nothing.
use Rattle.std.specs.Prelude.{None}
use Prim.Native.Nat.{ℕ, zero, suc, ◌+◌, ◌*◌, ◌^◌, ◌≤◌}
use mathlib.Core.Bool.{Bool, true, false, cond, ◌&&◌}
use mathlib.Core.Path.{◌≡◌, refl, sym, ap, subst, ◌∙◌}
use mathlib.Core.List.{List, [], ◌∷◌, ◌++◌, append-nil, append_assoc}
use native.Mathlib.Omega.{arith}
use native.Mathlib.Nat.{zero-add}
use native.Mathlib.Numerals.{add-one}
use lib.Dec.{eqb}
use lib.ListN.{length, get_or}
use borrow.Author.Tests.{eq-eqb, ne_eqb}
use Rattle.layout.specs.declared.Shape.{Shape}
use Rattle.layout.specs.declared.Header.{Header}
use Rattle.layout.specs.Layout.{entry_size, node_size, entry_at, read_entry}
use Rattle.record.proofs.Room.{node_inside}
use Rattle.walk.specs.declared.View.{View}
use Rattle.walk.specs.Standing.{Walk}
use Rattle.walk.specs.Rules as Q
use Rattle.walk.specs.Rules.{r5}
use Rattle.walk.specs.Walk as W
use Rattle.walk.specs.Walk.{root_of, ended, counted, step, walk_of}
use Rattle.questions.specs.Found.{many, more, noted, look, look_in, look_at, found, found_of}
use Rattle.model.specs.Transient.{Interval}
use Rattle.model.specs.Nodes.{∞, Node, blank, intervals}
use Rattle.model.specs.Questions.{only, covers, last_at, onward, chase}
use Rattle.model.proofs.Lists.{only_append}
use Rattle.represents.specs.Represents.{entry_of}
use Rattle.represents.specs.Readable.{Readable}
use Rattle.represents.proofs.Holding.{HeldAt, at}
use Rattle.represents.proofs.Passing.{Due, passes}
use Rattle.represents.proofs.Taken.{Steps, ends, goes, steps}

-- ---- what is found

-- what the number s says of the intervals xs: nothing, where in the first 2^32 bytes the one entry stands, or many
abbrev pub Found : List ℕ → ℕ → List Interval → Type 0
Found l s [] = s ≡ 0
Found l s (x ∷ []) = (p : ℕ) × (s ≡ p + 1) × (p + entry_size ≤ 2 ^ 32) × (read_entry l p ≡ entry_of x)
Found l s (x ∷ y ∷ ys) = s ≡ many

more_found : (l : List ℕ) (s p : ℕ) (x : Interval) (ys : List Interval) → p + entry_size ≤ 2 ^ 32 → read_entry l p ≡ entry_of x → Found l s ys
    → Found l (more s p) (ys ++ x ∷ [])
unfolding more
more_found l s p x [] i e f = (p, rw (eq-eqb s 0 f), i, e)
more_found l s p x (y ∷ []) i e f = rw (ne_eqb s 0 (λ z. omega (arith, f.1)))
more_found l s p x (y ∷ z ∷ ys) i e f = rw (ne_eqb s 0 (λ z. omega arith))

look_found : (l : List ℕ) (q t p s : ℕ) (xs ys : List Interval) → p + entry_size * length xs ≤ 2 ^ 32 → HeldAt l p xs → Found l s ys
    → Found l (look l q t p (length xs) s) (ys ++ only (covers q t) xs)
unfolding look noted Q.covers
look_found l q t p s [] ys i h f = subst (λ (z : List Interval). Found l s z) (sym (append-nil ys)) f
look_found l q t p s (x ∷ xs) ys i h f =
    subst (λ (b : Bool). Found l (look l q t (p + entry_size) (length xs) (cond b (more s p) s)) (ys ++ only (covers q t) (x ∷ xs))) (sym same)
    (go (covers q t x)
    (look_found l q t (p + entry_size) (more s p) xs (ys ++ x ∷ []) (omega arith) h.1 (more_found l s p x ys (omega arith) h.0 f))
    (look_found l q t (p + entry_size) s xs ys (omega arith) h.1 f))
  where
    same : (eqb (read_entry l p).quark.0 q && Q.covers t (read_entry l p)) ≡ covers q t x
    same = ap (λ e. eqb e.quark.0 q && Q.covers t e) h.0

    go : (b : Bool) → Found l (look l q t (p + entry_size) (length xs) (more s p)) ((ys ++ x ∷ []) ++ only (covers q t) xs)
        → Found l (look l q t (p + entry_size) (length xs) s) (ys ++ only (covers q t) xs)
        → Found l (look l q t (p + entry_size) (length xs) (cond b (more s p) s)) (ys ++ cond b (x ∷ only (covers q t) xs) (only (covers q t) xs))
    go true u w = subst (λ (z : List Interval). Found l (look l q t (p + entry_size) (length xs) (more s p)) z) (append_assoc ys (x ∷ []) (only (covers q t) xs)) u
    go false u w = w

-- ---- a walk that has ended, and one that goes on

walk_ended : (l : List ℕ) (v : View) (t n : ℕ) (w : Walk) → w.go ≡ false → W.walk l v t n w ≡ w
unfolding W.walk
walk_ended l v t zero w e = refl
walk_ended l v t (suc n) w e = rw e

found_ended : (l : List ℕ) (v : View) (q t n : ℕ) (w : Walk) (s : ℕ) → w.go ≡ false → found l v q t n w s ≡ s
unfolding found
found_ended l v q t zero w s e = refl
found_ended l v q t (suc n) w s e = rw e

walk_goes : (l : List ℕ) (v : View) (t n : ℕ) (w : Walk) → w.go ≡ true → W.walk l v t (suc n) w ≡ W.walk l v t n (step l v t n w)
unfolding W.walk
walk_goes l v t n w e = ap (λ (b : Bool). cond b (W.walk l v t n (step l v t n w)) w) e

found_goes : (l : List ℕ) (v : View) (q t n : ℕ) (w : Walk) (s : ℕ) → w.go ≡ true → found l v q t (suc n) w s ≡ found l v q t n (step l v t n w) (look_at l v q t n w s)
unfolding found
found_goes l v q t n w s e = ap (λ (b : Bool). cond b (found l v q t n (step l v t n w) (look_at l v q t n w s)) s) e

-- ---- the walk

-- what the walk from w on comes to, where the model enters the nodes ms
pub record Walked (l : List ℕ) (v : View) (t n : ℕ) (w : Walk) (ms : List Node) : Type 0 where
  pub rule : (W.walk l v t n w).rule ≡ None
  pub entered : (W.walk l v t n w).entered ≡ w.entered + length ms
  pub finds : (q s : ℕ) (ys : List Interval) → Found l s ys → Found l (found l v q t n w s) (ys ++ only (covers q t) (intervals ms))

ended_walked : (l : List ℕ) (v : View) (t n : ℕ) (w : Walk) → Walked l v t n (ended w None w.place) []
unfolding ended
ended_walked l v t n w =
    let u = ended w None w.place in
    let e = walk_ended l v t n u refl in
    record {
      rule = ap (λ z. z.rule) e;
      entered = ap (λ z. z.entered) e ∙ omega arith;
      finds = λ q s ys f.
          subst (λ (k : ℕ). Found l k (ys ++ [])) (sym (found_ended l v q t n u s refl)) (subst (λ (z : List Interval). Found l s z) (sym (append-nil ys)) f);
    }

node_parts : (s : Shape) → node_size s ≡ 32 + 12 * s.c + 32 * s.k
unfolding node_size
node_parts s = refl

module _ {v : View} {l : List ℕ} {ns : List Node} (r : Readable v l ns) (t : ℕ) (early : t ≤ ∞) where
  -- the node that is due is looked at
  looked : (q n s : ℕ) (w : Walk) (ys : List Interval) → Due ns n w → Found l s ys
      → Found l (look_at l v q t n w s) (ys ++ only (covers q t) (get_or ns w.place.0 blank).held)
  unfolding look_at look_in entry_at
  looked q n s w ys d f =
      let m = get_or ns w.place.0 blank in
      let P = w.place.0 * node_size v.shape in
      let a = at r w.place.0 d.place in
      let room : P + entry_at v.shape 0 + entry_size * length m.held ≤ 2 ^ 32 =
      omega (arith, node_inside w.place.0 (length ns) (node_size v.shape) d.place, node_parts v.shape, r.small, (r.sits w.place.0 d.place).1.intervals)
      in
      subst (λ (h : Header). Found l (look_in l v q t n h P w s) (ys ++ only (covers q t) m.held)) (sym a.header)
      (rw (passes r n w d) (look_found l q t (P + entry_at v.shape 0) s m.held ys room a.held f))

  one_more : (q : ℕ) (ys : List Interval) (m : Node) (ms : List Node)
      → (ys ++ only (covers q t) m.held) ++ only (covers q t) (intervals ms) ≡ ys ++ only (covers q t) (intervals (m ∷ ms))
  one_more q ys m ms = append_assoc ys (only (covers q t) m.held) _ ∙ ap (λ (z : List Interval). ys ++ z) (sym (only_append (covers q t) m.held (intervals ms)))

  -- after a step
  after : (n : ℕ) (w u : Walk) (ms : List Node) → ((u : Walk) → Due ns (get_or ns u.place.0 blank).level u → suc (get_or ns u.place.0 blank).level ≡ n → Walked l v t n u (chase n t ns u.place.0))
      → Steps r t early n w ms u → Walked l v t n u ms × (u.entered ≡ w.entered + 1)
  unfolding ended counted
  after n w u ms ih (ends e) = (subst (λ (z : List Node). Walked l v t n (ended (counted w) None w.place) z) (sym e) (ended_walked l v t n (counted w)), refl)
  after n w u ms ih (goes _ level d count e) = (subst (λ (z : List Node). Walked l v t n u z) (sym e) (ih u d level), count)

  node_walked : (n : ℕ) (w : Walk) (ms : List Node) → Due ns n w → Walked l v t n (step l v t n w) ms × ((step l v t n w).entered ≡ w.entered + 1)
      → Walked l v t (suc n) w (get_or ns w.place.0 blank ∷ ms)
  node_walked n w ms d a = let m = get_or ns w.place.0 blank in let g = walk_goes l v t n w d.go in record {
    rule = ap (λ z. z.rule) g ∙ a.0.rule;
    entered = ap (λ z. z.entered) g ∙ (a.0.entered ∙ omega (arith, a.1));
    finds = λ q s ys h.
        let k = look_at l v q t n w s in
        subst (λ (x : ℕ). Found l x (ys ++ only (covers q t) (intervals (m ∷ ms)))) (sym (found_goes l v q t n w s d.go))
        (subst (λ (z : List Interval). Found l (found l v q t n (step l v t n w) k) z) (one_more q ys m ms)
        (a.0.finds q k (ys ++ only (covers q t) m.held) (looked q n s w ys d h)));
  }

  walked_from : (n : ℕ) (w : Walk) → Due ns (get_or ns w.place.0 blank).level w → suc (get_or ns w.place.0 blank).level ≡ n
      → Walked l v t n w (chase n t ns w.place.0)
  walked_from zero w d e = absurd (omega arith)
  walked_from (suc n) w d e =
      let x : Due ns n w = subst (λ (k : ℕ). Due ns k w) (omega arith) d in
      let ms = onward t ns (chase n t ns) (last_at t (get_or ns w.place.0 blank).children) in
      node_walked n w ms x (after n w (step l v t n w) ms (λ u a b. walked_from n u a b) (steps r t early n w x))

  -- ---- from the root

  walked : Walked l v t (suc v.level) (root_of v) (chase (suc v.level) t ns v.root.0)
  unfolding root_of r5
  walked = walked_from (suc v.level) (root_of v) (record { go = refl; place = r.root; level = refl; fifth = refl }) (ap suc r.level)

  pub breaks_none : (walk_of l v t).rule ≡ None
  unfolding walk_of
  breaks_none = rw (add-one) walked.rule

  pub enters : (walk_of l v t).entered ≡ length (chase (suc v.level) t ns v.root.0)
  unfolding walk_of root_of
  enters = rw (add-one) (walked.entered ∙ zero-add _)

  pub finds : (q : ℕ) → Found l (found_of l v q t) (only (covers q t) (intervals (chase (suc v.level) t ns v.root.0)))
  unfolding found_of
  finds q = rw (add-one) (walked.finds q 0 [] refl)
