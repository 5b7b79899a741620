-- The loops and exits of carrying out a plan: what is left to do, done to the present record and nodes, is the whole. Assumes nothing.
use Prim.Native.Nat.{ℕ, suc, ◌+◌, ◌-◌, ◌≤◌, ◌<◌}
use mathlib.Core.Path.{◌≡◌, refl, sym, ap, subst, ◌∙◌}
use mathlib.Core.Bool.{true, false}
use mathlib.Core.List.{List}
use native.Mathlib.Nat.{sub-zero}
use native.Mathlib.Omega.{arith}
use lib.ListN.{length}
use borrow.Author.Tests.{lt-ltb, le-ltb}
use Rattle.layout.specs.declared.Entry.{Entry}
use Rattle.record.specs.declared.History.{History}
use Rattle.record.specs.Levels.{intervals_at, children_at, last_end_at}
use Rattle.record.specs.Sound.{last_time}
use Rattle.record.specs.Firm.{Firm}
use Rattle.record.specs.Moves.{with_largest, stretched}
use Rattle.settle.specs.declared.Plan.{Plan}
use Rattle.build.specs.Feasible.{Feasible}
use Rattle.build.specs.Moves.{Held, held, Room, Standing, put_head, close, raise, make, store}
use Rattle.build.specs.Write.{rise, climb, descend, stretch, chained, placed, written, close_all}
use Rattle.build.specs.Trial.{climb_on, descend_on}
use Rattle.build.specs.Carried.{Climbing, Descending, Hanging, Landed}
use Rattle.build.proofs.Climbs.{climb_one, rise_alike, climb_alike, rise_climbing}
use Rattle.build.proofs.Descents.{make_needs, make_alike, descend_alike, make_descending, descend_ends, chain_keeps}
use Rattle.build.proofs.Carried.{landed}
use Rattle.build.proofs.Stands.{open_stands}
use Rattle.build.proofs.Steps.{rise_history, rise_length, climb_history, climb_length, make_history, make_length, descend_history, descend_length, room_kept}

-- what room there is, is left by all that leaves the shape and the buffer's length
abbrev pub Kept : (Held → Type 0) → Type 0
Kept room = (σ τ : Held) → τ.history.shape ≡ σ.history.shape → length τ.nodes ≡ length σ.nodes → room σ → room τ

-- record and nodes by themselves
module _ (h : History) (b : List ℕ) (σ : Held) (e : held h b ≡ σ) where
  pub the_history : h ≡ σ.history
  the_history = ap (λ (τ : Held). τ.history) e

  pub the_length : length b ≡ length σ.nodes
  the_length = ap (λ (τ : Held). length τ.nodes) e

-- ═══ One level up ═══

module _ (h h' : History) (b b' : List ℕ) where
  pub rise_close : h.low < h.top → held h' b' ≡ close (held h b) → held h' b' ≡ rise (held h b)
  unfolding rise
  rise_close lt e = simp (lt-ltb _ _ lt) e

  pub rise_raise : h.top ≤ h.low → held h' b' ≡ raise (held h b) → held h' b' ≡ rise (held h b)
  unfolding rise
  rise_raise le e = simp (le-ltb _ _ le) e

pub raise_can : (h : History) → Climbing h 1 → h.top ≤ h.low → (h.low ≡ h.top) × (h.top < 15) × (h.used < h.shape.n)
raise_can h c le =
    let e : h.low ≡ h.top = omega (arith, c.firm.ordered) in
    let r = c.root (omega arith) in
    (e, r.0, r.1)

-- ═══ The climb ═══

-- after i of n rises
pub record ClimbLeft (room : Held → Type 0) (n : ℕ) (h₀ : History) (b₀ : List ℕ) (i : ℕ) (h : History) (b : List ℕ) : Type 0 where
  pub climbing : Climbing h (n - i)
  pub fits : room (held h b)
  pub same : climb n (held h₀ b₀) ≡ climb (n - i) (held h b)

pub climb_begins : (room : Held → Type 0) (n : ℕ) (h : History) (b : List ℕ) → Climbing h n → room (held h b) → ClimbLeft room n h b 0 h b
climb_begins room n h b c fits = record { climbing = rw sub-zero c; fits = fits; same = rw sub-zero }

climb_step : (m n : ℕ) (σ τ : Held) → m ≡ suc n → τ ≡ rise σ → climb m σ ≡ climb n τ
unfolding climb
climb_step m n σ τ e f = ap (λ (k : ℕ). climb k σ) e ∙ ap (climb n) (sym f)

module _ (room : Held → Type 0) (n : ℕ) (h₀ : History) (b₀ : List ℕ) (i : ℕ) (h : History) (b : List ℕ) (k : ClimbLeft room n h₀ b₀ i h b) where
  module _ (lt : i < n) where
    one_less : n - i ≡ suc (n - (i + 1))
    one_less = omega arith

    climbing_on : Climbing h (suc (n - (i + 1)))
    climbing_on = subst (λ (m : ℕ). Climbing h m) one_less k.climbing

    pub climb_needs : Climbing h 1 × room (held h b)
    climb_needs = (climb_one h (n - (i + 1)) climbing_on, k.fits)

    pub climb_turn : Kept room → (h' : History) (b' : List ℕ) → held h' b' ≡ rise (held h b) → ClimbLeft room n h₀ b₀ (i + 1) h' b'
    climb_turn kept h' b' e =
        let σ = held h b in
        let on = the_history h' b' (rise σ) e ∙ rise_history σ in
        record {
          climbing = subst (λ (g : History). Climbing g (n - (i + 1))) (sym on) (rise_climbing h (n - (i + 1)) climbing_on);
          fits = kept σ (held h' b') (ap (λ (g : History). g.shape) on ∙ (rise_alike h).shape) (the_length h' b' (rise σ) e ∙ rise_length σ) k.fits;
          same = k.same ∙ climb_step (n - i) (n - (i + 1)) σ (held h' b') one_less e;
        }

  pub climb_done : n ≤ i → held h b ≡ climb n (held h₀ b₀)
  unfolding climb
  climb_done le = let z : n - i ≡ 0 = omega arith in sym (k.same ∙ ap (λ (m : ℕ). climb m (held h b)) z)

-- ═══ The chain ═══

-- with l of n nodes still to make
pub record DescendLeft (room : Held → Type 0) (a n : ℕ) (h₀ : History) (b₀ : List ℕ) (l : ℕ) (h : History) (b : List ℕ) : Type 0 where
  pub descending : Descending h l
  pub fits : room (held h b)
  pub same : descend a n (held h₀ b₀) ≡ descend a l (held h b)

pub descend_begins : (room : Held → Type 0) (a n : ℕ) (h : History) (b : List ℕ) → Descending h n → room (held h b) → DescendLeft room a n h b n h b
descend_begins room a n h b d fits = record { descending = d; fits = fits; same = refl }

descend_step : (a m n : ℕ) (σ τ : Held) → m ≡ suc n → τ ≡ make a n σ → descend a m σ ≡ descend a n τ
unfolding descend
descend_step a m n σ τ e f = ap (λ (k : ℕ). descend a k σ) e ∙ ap (descend a n) (sym f)

module _ (room : Held → Type 0) (a n : ℕ) (h₀ : History) (b₀ : List ℕ) (l : ℕ) (h : History) (b : List ℕ) (k : DescendLeft room a n h₀ b₀ l h b) where
  module _ (m : ℕ) (some : l ≡ suc m) where
    descending_on : Descending h (suc m)
    descending_on = subst (λ (x : ℕ). Descending h x) some k.descending

    pub descend_needs : Firm h × room (held h b) × (h.low ≡ m + 1) × (children_at h.branch (m + 1) < h.shape.c) × (h.used < h.shape.n)
    descend_needs = let g = make_needs h a m descending_on in (k.descending.firm, k.fits, omega (arith, k.descending.low), g.3, g.1)

    pub descend_turn : Kept room → (h' : History) (b' : List ℕ) → held h' b' ≡ make a m (held h b) → DescendLeft room a n h₀ b₀ m h' b'
    descend_turn kept h' b' e =
        let σ = held h b in
        let on = the_history h' b' (make a m σ) e ∙ make_history σ a m in
        record {
          descending = subst (λ (g : History). Descending g m) (sym on) (make_descending h a m descending_on);
          fits = kept σ (held h' b') (ap (λ (g : History). g.shape) on ∙ (make_alike h a m).shape) (the_length h' b' (make a m σ) e ∙ make_length σ a m) k.fits;
          same = k.same ∙ descend_step a l m σ (held h' b') some e;
        }

  pub descend_done : l ≡ 0 → held h b ≡ descend a n (held h₀ b₀)
  unfolding descend
  descend_done z = sym (k.same ∙ ap (λ (m : ℕ). descend a m (held h b)) z)

module _ (h : History) (b : List ℕ) (l a : ℕ) (g : History) (c : List ℕ) (e : held g c ≡ descend a l (held h b)) where
  -- the lowest node takes the interval
  pub chain_can : (room : Held → Type 0) → Kept room → Hanging h l → room (held h b) → Firm g × room (held g c) × (g.low ≤ 0) × (0 ≤ g.top) × (intervals_at g.branch 0 < g.shape.k)
  chain_can room kept k fits =
      let on : descend_on a l h ≡ g = sym (the_history g c (descend a l (held h b)) e ∙ descend_history a l (held h b)) in
      let d : Descending g 0 = subst (λ (x : History). Descending x 0) on (descend_ends a l h k.down) in
      let more : intervals_at g.branch 0 < g.shape.k = subst (λ (x : History). intervals_at x.branch 0 < x.shape.k) on (chain_keeps h a l k) in
      let shape : g.shape ≡ h.shape = ap (λ (x : History). x.shape) (sym on) ∙ (descend_alike a l h).shape in
      (d.firm, kept (held h b) (held g c) shape (the_length g c (descend a l (held h b)) e ∙ descend_length a l (held h b)) fits, omega (arith, d.low), omega arith, more)

  pub chain_done : (x : Entry) (τ : Held) → a ≡ last_end_at h.branch l + 1 → τ ≡ store x 0 (held g c) → τ ≡ chained x l (held h b)
  chain_done x τ is f = f ∙ ap (store x 0) (e ∙ ap (λ (n : ℕ). descend n l (held h b)) is)

-- ═══ The plan ═══

module _ (h : History) (b : List ℕ) (p : Plan) (x : Entry) (g : History) (c : List ℕ) (e : held g c ≡ climb p.closes (held h b)) (u : History) (is : u ≡ stretched g x.end) where
  pub written_lands : (room : Held → Type 0) → Kept room → Firm h → room (held h b) → Feasible h p → x.end ≤ last_time → Landed u p × room (held u c)
  unfolding stretched with_largest
  written_lands room kept f fits can le =
      let up : climb_on p.closes h ≡ g = sym (the_history g c (climb p.closes (held h b)) e ∙ climb_history p.closes (held h b)) in
      let on : stretched (climb_on p.closes h) x.end ≡ u = ap (λ (y : History). stretched y x.end) up ∙ sym is in
      let shape : u.shape ≡ h.shape = ap (λ (y : History). y.shape) is ∙ ap (λ (y : History). y.shape) (sym up) ∙ (climb_alike p.closes h).shape in (
        subst (λ (y : History). Landed y p) on (landed h p x.end f can le),
        kept (held h b) (held u c) shape (the_length g c (climb p.closes (held h b)) e ∙ climb_length p.closes (held h b)) fits,
      )

  came : held u c ≡ stretch x.end (climb p.closes (held h b))
  unfolding stretch
  came = (λ j. record { history = is j; nodes = c }) ∙ ap (stretch x.end) e

  module _ (τ : Held) where
    pub written_chain : p.chain ≡ true → τ ≡ chained x p.level (held u c) → τ ≡ written x p (held h b)
    unfolding written placed
    written_chain t f = f ∙ simp t (ap (chained x p.level) came)

    pub written_here : p.chain ≡ false → τ ≡ store x p.level (held u c) → τ ≡ written x p (held h b)
    unfolding written placed
    written_here t f = f ∙ simp t (ap (store x p.level) came)

-- ═══ Closing all ═══

module _ (h : History) (t : ℕ) where
  pub close_turn : (l : ℕ) (b c : List ℕ) → l ≤ h.top → c ≡ put_head h l t 2 b → close_all h t (h.top + 1 - l) l b ≡ close_all h t (h.top + 1 - (l + 1)) (l + 1) c
  unfolding close_all
  close_turn l b c le e =
      let z : h.top + 1 - l ≡ suc (h.top + 1 - (l + 1)) = omega arith in
      ap (λ (k : ℕ). close_all h t k l b) z ∙ ap (λ (y : List ℕ). close_all h t (h.top + 1 - (l + 1)) (l + 1) y) (sym e)

  pub close_all_done : (l : ℕ) (b : List ℕ) → h.top < l → close_all h t (h.top + 1 - l) l b ≡ b
  unfolding close_all
  close_all_done l b lt = let z : h.top + 1 - l ≡ 0 = omega arith in ap (λ (k : ℕ). close_all h t k l b) z

pub level_stands : (h : History) (l : ℕ) (b c : List ℕ) → Firm h → Room h b → length c ≡ length b → h.low ≤ l → l ≤ h.top → Standing h l c
level_stands h l b c f room long x y = open_stands h l c f (room_kept h h b c refl long room) x y
