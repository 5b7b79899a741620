-- The climb of a plan on the record: level after level is closed, or a root raised, and the record stays firm. Assumes nothing.
use Prim.Native.Nat.{ℕ, zero, suc, ◌+◌, ◌≤◌, ◌<◌}
use mathlib.Core.Path.{◌≡◌, refl, ◌∙◌}
use mathlib.Core.Bool.{Bool, true, false, cond}
use mathlib.Core.List.{List, [], ◌∷◌}
use native.Mathlib.Omega.{arith}
use lib.Dec.{ltb}
use lib.ListN.{get_or, set}
use borrow.Author.Tests.{ltb-true, ltb-false, lt-ltb, le-ltb}
use Rattle.record.specs.declared.History.{History}
use Rattle.record.specs.Levels.{intervals_at, children_at}
use Rattle.record.specs.Moves.{level_new, level_closed, with_branch, closed, raised}
use Rattle.record.specs.Firm.{Firm, Long}
use Rattle.record.proofs.Kept.{firm_closed, firm_raised}
use Rattle.record.proofs.Effects.{closed_long, raised_long}
use Rattle.build.specs.Trial.{rise_on, climb_on}
use Rattle.build.specs.Carried.{Alike, Climbing}

-- an entry that was set is at most what it was set to, in a list of any length
pub set_most : (xs : List ℕ) (i v : ℕ) → get_or (set xs i v) i 0 ≤ v
set_most [] i v = omega arith
set_most (x ∷ xs) zero v = omega arith
set_most (x ∷ xs) (suc i) v = set_most xs i v

pub alike_over : (h g k : History) → Alike h g → Alike g k → Alike h k
alike_over h g k a b = record {
  shape = b.shape ∙ a.shape;
  start = b.start ∙ a.start;
  latest = b.latest ∙ a.latest;
  attributes = b.attributes ∙ a.attributes;
  finished = b.finished ∙ a.finished;
}

-- ═══ One level up ═══

module _ (h : History) where
  pub rise_closes : h.low < h.top → rise_on h ≡ closed h
  unfolding rise_on
  rise_closes lt = simp (lt-ltb _ _ lt)

  pub rise_raises : h.top ≤ h.low → rise_on h ≡ raised h
  unfolding rise_on
  rise_raises le = simp (le-ltb _ _ le)

  -- what holds of both ways holds of a rise
  risen : (P : History → Type 0) → (h.low < h.top → P (closed h)) → (h.top ≤ h.low → P (raised h)) → P (rise_on h)
  unfolding rise_on
  risen P a b = go (ltb h.low h.top) refl
    where
      go : (t : Bool) → ltb h.low h.top ≡ t → P (cond t (closed h) (raised h))
      go true e = a (ltb-true _ _ e)
      go false e = b (ltb-false _ _ e)

  rise_low : h.low ≤ h.top → (rise_on h).low ≡ h.low + 1
  unfolding closed raised with_branch
  rise_low le = risen (λ g. g.low ≡ h.low + 1) (λ lt. refl) (λ ge. omega arith)

  pub rise_alike : Alike h (rise_on h)
  unfolding closed raised with_branch
  rise_alike =
      risen (λ g. Alike h g)
      (λ lt. record { shape = refl; start = refl; latest = refl; attributes = refl; finished = refl })
      (λ ge. record { shape = refl; start = refl; latest = refl; attributes = refl; finished = refl })

  rise_long : Long h.branch → Long (rise_on h).branch
  rise_long g = risen (λ r. Long r.branch) (λ lt. closed_long h g) (λ ge. raised_long h g)

  module _ (n : ℕ) (c : Climbing h (suc n)) where
    pub climb_one : Climbing h 1
    climb_one = record {
      firm = c.firm;
      reach = omega (arith, c.firm.ordered);
      root = λ e. c.root (omega (arith, c.reach));
    }

    pub raise_needs : h.top ≤ h.low → (h.top < 15) × (h.used < h.shape.n) × (h.used < 4294967295)
    raise_needs le =
        let r = c.root (omega (arith, c.reach, c.firm.ordered)) in (r.0, r.1, omega (arith, r.1, c.firm.shaped.nodes))

    pub rise_climbing : Climbing (rise_on h) n
    unfolding closed raised with_branch
    rise_climbing =
        risen (λ g. Climbing g n)
        (λ lt. record { firm = firm_closed h c.firm lt; reach = omega (arith, c.reach); root = λ e. c.root (omega arith) })
        (λ le.
        let r = raise_needs le in
        record { firm = firm_raised h c.firm r.0 r.1; reach = omega (arith, c.reach); root = λ e. absurd (omega (arith, c.reach)) })

-- ═══ The climb ═══

pub climb_firm : (n : ℕ) (h : History) → Climbing h n → Firm (climb_on n h)
unfolding climb_on
climb_firm zero h c = c.firm
climb_firm (suc n) h c = climb_firm n (rise_on h) (rise_climbing h n c)

pub climb_alike : (n : ℕ) (h : History) → Alike h (climb_on n h)
unfolding climb_on
climb_alike zero h = record { shape = refl; start = refl; latest = refl; attributes = refl; finished = refl }
climb_alike (suc n) h = alike_over h (rise_on h) (climb_on n (rise_on h)) (rise_alike h) (climb_alike n (rise_on h))

pub climb_long : (n : ℕ) (h : History) → Long h.branch → Long (climb_on n h).branch
unfolding climb_on
climb_long zero h g = g
climb_long (suc n) h g = climb_long n (rise_on h) (rise_long h g)

pub climb_low : (n : ℕ) (h : History) → Climbing h n → (climb_on n h).low ≡ h.low + n
unfolding climb_on
climb_low zero h c = omega arith
climb_low (suc n) h c = omega (arith, climb_low n (rise_on h) (rise_climbing h n c), rise_low h c.firm.ordered)

-- the root stays open
pub record Within (h g : History) : Type 0 where
  pub top : g.top ≡ h.top
  pub used : g.used ≡ h.used
  pub places : g.branch.places ≡ h.branch.places
  pub starts : g.branch.starts ≡ h.branch.starts
  pub intervals : g.branch.intervals ≡ h.branch.intervals
  pub children : g.branch.children ≡ h.branch.children

pub climb_within : (n : ℕ) (h : History) → h.low + n ≤ h.top → Within h (climb_on n h)
unfolding climb_on closed with_branch level_closed
climb_within zero h le = record { top = refl; used = refl; places = refl; starts = refl; intervals = refl; children = refl }
climb_within (suc n) h le =
    let k = climb_within n (closed h) (omega arith) in
    rw (rise_closes h (omega arith))
    (record { top = k.top; used = k.used; places = k.places; starts = k.starts; intervals = k.intervals; children = k.children })

-- a new root is made last
pub record Beyond (h g : History) : Type 0 where
  pub top : g.top ≡ h.top + 1
  pub used : g.used ≡ h.used + 1
  pub intervals : intervals_at g.branch (h.top + 1) ≤ 0
  pub children : children_at g.branch (h.top + 1) ≤ 1

pub climb_beyond : (n : ℕ) (h : History) → h.low + n ≡ h.top → Beyond h (climb_on (suc n) h)
unfolding climb_on closed raised with_branch level_closed level_new
climb_beyond zero h e =
    rw (rise_raises h (omega arith))
    (record {
      top = refl;
      used = refl;
      intervals = set_most h.branch.intervals (h.top + 1) 0;
      children = set_most h.branch.children (h.top + 1) 1;
    })
climb_beyond (suc n) h e =
    let k = climb_beyond n (closed h) (omega arith) in
    rw (rise_closes h (omega arith))
    (record { top = k.top; used = k.used; intervals = k.intervals; children = k.children })
