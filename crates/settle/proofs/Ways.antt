-- Each way through the question of where an interval goes, over variables. Assumes nothing.
use Prim.Native.Nat.{ℕ, zero, suc, ◌+◌, ◌-◌, ◌<◌, ◌≤◌}
use native.Mathlib.Nat.{zero-add}
use native.Mathlib.Omega.{arith}
use mathlib.Core.Path.{◌≡◌, refl, sym, ap, ◌∙◌, subst}
use mathlib.Core.Bool.{Bool, true, false, cond, not, ◌&&◌}
use mathlib.Core.Logic.{◌⊎◌, inl, inr, ⊎_elim}
use lib.Dec.{ltb}
use borrow.Author.Tests.{le-ltb, lt-ltb, le-leb, lt-leb}
use Rattle.layout.specs.declared.Shape.{Shape}
use Rattle.record.specs.declared.Branch.{Branch}
use Rattle.record.specs.declared.History.{History}
use Rattle.record.specs.Levels.{start_at, intervals_at, children_at, last_end_at}
use Rattle.settle.specs.declared.Plan.{Plan}
use Rattle.settle.specs.declared.Verdict.{Verdict}
use Rattle.settle.specs.declared.Verdict.TheVariants.{Here, Chain, Close}
use Rattle.settle.specs.Settle.{fits, ruled, plan, followed, ask_up, lowest, settle, needed}

-- ═══ Rules 1 and 2 ═══

module _ (b : Branch) (sh : Shape) (s l : ℕ) (child : Bool) (last : ℕ) where
  module _ (due : (not child && ltb 0 l && ltb last s) ≡ true) where
    pub chain_ruled : children_at b l < sh.c → Chain ≡ ruled b sh s l child last
    unfolding ruled
    chain_ruled few = simp (due, lt-ltb _ _ few)

    pub full_ruled : sh.c ≤ children_at b l → Close ≡ ruled b sh s l child last
    unfolding ruled
    full_ruled all = simp (due, le-ltb _ _ all)

  module _ (due : (not child && ltb 0 l && ltb last s) ≡ false) where
    pub here_ruled : intervals_at b l < sh.k → Here ≡ ruled b sh s l child last
    unfolding ruled
    here_ruled few = simp (due, lt-ltb _ _ few)

    pub close_ruled : sh.k ≤ intervals_at b l → Close ≡ ruled b sh s l child last
    unfolding ruled
    close_ruled all = simp (due, le-ltb _ _ all)

pub ruleset ruled-ways = (chain_ruled, full_ruled, here_ruled, close_ruled)

-- ═══ The question put to level l, with the verdict v ═══

module _ (h : History) (s l : ℕ) (child : Bool) (last n : ℕ) (v : Verdict) (said : v ≡ ruled h.branch h.shape s l child last) where
  pub here : (left : ℕ) → v ≡ Here → ◌≡◌ {A = Plan} (record { closes = n; level = l; chain = false }) (ask_up left h s l child last n)
  unfolding ask_up followed
  here zero e = simp (← said, e)
  here (suc left) e = simp (← said, e)

  pub chained : (left : ℕ) → v ≡ Chain → ◌≡◌ {A = Plan} (record { closes = n; level = l; chain = true }) (ask_up left h s l child last n)
  unfolding ask_up followed
  chained zero e = simp (← said, e)
  chained (suc left) e = simp (← said, e)

  pub new_root_lem : v ≡ Close → l ≡ h.top → ◌≡◌ {A = Plan} (record { closes = l + 1 - h.low; level = l + 1; chain = ltb h.largest_end s }) (ask_up (h.top - l) h s l child last n)
  unfolding ask_up followed
  new_root_lem e t = let z : h.top - l ≡ 0 = omega arith in simp (z, ← said, e)

  pub upward : (r : Plan) → v ≡ Close → l ≤ h.top → (l ≡ h.top → ⊥) → r ≡ ask_up (h.top - (l + 1)) h s (l + 1) false h.largest_end (l + 1 - h.low) → r ≡ ask_up (h.top - l) h s l child last n
  unfolding ask_up followed
  upward r e le ne f = let z : h.top - l ≡ suc (h.top - (l + 1)) = omega arith in simp (z, ← said, e, f)

  -- the level alone, which is the same however many levels are said to be closed before
  pub level_upward : (r : ℕ) → v ≡ Close → l ≤ h.top → (l ≡ h.top → ⊥) → ((m : ℕ) → r ≡ (ask_up (h.top - (l + 1)) h s (l + 1) false h.largest_end m).level) → r ≡ (ask_up (h.top - l) h s l child last n).level
  level_upward r e le ne f = f (l + 1 - h.low) ∙ ap (λ (p : Plan). p.level) (upward _ e le ne refl)

-- the parent is an open level too, and fewer are above it
pub fewer : (top low l t : ℕ) → top - l ≡ t → (low ≤ l) × (l ≤ top) × (top < 16) → (l ≡ top → ⊥) → (top - (l + 1) < t) × ((low ≤ l + 1) × (l + 1 ≤ top) × (top < 16))
fewer top low l t e p ne = (omega (arith, p.1, ne), (omega (arith, p.0), omega (arith, p.1, ne), p.2))

-- ═══ The plan that belongs to the level at which the question ends ═══

module _ (h : History) (s : ℕ) where
  -- its level is above l: all below that level closes, so its last child's end is S, and it grows a chain where s is after S
  abbrev Above : ℕ → Plan → Type 0
  Above l p = (l < p.level) × (p ≡ plan (p.level - h.low) p.level (ltb h.largest_end s))

  -- level l grows a chain where a child is due and stores where none is, or it closes
  abbrev Ends : ℕ → ℕ → Bool → Plan → Type 0
  Ends l n due p = (p ≡ plan n l due) ⊎ Above l p

  followed_ends : (due few room : Bool) (l n : ℕ) (up : Plan) → Above l up → Ends l n due (followed (cond due (cond few Chain Close) (cond room Here Close)) l n up)
  unfolding followed
  followed_ends true true room l n up above = inl refl
  followed_ends true false room l n up above = inr above
  followed_ends false few true l n up above = inl refl
  followed_ends false few false l n up above = inr above

  ruled_ends : (l : ℕ) (child : Bool) (last n : ℕ) (up : Plan) → Above l up → Ends l n (not child && ltb 0 l && ltb last s) (followed (ruled h.branch h.shape s l child last) l n up)
  unfolding ruled
  ruled_ends l child last n up = followed_ends (not child && ltb 0 l && ltb last s) (ltb (children_at h.branch l) h.shape.c) (fits h.branch h.shape l) l n up

  ask_ends : (left l : ℕ) (child : Bool) (last n : ℕ) → Ends l n (not child && ltb 0 l && ltb last s) (ask_up left h s l child last n)
  unfolding ask_up
  ask_ends zero l child last n = ruled_ends l child last n _ (omega arith, refl)
  ask_ends (suc left) l child last n =
      ruled_ends l child last n _
      (⊎_elim
      (λ e. subst (Above l) (sym e) (omega arith, simp (lt-ltb 0 (l + 1) (omega arith))))
      (λ above. (omega (arith, above.0), above.1))
      (ask_ends left (l + 1) false h.largest_end (l + 1 - h.low)))

  -- t is the level to which the question comes that is put to level l, where nothing is closed yet
  module _ (left l : ℕ) (child : Bool) (last t : ℕ) (told : t ≡ (ask_up left h s l child last 0).level) where
    pub no_lower : l ≤ t
    no_lower = ⊎_elim (λ e. omega (arith, ap (λ (p : Plan). p.level) e)) (λ above. omega (arith, above.0)) (ask_ends left l child last 0)

    pub stays : t ≡ l → plan 0 l (not child && ltb 0 l && ltb last s) ≡ ask_up left h s l child last 0
    stays same = ⊎_elim sym (λ above. absurd (omega (arith, above.0))) (ask_ends left l child last 0)

    pub goes_up : (t ≡ l → ⊥) → plan (t - h.low) t (ltb h.largest_end s) ≡ ask_up left h s l child last 0
    goes_up other = ⊎_elim (λ e. absurd (other (told ∙ ap (λ (p : Plan). p.level) e))) (λ above. rw told (sym above.1)) (ask_ends left l child last 0)

-- ═══ The search for the lowest level, from l on ═══

module _ (b : Branch) (s l top a : ℕ) (inv : lowest (top - l) b s l ≡ a) where
  pub found : l < top → start_at b l ≤ s → l ≡ a
  unfolding lowest
  found lt le = let z : top - l ≡ suc (top - (l + 1)) = omega arith in simp (z, le-leb _ _ le) at inv

  pub passed : l < top → s < start_at b l → lowest (top - (l + 1)) b s (l + 1) ≡ a
  unfolding lowest
  passed lt gt = let z : top - l ≡ suc (top - (l + 1)) = omega arith in simp (z, lt-leb _ _ gt) at inv

  pub at_root : l ≡ top → top ≡ a
  unfolding lowest
  at_root e = let z : top - l ≡ 0 = omega arith in sym e ∙ (simp z at inv)

pub settled : (h : History) (s l : ℕ) (r : Plan) → l ≡ lowest (h.top - h.low) h.branch s h.low
    → r ≡ ask_up (h.top - l) h s l (ltb h.low l) (last_end_at h.branch l) 0 → r ≡ settle h s
unfolding settle
settled h s l r p f = simp (← p, f)

-- ═══ Depth and room ═══

module _ (top : ℕ) (p : Plan) where
  pub both : top < p.level → p.chain ≡ true → 1 + p.level ≡ needed top p
  unfolding needed
  both up e = simp (lt-ltb _ _ up, e)

  pub root : top < p.level → p.chain ≡ false → 1 ≡ needed top p
  unfolding needed
  root up e = simp (lt-ltb _ _ up, e)

  pub chain : p.level ≤ top → p.chain ≡ true → p.level ≡ needed top p
  unfolding needed
  chain le e = simp (le-ltb _ _ le, e, zero-add)

  pub neither : p.level ≤ top → p.chain ≡ false → 0 ≡ needed top p
  unfolding needed
  neither le e = simp (le-ltb _ _ le, e)
