-- What a plan's answer tells, and that a plan not refused can be carried out. Assumes nothing.
use Prim.Native.Nat.{ℕ, zero, suc, ◌+◌, ◌-◌, ◌≤◌, ◌<◌}
use native.Mathlib.Omega.{arith}
use mathlib.Core.Path.{◌≡◌, refl, sym}
use mathlib.Core.Bool.{Bool, true, false, cond, not, ◌&&◌, true≢false}
use lib.Dec.{ltb, leb}
use borrow.Author.Tests.{ltb-true, ltb-false}
use Rattle.layout.specs.declared.Shape.{Shape}
use Rattle.record.specs.declared.Branch.{Branch}
use Rattle.record.specs.declared.History.{History}
use Rattle.record.specs.Refusals.{Nothing, Deep, NoRoom, accepted}
use Rattle.record.specs.Levels.{start_at, intervals_at, children_at, last_end_at}
use Rattle.record.specs.Firm.{Firm}
use Rattle.settle.specs.declared.Plan.{Plan}
use Rattle.settle.specs.declared.Verdict.{Verdict}
use Rattle.settle.specs.declared.Verdict.TheVariants.{Here, Chain, Close}
use Rattle.settle.specs.Settle.{ruled, followed, plan, ask_up, lowest, settle, needed, too_deep, no_room, plan_refusal}
use Rattle.build.specs.Feasible.{Feasible}

-- ═══ "Each number is given exactly then" ═══

module _ (h : History) (p : Plan) where
  pub accepted_when : too_deep p ≡ false → no_room h p ≡ false → plan_refusal h p ≡ Nothing
  unfolding plan_refusal
  accepted_when d r = simp (d, r)

  pub deep_when : too_deep p ≡ true → plan_refusal h p ≡ Deep
  unfolding plan_refusal
  deep_when d = simp d

  pub no_room_when : too_deep p ≡ false → no_room h p ≡ true → plan_refusal h p ≡ NoRoom
  unfolding plan_refusal
  no_room_when d r = simp (d, r)

  pub then_room : plan_refusal h p ≡ Nothing → (too_deep p ≡ false) × (no_room h p ≡ false)
  unfolding plan_refusal
  then_room = go (too_deep p) (no_room h p)
    where
      go : (d r : Bool) → cond d Deep (cond r NoRoom Nothing) ≡ Nothing → (d ≡ false) × (r ≡ false)
      go true r e = (cc, cc)
      go false true e = (refl, cc)
      go false false e = (refl, refl)

  pub then_deep : plan_refusal h p ≡ Deep → too_deep p ≡ true
  unfolding plan_refusal
  then_deep = go (too_deep p) (no_room h p)
    where
      go : (d r : Bool) → cond d Deep (cond r NoRoom Nothing) ≡ Deep → d ≡ true
      go true r e = refl
      go false true e = cc
      go false false e = cc

  pub then_no_room : plan_refusal h p ≡ NoRoom → (too_deep p ≡ false) × (no_room h p ≡ true)
  unfolding plan_refusal
  then_no_room = go (too_deep p) (no_room h p)
    where
      go : (d r : Bool) → cond d Deep (cond r NoRoom Nothing) ≡ NoRoom → (d ≡ false) × (r ≡ true)
      go true r e = (cc, cc)
      go false true e = (refl, refl)
      go false false e = (refl, cc)

  pub accepted_by : accepted (plan_refusal h p) ≡ not (too_deep p) && not (no_room h p)
  unfolding plan_refusal
  accepted_by = go (too_deep p) (no_room h p)
    where
      go : (d r : Bool) → accepted (cond d Deep (cond r NoRoom Nothing)) ≡ not d && not r
      go true r = refl
      go false true = refl
      go false false = refl

  pub then_nothing : accepted (plan_refusal h p) ≡ true → plan_refusal h p ≡ Nothing
  unfolding plan_refusal
  then_nothing = go (too_deep p) (no_room h p)
    where
      go : (d r : Bool) → accepted (cond d Deep (cond r NoRoom Nothing)) ≡ true → cond d Deep (cond r NoRoom Nothing) ≡ Nothing
      go true r e = cc
      go false true e = cc
      go false false e = refl

-- ═══ What a verdict tells ═══

abbrev Tells : Branch → Shape → ℕ → Bool → Verdict → Type 0
Tells b sh l child Here = intervals_at b l < sh.k
Tells b sh l child Chain = (child ≡ false) × (0 < l) × (children_at b l < sh.c)
Tells b sh l child Close = Unit {0}

tells : (b : Branch) (sh : Shape) (s l : ℕ) (child : Bool) (last : ℕ) → Tells b sh l child (ruled b sh s l child last)
unfolding ruled
tells b sh s l child last =
    go child (ltb 0 l) (ltb last s) (ltb (children_at b l) sh.c) (ltb (intervals_at b l) sh.k) (ltb-true _ _) (ltb-true _ _) (ltb-true _ _)
  where
    go : (child a d x y : Bool) → (a ≡ true → 0 < l) → (x ≡ true → children_at b l < sh.c) → (y ≡ true → intervals_at b l < sh.k)
        → Tells b sh l child (cond (not child && a && d) (cond x Chain Close) (cond y Here Close))
    go true a d x true up c k = k refl
    go true a d x false up c k = tt
    go false true true true y up c k = (refl, up refl, c refl)
    go false true true false y up c k = tt
    go false true false x true up c k = k refl
    go false true false x false up c k = tt
    go false false d x true up c k = k refl
    go false false d x false up c k = tt

-- ═══ The plan of a record ═══

-- what a plan has before depth and room are looked at
record Sensible (h : History) (p : Plan) : Type 0 where
  closes : h.low + p.closes ≤ h.top + 1
  stays : p.closes ≡ 0 → (h.low ≤ p.level) × (p.level ≤ h.top)
  climbs : 0 < p.closes → p.level ≡ h.low + p.closes
  grows : p.chain ≡ true → (0 < p.level) × (p.closes ≡ 0 → p.level ≡ h.low) × (p.level ≤ h.top → children_at h.branch p.level < h.shape.c)
  keeps : p.chain ≡ false → p.level ≤ h.top → intervals_at h.branch p.level < h.shape.k

-- the question is put to the open level l when n levels are to close: to the next above those, or to one found first
record Stage (h : History) (l : ℕ) (child : Bool) (n : ℕ) : Type 0 where
  above : h.low ≤ l
  below : l ≤ h.top
  reach : h.low + n ≤ l
  first : n ≡ 0 → child ≡ false → l ≡ h.low
  next : 0 < n → l ≡ h.low + n

follow : (h : History) (l : ℕ) (child : Bool) (n : ℕ) (v : Verdict) (up : Plan) → Stage h l child n → Tells h.branch h.shape l child v → Sensible h up
    → Sensible h (followed v l n up)
unfolding followed
follow h l child n Here up g t u = record {
  closes = omega (arith, g.reach, g.below);
  stays = λ z. (g.above, g.below);
  climbs = g.next;
  grows = λ e. absurd (true≢false (sym e));
  keeps = λ e le. t;
}
follow h l child n Chain up g t u = record {
  closes = omega (arith, g.reach, g.below);
  stays = λ z. (g.above, g.below);
  climbs = g.next;
  grows = λ e. (t.1, λ z. g.first z t.0, λ le. t.2);
  keeps = λ e. absurd (true≢false e);
}
follow h l child n Close up g t u = u

-- a new root stands above all open levels
crowned : (h : History) (l : ℕ) (b : Bool) → h.low ≤ l → l ≡ h.top → Sensible h (plan (l + 1 - h.low) (l + 1) b)
crowned h l b le t = record {
  closes = omega arith;
  stays = λ z. absurd (omega arith);
  climbs = λ z. omega arith;
  grows = λ e. (omega arith, λ z. absurd (omega arith), λ z. absurd (omega arith));
  keeps = λ e z. absurd (omega arith);
}

climb : (h : History) (l : ℕ) → h.low ≤ l → l < h.top → Stage h (l + 1) false (l + 1 - h.low)
climb h l le lt = record {
  above = omega arith;
  below = omega arith;
  reach = omega arith;
  first = λ z. absurd (omega arith);
  next = λ z. omega arith;
}

asked : (left : ℕ) (h : History) (s l : ℕ) (child : Bool) (last n : ℕ) → left + l ≡ h.top → Stage h l child n → Sensible h (ask_up left h s l child last n)
unfolding ask_up
asked zero h s l child last n e g =
    follow h l child n (ruled h.branch h.shape s l child last) (plan (l + 1 - h.low) (l + 1) (ltb h.largest_end s)) g (tells h.branch h.shape s l child last)
    (crowned h l (ltb h.largest_end s) g.above (omega arith))
asked (suc left) h s l child last n e g =
    let up = ask_up left h s (l + 1) false h.largest_end (l + 1 - h.low) in
    follow h l child n (ruled h.branch h.shape s l child last) up g (tells h.branch h.shape s l child last)
    (asked left h s (l + 1) false h.largest_end (l + 1 - h.low) (omega arith) (climb h l g.above (omega arith)))

-- the level found is an open one
found_open : (left : ℕ) (b : Branch) (s l : ℕ) → (l ≤ lowest left b s l) × (lowest left b s l ≤ left + l)
unfolding lowest
found_open zero b s l = (omega arith, omega arith)
found_open (suc left) b s l = go (leb (start_at b l) s) (found_open left b s (l + 1))
  where
    go : (t : Bool) → (l + 1 ≤ lowest left b s (l + 1)) × (lowest left b s (l + 1) ≤ left + (l + 1))
        → (l ≤ cond t l (lowest left b s (l + 1))) × (cond t l (lowest left b s (l + 1)) ≤ suc left + l)
    go true o = (omega arith, omega arith)
    go false o = (omega (arith, o.0), omega (arith, o.1))

sensible : (h : History) (s : ℕ) → h.low ≤ h.top → Sensible h (settle h s)
unfolding settle
sensible h s le =
    let l = lowest (h.top - h.low) h.branch s h.low in
    let o = found_open (h.top - h.low) h.branch s h.low in
    asked (h.top - l) h s l (ltb h.low l) (last_end_at h.branch l) 0 (omega (arith, o.1, le)) (record {
      above = o.0;
      below = omega (arith, o.1, le);
      reach = omega (arith, o.0);
      first = λ z e. omega (arith, ltb-false h.low l e, o.0);
      next = λ z. absurd (omega arith);
    })

pub feasible : (h : History) (s : ℕ) → Firm h → plan_refusal h (settle h s) ≡ Nothing → Feasible h (settle h s)
feasible h s f e =
    let p = settle h s in
    let g = sensible h s f.ordered in
    let r = then_room h p e in
    record {
      level = ltb-false 15 p.level r.0;
      closes = g.closes;
      stays = g.stays;
      climbs = g.climbs;
      room = omega (arith, ltb-false (h.shape.n - h.used) (needed h.top p) r.1, f.used);
      grows = g.grows;
      keeps = g.keeps;
    }
