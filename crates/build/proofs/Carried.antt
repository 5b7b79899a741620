-- A plan carried out on the record: after its climb it has come to where the interval goes, and the whole of it leaves the record firm. Assumes nothing.
use Prim.Native.Nat.{ℕ, zero, suc, ◌+◌, ◌≤◌, ◌<◌}
use mathlib.Core.Path.{◌≡◌, refl, sym, ◌∙◌}
use mathlib.Core.Bool.{Bool, true, false, cond}
use native.Mathlib.Omega.{arith}
use lib.Dec.{ltb}
use borrow.Author.Tests.{ltb-true, ltb-false}
use Rattle.record.specs.declared.History.{History}
use Rattle.record.specs.Levels.{intervals_at, children_at, last_end_at}
use Rattle.record.specs.Moves.{with_branch, with_largest, stored, stretched}
use Rattle.record.specs.Sound.{last_time}
use Rattle.record.specs.Firm.{Firm, Long}
use Rattle.record.proofs.Kept.{firm_stored, firm_stretched}
use Rattle.record.proofs.Effects.{stored_long}
use Rattle.settle.specs.declared.Plan.{Plan}
use Rattle.settle.proofs.Ways.{both, root, chain}
use Rattle.build.specs.Feasible.{Feasible}
use Rattle.build.specs.Trial.{climb_on, descend_on, placed_on, planned}
use Rattle.build.specs.Carried.{Alike, Climbing, Landed}
use Rattle.build.proofs.Climbs.{alike_over, climb_firm, climb_alike, climb_long, climb_low, climb_within, climb_beyond}
use Rattle.build.proofs.Descents.{descend_alike, descend_long, chain_firm}

-- ═══ A feasible plan after its climb ═══

module _ (h : History) (p : Plan) (f : Firm h) (can : Feasible h p) where
  pub climbs : Climbing h p.closes
  climbs = record {
    firm = f;
    reach = can.closes;
    root = λ e.
        let up : h.top < p.level = omega (arith, can.climbs (omega (arith, f.ordered))) in
        (omega (arith, can.level), go p.chain refl up);
  }
    where
      go : (t : Bool) → p.chain ≡ t → h.top < p.level → h.used < h.shape.n
      go true e up = omega (arith, can.room, both h.top p up e)
      go false e up = omega (arith, can.room, root h.top p up e)

  stayed : p.closes ≡ 0 → Landed h p
  stayed z =
      let s = can.stays z in
      record {
        firm = f;
        above = s.0;
        below = s.1;
        chain = λ e.
            let g = can.grows e in
            let l = g.1 z in
            record {
              some = g.0;
              last = rw l (f.last (omega (arith, g.0)));
              down = record { firm = f; low = sym l; fewer = λ x. g.2 s.1; room = omega (arith, can.room, chain h.top p s.1 e) };
            };
        here = λ e. can.keeps e s.1;
      }

  module _ (n : ℕ) (some : p.closes ≡ suc n) where
    came : Climbing h (suc n)
    came = rw some at climbs

    at_level : p.level ≡ h.low + suc n
    at_level = omega (arith, can.climbs (omega arith))

    -- the level is the lowest; of its numbers these matter
    land : (t u : ℕ) → (climb_on (suc n) h).top ≡ t → (climb_on (suc n) h).used ≡ u → p.level ≤ t
        → (p.chain ≡ true → (children_at (climb_on (suc n) h).branch p.level < h.shape.c) × (u + p.level ≤ h.shape.n))
        → (p.chain ≡ false → intervals_at (climb_on (suc n) h).branch p.level < h.shape.k)
        → Landed (climb_on (suc n) h) p
    land t u a b le grows keeps =
        let g = climb_firm (suc n) h came in
        let same : (climb_on (suc n) h).shape ≡ h.shape = (climb_alike (suc n) h).shape in
        let l : p.level ≡ (climb_on (suc n) h).low = at_level ∙ sym (climb_low (suc n) h came) in
        record {
          firm = g;
          above = omega (arith, l);
          below = omega (arith, a);
          chain = λ e.
              let k = grows e in
              record {
                some = omega (arith, at_level);
                last = rw l (g.last (omega (arith, l, at_level)));
                down = record { firm = g; low = sym l; fewer = λ x. rw same k.0; room = rw same (rw b k.1) };
              };
          here = λ e. rw same (keeps e);
        }

    landed_within : p.level ≤ h.top → Landed (climb_on (suc n) h) p
    landed_within le =
        let w = climb_within (suc n) h (omega (arith, at_level)) in
        land h.top h.used w.top w.used le
        (λ e. (rw w.children ((can.grows e).2 le), omega (arith, can.room, chain h.top p le e)))
        (λ e. rw w.intervals (can.keeps e le))

    landed_beyond : h.top < p.level → Landed (climb_on (suc n) h) p
    landed_beyond lt =
        let b = climb_beyond n h (omega (arith, at_level, can.closes, some)) in
        let l : p.level ≡ h.top + 1 = omega (arith, at_level, can.closes, some) in
        land (h.top + 1) (h.used + 1) b.top b.used (omega arith)
        (λ e. (rw l (omega (arith, b.children, f.shaped.two)), omega (arith, can.room, both h.top p lt e)))
        (λ e. rw l (omega (arith, b.intervals, f.shaped.some)))

    landed_up : Landed (climb_on (suc n) h) p
    landed_up = go (ltb h.top p.level) refl
      where
        go : (t : Bool) → ltb h.top p.level ≡ t → Landed (climb_on (suc n) h) p
        go true e = landed_beyond (ltb-true _ _ e)
        go false e = landed_within (ltb-false _ _ e)

  climbed : Landed (climb_on p.closes h) p
  unfolding climb_on
  climbed = go p.closes refl
    where
      go : (n : ℕ) → p.closes ≡ n → Landed (climb_on n h) p
      go zero e = stayed e
      go (suc n) e = landed_up n e

-- S takes the interval's end
stretch_landed : (h : History) (p : Plan) (e : ℕ) → e ≤ last_time → Landed h p → Landed (stretched h e) p
unfolding stretched with_largest
stretch_landed h p e le k =
    let f = firm_stretched h k.firm e le in
    record {
      firm = f;
      above = k.above;
      below = k.below;
      chain = λ x. let g = k.chain x in record { some = g.some; last = g.last; down = record { firm = f; low = g.down.low; fewer = g.down.fewer; room = g.down.room } };
      here = k.here;
    }

pub landed : (h : History) (p : Plan) (e : ℕ) → Firm h → Feasible h p → e ≤ last_time → Landed (stretched (climb_on p.closes h) e) p
landed h p e f can le = stretch_landed (climb_on p.closes h) p e le (climbed h p f can)

-- ═══ The whole ═══

store_alike : (h : History) (l : ℕ) → Alike h (stored h l)
unfolding stored with_branch
store_alike h l = record { shape = refl; start = refl; latest = refl; attributes = refl; finished = refl }

stretch_alike : (h : History) (e : ℕ) → Alike h (stretched h e)
unfolding stretched with_largest
stretch_alike h e = record { shape = refl; start = refl; latest = refl; attributes = refl; finished = refl }

module _ (p : Plan) (h : History) where
  placed_firm : Landed h p → Firm (placed_on p h)
  unfolding placed_on
  placed_firm k = go p.chain refl
    where
      go : (t : Bool) → p.chain ≡ t → Firm (cond t (stored (descend_on (last_end_at h.branch p.level + 1) p.level h) 0) (stored h p.level))
      go true e = chain_firm h (last_end_at h.branch p.level + 1) p.level (k.chain e)
      go false e = firm_stored h k.firm p.level (k.here e)

  placed_alike : Alike h (placed_on p h)
  unfolding placed_on
  placed_alike = go p.chain
    where
      go : (t : Bool) → Alike h (cond t (stored (descend_on (last_end_at h.branch p.level + 1) p.level h) 0) (stored h p.level))
      go true =
          let a = last_end_at h.branch p.level + 1 in
          let g = descend_on a p.level h in
          alike_over h g (stored g 0) (descend_alike a p.level h) (store_alike g 0)
      go false = store_alike h p.level

  placed_long : Long h.branch → Long (placed_on p h).branch
  unfolding placed_on
  placed_long l = go p.chain
    where
      go : (t : Bool) → Long (cond t (stored (descend_on (last_end_at h.branch p.level + 1) p.level h) 0) (stored h p.level)).branch
      go true = let a = last_end_at h.branch p.level + 1 in stored_long (descend_on a p.level h) 0 (descend_long a p.level h l)
      go false = stored_long h p.level l

module _ (p : Plan) (h : History) (e : ℕ) where
  pub planned_long : Long h.branch → Long (planned p e h).branch
  unfolding planned stretched with_largest
  planned_long l = placed_long p (stretched (climb_on p.closes h) e) (climb_long p.closes h l)

  pub planned_firm : Firm h → Feasible h p → e ≤ last_time → Firm (planned p e h)
  unfolding planned
  planned_firm f can le = placed_firm p (stretched (climb_on p.closes h) e) (landed h p e f can le)

  pub planned_alike : Alike h (planned p e h)
  unfolding planned
  planned_alike =
      let g = climb_on p.closes h in
      let s = stretched g e in
      alike_over h g (placed_on p s) (climb_alike p.closes h) (alike_over g s (placed_on p s) (stretch_alike g e) (placed_alike p s))
