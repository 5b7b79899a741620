-- What a plan that is not refused gives to the one who carries it out: every write lies in the buffer, every count within its limit.
use Rattle.std.specs.Prelude.{◌+◌, ◌≤◌, ◌<◌, true, false, ◌≡◌}
use Rattle.record.specs.declared.History.{History}
use Rattle.record.specs.Levels.{intervals_at, children_at}
use Rattle.settle.specs.declared.Plan.{Plan}
use Rattle.settle.specs.Settle.{needed}

pub record Feasible (h : History) (p : Plan) : Type 0 where
  pub level : p.level ≤ 15
  pub closes : h.low + p.closes ≤ h.top + 1
  -- nothing closes: the level is an open one
  pub stays : p.closes ≡ 0 → (h.low ≤ p.level) × (p.level ≤ h.top)
  -- levels close: the level is the next above them
  pub climbs : 0 < p.closes → p.level ≡ h.low + p.closes
  -- the new root and the chain have room
  pub room : h.used + needed h.top p ≤ h.shape.n
  -- a chain hangs below the lowest open level, which is above level 0 and may have one more child
  pub grows : p.chain ≡ true → (0 < p.level) × (p.closes ≡ 0 → p.level ≡ h.low) × (p.level ≤ h.top → children_at h.branch p.level < h.shape.c)
  -- a level that stores may have one more interval
  pub keeps : p.chain ≡ false → p.level ≤ h.top → intervals_at h.branch p.level < h.shape.k
