-- What holds while a plan is carried out on the record: what is left of it can be done.
use Rattle.std.specs.Prelude.{ℕ, ◌+◌, ◌≤◌, ◌<◌, true, false, ◌≡◌}
use Rattle.record.specs.declared.History.{History}
use Rattle.record.specs.Levels.{intervals_at, children_at, last_end_at}
use Rattle.record.specs.Sound.{last_time}
use Rattle.record.specs.Firm.{Firm}
use Rattle.settle.specs.declared.Plan.{Plan}

-- the same history: what no storing changes
pub record Alike (h g : History) : Type 0 where
  pub shape : g.shape ≡ h.shape
  pub start : g.start ≡ h.start
  pub latest : g.latest ≡ h.latest
  pub attributes : g.attributes ≡ h.attributes
  pub finished : g.finished ≡ h.finished

-- n levels can close, from the lowest up; the last may be the root, with depth and room for a new one
pub record Climbing (h : History) (n : ℕ) : Type 0 where
  pub firm : Firm h
  pub reach : h.low + n ≤ h.top + 1
  pub root : h.low + n ≡ h.top + 1 → (h.top < 15) × (h.used < h.shape.n)

-- a node can be made at each of the n levels below the lowest open one
pub record Descending (h : History) (n : ℕ) : Type 0 where
  pub firm : Firm h
  pub low : h.low ≡ n
  pub fewer : 0 < n → children_at h.branch n < h.shape.c
  pub room : h.used + n ≤ h.shape.n

-- a chain can hang below level n
pub record Hanging (h : History) (n : ℕ) : Type 0 where
  pub some : 0 < n
  pub last : last_end_at h.branch n ≤ last_time
  pub down : Descending h n

-- all that had to close is closed: the plan's level is open, and may grow the chain or store
pub record Landed (h : History) (p : Plan) : Type 0 where
  pub firm : Firm h
  pub above : h.low ≤ p.level
  pub below : p.level ≤ h.top
  pub chain : p.chain ≡ true → Hanging h p.level
  pub here : p.chain ≡ false → intervals_at h.branch p.level < h.shape.k
