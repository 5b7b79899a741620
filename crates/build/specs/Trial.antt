-- A plan carried out on the record alone: what finish tries before it writes.
use Rattle.std.specs.Prelude.{ℕ, zero, suc, ◌+◌, cond, ltb}
use Rattle.record.specs.declared.History.{History}
use Rattle.record.specs.Refusals.{Reply, Nothing, accepted}
use Rattle.record.specs.Levels.{last_end_at}
use Rattle.record.specs.Moves.{closed, raised, made, stored, stretched}
use Rattle.settle.specs.declared.Plan.{Plan}
use Rattle.settle.specs.Settle.{settle, plan_refusal}

unfoldable pub rise_on : History → History
rise_on h = cond (ltb h.low h.top) (closed h) (raised h)

unfoldable pub climb_on : ℕ → History → History
climb_on zero h = h
climb_on (suc n) h = climb_on n (rise_on h)

unfoldable pub descend_on : ℕ → ℕ → History → History
descend_on a zero h = h
descend_on a (suc n) h = descend_on a n (made h a n)

-- "all starting one after that last end, and store in the lowest"
abbrev pub chain_on : ℕ → History → History
chain_on l h = stored (descend_on (last_end_at h.branch l + 1) l h) 0

unfoldable pub placed_on : Plan → History → History
placed_on p h = cond p.chain (chain_on p.level h) (stored h p.level)

-- the record after an interval with this end is stored by the plan
unfoldable pub planned : Plan → ℕ → History → History
planned p end h = placed_on p (stretched (climb_on p.closes h) end)

-- What storing an interval comes to: refused, with the record as it came, or the record after it.
pub record Tried : Type 0 where
  pub refusal : Reply
  pub history : History

-- An interval from s to end tried on the record.
unfoldable pub tried : History → ℕ → ℕ → Tried
tried h s end =
    let p = settle h s in
    cond (accepted (plan_refusal h p)) (record { refusal = Nothing; history = planned p end h }) (record { refusal = plan_refusal h p; history = h })
