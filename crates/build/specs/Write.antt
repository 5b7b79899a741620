-- A plan carried out on record and nodes; opening; closing all.
use Rattle.std.specs.Prelude.{ℕ, zero, suc, ◌+◌, cond, List, ltb, None}
use Rattle.layout.specs.declared.Entry.{Entry}
use Rattle.record.specs.declared.History.{History}
use Rattle.record.specs.Refusals.{accepted}
use Rattle.record.specs.Levels.{last_end_at}
use Rattle.record.specs.Moves.{stretched}
use Rattle.settle.specs.declared.Plan.{Plan}
use Rattle.settle.specs.Settle.{settle, plan_refusal}
use Rattle.build.specs.Moves.{Held, put_head, put_new, close, raise, make, store}

-- one level less is open, or a new root is: the lowest closes
unfoldable pub rise : Held → Held
rise σ = cond (ltb σ.history.low σ.history.top) (close σ) (raise σ)

unfoldable pub climb : ℕ → Held → Held
climb zero σ = σ
climb (suc n) σ = climb n (rise σ)

-- "a chain of new nodes down to level 0, all starting" at a
unfoldable pub descend : ℕ → ℕ → Held → Held
descend a zero σ = σ
descend a (suc n) σ = descend a n (make a n σ)

-- S takes the interval's end when all that had to close is closed
unfoldable pub stretch : ℕ → Held → Held
stretch e σ = record { history = stretched σ.history e; nodes = σ.nodes }

-- "make a chain .. all starting one after that last end, and store in the lowest"
abbrev pub chained : Entry → ℕ → Held → Held
chained e l σ = store e 0 (descend (last_end_at σ.history.branch l + 1) l σ)

-- a chain, or store in the level itself
unfoldable pub placed : Entry → Plan → Held → Held
placed e p σ = cond p.chain (chained e p.level σ) (store e p.level σ)

unfoldable pub written : Entry → Plan → Held → Held
written e p σ = placed e p (stretch e.end (climb p.closes σ))

-- An interval stored, or nothing done where depth or room would not do.
unfoldable pub inserted : Entry → Held → Held
inserted e σ = let p = settle σ.history e.start in cond (accepted (plan_refusal σ.history p)) (written e p σ) σ

-- "then closes all open nodes with end T": n levels from l up
unfoldable pub close_all : History → ℕ → ℕ → ℕ → List ℕ → List ℕ
close_all h t zero l b = b
close_all h t (suc n) l b = close_all h t n (l + 1) (put_head h l t 2 b)

-- "Opening makes node 0: level 0, open, empty, starting at the history's start."
unfoldable pub planted : History → List ℕ → List ℕ
planted h b = put_new h 0 None b
