-- Where an interval goes: the build rule put to the record alone. Nothing changes here, so a refusal has nothing to undo.
use Rattle.std.specs.Prelude.{ℕ, zero, suc, ◌+◌, ◌-◌, Bool, true, false, cond, not, ◌&&◌, [], ◌∷◌, leb, ltb}
use Rattle.layout.specs.declared.Shape.{Shape}
use Rattle.record.specs.declared.Branch.{Branch}
use Rattle.record.specs.declared.History.{History}
use Rattle.record.specs.Refusals.{Reply, Deep, NoRoom, first_of}
use Rattle.record.specs.Levels.{start_at, intervals_at, children_at, last_end_at}
use Rattle.settle.specs.declared.Plan.{Plan}
use Rattle.settle.specs.declared.Verdict.{Verdict}
use Rattle.settle.specs.declared.Verdict.TheVariants.{Here, Chain, Close}

-- ═══ Rules 1 and 2 ═══

-- "if it has fewer than K intervals"
abbrev pub fits : Branch → Shape → ℕ → Bool
fits b sh l = ltb (intervals_at b l) sh.k

-- "1. If it is above level 0, has no open child, and s is after its last child's end: a child is due. With fewer than C children, make a chain of new nodes ..
-- With C children, close it. 2. Otherwise store in it if it has fewer than K intervals, else close it."
unfoldable pub ruled : Branch → Shape → ℕ → ℕ → Bool → ℕ → Verdict
ruled b sh s l child last =
    cond (not child && ltb 0 l && ltb last s) (cond (ltb (children_at b l) sh.c) Chain Close) (cond (fits b sh l) Here Close)

-- ═══ The question, from the lowest open node up ═══

-- What is to be done: close so many levels from the lowest up (one above the root is a new root), then make a chain below `level`, or store in it.
abbrev pub plan : ℕ → ℕ → Bool → Plan
plan closes level chain = record { closes = closes; level = level; chain = chain }

-- what a verdict on level l leads to, where n levels are to be closed before and `up` is what a close leads to
unfoldable pub followed : Verdict → ℕ → ℕ → Plan → Plan
followed Here l n up = plan n l false
followed Chain l n up = plan n l true
followed Close l n up = up

-- "Closing gives the node and all open nodes below it the end S. Then the same question is put again to the parent": it has no open child then, and its last
-- child's end is S. "If the root was closed, a new root is made first": it has one child, which ended at S, and no interval, so by rule 1 it grows a chain
-- where s is after S (1 is fewer than C), else by rule 2 it stores (0 is fewer than K). The first number is that of the open levels above l.
unfoldable pub ask_up : ℕ → History → ℕ → ℕ → Bool → ℕ → ℕ → Plan
ask_up zero h s l child last n = followed (ruled h.branch h.shape s l child last) l n (plan (l + 1 - h.low) (l + 1) (ltb h.largest_end s))
ask_up (suc left) h s l child last n =
    let up = ask_up left h s (l + 1) false h.largest_end (l + 1 - h.low) in followed (ruled h.branch h.shape s l child last) l n up

-- "take the lowest open node with start at or below s": from level l on, with so many above; the root, if no other
unfoldable pub lowest : ℕ → Branch → ℕ → ℕ → ℕ
lowest zero b s l = l
lowest (suc left) b s l = cond (leb (start_at b l) s) l (lowest left b s (l + 1))

-- rule 2 has it stored in the open level l, as it is
unfoldable pub taken : History → ℕ → ℕ → Bool
taken h s l = cond (not (ltb h.low l) && ltb 0 l && ltb (last_end_at h.branch l) s) false (fits h.branch h.shape l)

-- what is to be done to store an interval that starts at s
unfoldable pub settle : History → ℕ → Plan
settle h s = let l = lowest (h.top - h.low) h.branch s h.low in ask_up (h.top - l) h s l (ltb h.low l) (last_end_at h.branch l) 0

-- ═══ Depth and room ═══

-- "Depth and room count what the rule would need": the new root and the whole chain
unfoldable pub needed : ℕ → Plan → ℕ
needed top p = cond (ltb top p.level) 1 0 + cond p.chain p.level 0

-- the places left for new nodes
abbrev pub room : History → ℕ
room h = h.shape.n - h.used

-- "10 depth would pass 16"
abbrev pub too_deep : Plan → Bool
too_deep p = ltb 15 p.level

-- "11 nodes would pass N"
abbrev pub no_room : History → Plan → Bool
no_room h p = ltb (room h) (needed h.top p)

-- depth before room
unfoldable pub plan_refusal : History → Plan → Reply
plan_refusal h p = first_of ((too_deep p, Deep) ∷ (no_room h p, NoRoom) ∷ [])
