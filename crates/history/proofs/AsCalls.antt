-- The program does with a record what a run does with the call. Assumes nothing.
use Prim.Native.Nat.{ℕ}
use mathlib.Core.Path.{◌≡◌, refl, sym, ap, ◌∙◌}
use mathlib.Core.Bool.{Bool, true, false}
use mathlib.Core.List.{List}
use Rattle.layout.specs.declared.Shape.{Shape}
use Rattle.record.specs.declared.History.{History}
use Rattle.record.specs.Refusals.{accepted}
use Rattle.feed.specs.declared.Record.{Record}
use Rattle.feed.specs.declared.Record.TheVariants.{Open, Set, Remove, Increment, Add, Finish, Single, Full}
use Rattle.calls.specs.Outcome.{Outcome}
use Rattle.calls.specs.Open.{open_of}
use Rattle.calls.proofs.Kept.{open_says, open_kept}
use Rattle.demands.specs.Runs as R
use Rattle.demands.specs.Runs.{step, anew, says}
use Rattle.demands.specs.Feeds.{call_of}
use Rattle.history.specs.Step.{State, opened_by, after, after_open, opens, called, carried}
use Rattle.history.specs.Calls.{state_of, seen, RecordsAreCalls}

abbrev pair : R.State → R.Answer → R.State × R.Answer
pair σ a = (σ, a)

-- an opening's outcome, which leaves the buffers as they came where it is refused
open_same : (s : State) (nodes table answer : List ℕ) (o : Outcome) (b : Bool) → accepted o.answer.refusal ≡ b → (b ≡ false → (o.nodes ≡ nodes) × (o.table ≡ table))
    → anew (state_of s nodes table answer) o ≡ seen (after_open s o answer)
unfolding after_open opened_by
open_same s nodes table answer o true e kept = rw e
open_same s nodes table answer o false e kept =
    rw e
    (ap (λ (x : List ℕ). pair (state_of s x table answer) (says o.answer.refusal)) (sym (kept refl).0)
    ∙ ap (λ (x : List ℕ). pair (state_of s o.nodes x answer) (says o.answer.refusal)) (sym (kept refl).1))

same : (b : Bool) (h : History) (nodes table answer : List ℕ) (r : Record)
    → let s : State = record { opened = b; history = h } in step (call_of r) (state_of s nodes table answer) ≡ seen (carried r s nodes table answer)
unfolding step carried opens called after
same b h nodes table answer (Open start attributes k c n) =
    let shape : Shape = record { k = k; c = c; n = n } in
    let o = open_of start attributes shape nodes table in
    open_same (record { opened = b; history = h }) nodes table answer o (accepted o.answer.refusal) refl
    (λ e.
    let k = open_kept start attributes shape nodes table (ap accepted (sym (open_says start attributes shape nodes table)) ∙ e) in
    (ap (λ (x : Outcome). x.nodes) k, ap (λ (x : Outcome). x.table) k))
same true h nodes table answer (Set t q v) = refl
same false h nodes table answer (Set t q v) = refl
same true h nodes table answer (Remove t q) = refl
same false h nodes table answer (Remove t q) = refl
same true h nodes table answer (Increment t q) = refl
same false h nodes table answer (Increment t q) = refl
same true h nodes table answer Add = refl
same false h nodes table answer Add = refl
same true h nodes table answer (Finish t) = refl
same false h nodes table answer (Finish t) = refl
same true h nodes table answer (Single t q) = refl
same false h nodes table answer (Single t q) = refl
same true h nodes table answer (Full t) = refl
same false h nodes table answer (Full t) = refl

pub records_are_calls : RecordsAreCalls
records_are_calls r s nodes table answer = same s.opened s.history nodes table answer r
