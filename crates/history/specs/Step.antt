-- One record of a feed. Document 01, "The feed and the program": which call or question a record asks for, and what it leaves.
use Rattle.std.specs.Prelude.{ℕ, ◌*◌, ◌≤◌, Bool, true, false, cond, ◌||◌, ◌≡◌, List, length, Option, None, Some}
use Rattle.layout.specs.Layout.{entry_size}
use Rattle.record.specs.declared.History.{History}
use Rattle.record.specs.Refusals.{Reply, Nothing, NotOpen, accepted}
use Rattle.transient.specs.declared.Change.TheVariants as Change
use Rattle.feed.specs.declared.Record.{Record}
use Rattle.feed.specs.declared.Record.TheVariants.{Open, Set, Remove, Increment, Add, Finish, Single as Asked, Full}
use Rattle.calls.specs.Outcome.{Answer, Outcome}
use Rattle.calls.specs.Open.{blank, open_of}
use Rattle.calls.specs.Change.{change_of}
use Rattle.calls.specs.Add.{add_of}
use Rattle.calls.specs.Finish.{finish_of}
use Rattle.questions.specs.Single.{Single, said, single_of}
use Rattle.full_question.specs.Full.{Full as Whole, said_all, full_of, full_written}
use Rattle.history.specs.declared.step.Shown as Code
use Rattle.history.specs.declared.step.Shown.TheVariants as C

-- ═══ What a record leaves ═══

-- what there is to show of an answer
pub data Shown : Type 0 where
  Said : Reply → Shown
  One : Single → Shown
  All : Whole → Shown

-- the history, once an opening was accepted
pub record State : Type 0 where
  pub opened : Bool
  pub history : History

-- the history and what is shown of the answer
pub record Done : Type 0 where
  pub state : State
  pub shown : Shown

-- the history with what is shown of the answer, and every byte of the three buffers
pub record Carried : Type 0 where
  pub done : Done
  pub nodes : List ℕ
  pub table : List ℕ
  pub answer : List ℕ

abbrev pub leaving : Done → List ℕ → List ℕ → List ℕ → Carried
leaving d nodes table answer = record { done = d; nodes = nodes; table = table; answer = answer }

abbrev pub done : State → Shown → Done
done s x = record { state = s; shown = x }

-- ═══ As the program keeps it: the history that is open, if one is ═══

-- before the first record nothing is open
abbrev pub unopened : State
unopened = record { opened = false; history = blank }

abbrev pub holding : History → State
holding h = record { opened = true; history = h }

abbrev pub state_in : Option History → State
state_in None = unopened
state_in (Some h) = holding h

abbrev pub shown_in : Code.Shown → Shown
shown_in (C.Said r) = Said r
shown_in (C.One a) = One (said a)
shown_in (C.All a) = All (said_all a)

-- the promise: what is left is what the definition says
abbrev pub Leaves : Code.Shown → Option History → List ℕ → List ℕ → List ℕ → Carried → Type 0
Leaves x current nodes table answer y = leaving (done (state_in current) (shown_in x)) nodes table answer ≡ y

-- ═══ What each answer leaves open ═══

-- a call's record and its answer number
abbrev pub done_by : Answer → Done
done_by a = done (holding a.history) (Said a.refusal)

-- "A second open starts anew; refused, it changes nothing."
unfoldable pub opened_by : State → Answer → Done
opened_by s a = done (cond (accepted a.refusal) (holding a.history) s) (Said a.refusal)

-- a call writes what it says of itself, and no answer of a full question
unfoldable pub after : Outcome → List ℕ → Carried
after o answer = leaving (done_by o.answer) o.nodes o.table answer

unfoldable pub after_open : State → Outcome → List ℕ → Carried
after_open s o answer = leaving (opened_by s o.answer) o.nodes o.table answer

-- ═══ A record ═══

-- what each record does, once it may
unfoldable pub called : Record → State → List ℕ → List ℕ → List ℕ → Carried
-- "1 open: start u64, attributes u32, K u16, C u16, N u32."
called (Open start attributes k c n) s nodes table answer = after_open s (open_of start attributes (record { k = k; c = c; n = n }) nodes table) answer
-- "2 set: t u64, quark u32, value i64."
called (Set t q v) s nodes table answer = after (change_of s.history t q (Change.Set v) nodes table) answer
-- "3 remove and 4 increment: t, quark."
called (Remove t q) s nodes table answer = after (change_of s.history t q Change.Remove nodes table) answer
called (Increment t q) s nodes table answer = after (change_of s.history t q Change.Increment nodes table) answer
-- "5 add: empty."
called Add s nodes table answer = after (add_of s.history nodes table) answer
-- "6 finish: t."
called (Finish t) s nodes table answer = after (finish_of s.history t nodes table) answer
-- "7 single: t, quark.": a question changes no history
called (Asked t q) s nodes table answer = leaving (done s (One (single_of s.history t q nodes table))) nodes table answer
-- "8 full: t."
called (Full t) s nodes table answer = leaving (done s (All (full_of s.history t nodes table (length answer)))) nodes table (full_written s.history t nodes table answer)

-- tag 1
unfoldable pub opens : Record → Bool
opens (Open start attributes k c n) = true
opens (Set t q v) = false
opens (Remove t q) = false
opens (Increment t q) = false
opens Add = false
opens (Finish t) = false
opens (Asked t q) = false
opens (Full t) = false

-- "15 no history open, tags 2 to 8": such a record changes nothing
unfoldable pub carried : Record → State → List ℕ → List ℕ → List ℕ → Carried
carried r s nodes table answer = cond (opens r || s.opened) (called r s nodes table answer) (leaving (done s (Said NotOpen)) nodes table answer)

-- ═══ What is shown ═══

-- where a full question is accepted, there is an entry for each attribute in n bytes
unfoldable pub EntriesOf : Shown → ℕ → ℕ → Type 0
EntriesOf (Said r) attributes n = Unit {0}
EntriesOf (One x) attributes n = Unit {0}
EntriesOf (All f) attributes n = f.refusal ≡ Nothing → attributes * entry_size ≤ n

abbrev pub Entries : Done → ℕ → Type 0
Entries d n = EntriesOf d.shown d.state.history.attributes n
