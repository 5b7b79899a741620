-- Each way through a record. Assumes nothing.
use mathlib.Core.Path.{◌≡◌, refl, sym, ap, ◌∙◌}
use mathlib.Core.Bool.{Bool, true, false, cond, ◌||◌}
use mathlib.Core.List.{List}
use lib.ListN.{length}
use Prim.Native.Nat.{ℕ}
use Rattle.std.specs.Prelude.{Ok, Err, is_ok}
use Rattle.feed.specs.declared.Record.{Record}
use Rattle.feed.specs.declared.Record.TheVariants.{Open, Set, Remove, Increment, Add, Finish, Single, Full}
use Rattle.record.specs.declared.History.{History}
use Rattle.record.specs.Refusals.{Reply, Nothing, NotOpen, accepted}
use Rattle.layout.specs.declared.Shape.{Shape}
use Rattle.build.specs.Write.{planted}
use Rattle.calls.specs.Outcome.{Answer, Outcome, Comes, answered, outcome, or_refused}
use Rattle.calls.specs.Open.{blank, opened, table_opened, open_refusal, open_on, open_of}
use Rattle.history.specs.Step.{State, Said, leaving, done, holding, opened_by, opens, called, carried, after, after_open}

pub ok_accepted : (r : Reply) → is_ok r ≡ accepted r
ok_accepted (Ok u) = refl
ok_accepted (Err r) = refl

-- an opening that is refused changes nothing
module _ (s : State) (a : Answer) where
  pub open_refused : accepted a.refusal ≡ false → done s (Said a.refusal) ≡ opened_by s a
  unfolding opened_by
  open_refused e = ap (λ (b : Bool). done (cond b (holding a.history) s) (Said a.refusal)) (sym e)

-- what the record of a refused opening held is of no matter
came_no_matter : (s : State) (came : History) (start attributes : ℕ) (shape : Shape) (nodes table answer : List ℕ)
    → after_open s (open_on came start attributes shape nodes table) answer ≡ after_open s (open_of start attributes shape nodes table) answer
unfolding after_open opened_by open_of open_on
came_no_matter s came start attributes shape nodes table answer = go (open_refusal start attributes shape (length nodes) (length table))
  where
    done : Outcome
    done = outcome (answered Nothing (opened start attributes shape)) (planted (opened start attributes shape) nodes) (table_opened start attributes 0 table)

    go : (r : Reply) → after_open s (or_refused r came nodes table done) answer ≡ after_open s (or_refused r blank nodes table done) answer
    go (Ok u) = refl
    go (Err r) = refl

module _ (said : Reply) (h : History) (left rows answer : List ℕ) (o : Outcome) (is : Comes said h left rows o) where
  -- any other call
  pub did : leaving (done (holding h) (Said said)) left rows answer ≡ after o answer
  unfolding after
  did = ap (λ (x : Outcome). after x answer) is

-- an opening: what is open after it is the record left, or what was
pub began : (said : Reply) (h came : History) (start attributes : ℕ) (shape : Shape) (nodes table left rows : List ℕ) → Comes said h left rows (open_on came start attributes shape nodes table)
    → (s t : State) (b : Bool) → b ≡ is_ok said → cond b (holding h) s ≡ t → (answer : List ℕ) → leaving (done t (Said said)) left rows answer ≡ after_open s (open_of start attributes shape nodes table) answer
unfolding after_open opened_by
began said h came start attributes shape nodes table left rows is s t b tells e answer =
    rw (← e, tells, ok_accepted said) (ap (λ (x : Outcome). after_open s x answer) is ∙ came_no_matter s came start attributes shape nodes table answer)

-- 15, or what the record asks for
module _ (r : Record) (s : State) (nodes table answer : List ℕ) where
  pub not_open : opens r || s.opened ≡ false → carried r s nodes table answer ≡ leaving (done s (Said NotOpen)) nodes table answer
  unfolding carried
  not_open e = ap (λ (b : Bool). cond b (called r s nodes table answer) (leaving (done s (Said NotOpen)) nodes table answer)) e

  pub is_open : opens r || s.opened ≡ true → carried r s nodes table answer ≡ called r s nodes table answer
  unfolding carried
  is_open e = ap (λ (b : Bool). cond b (called r s nodes table answer) (leaving (done s (Said NotOpen)) nodes table answer)) e

-- a record that is not of tag 1
pub not_opening : (r : Record) → ((start attributes k c n : ℕ) → r ≡ Open start attributes k c n → ⊥) → opens r ≡ false
unfolding opens
not_opening (Open start attributes k c n) never = absurd (never start attributes k c n refl)
not_opening (Set t q v) never = refl
not_opening (Remove t q) never = refl
not_opening (Increment t q) never = refl
not_opening Add never = refl
not_opening (Finish t) never = refl
not_opening (Single t q) never = refl
not_opening (Full t) never = refl
