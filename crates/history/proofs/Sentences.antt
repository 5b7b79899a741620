-- What the specification says of 15 and of a second open, as theorems about `carried`. Assumes nothing.
use Prim.Native.Nat.{ℕ}
use mathlib.Core.Path.{◌≡◌, refl, sym, ap, ◌∙◌}
use mathlib.Core.Bool.{Bool, true, false, cond, ◌||◌}
use mathlib.Core.List.{List}
use lib.ListN.{length}
use Rattle.layout.specs.declared.Shape.{Shape}
use Rattle.record.specs.Refusals.{Reply, accepted}
use Rattle.record.specs.Refusals as R
use Rattle.build.specs.Write.{planted}
use Rattle.feed.specs.declared.Record.{Record}
use Rattle.feed.specs.declared.Record.TheVariants.{Open}
use Rattle.calls.specs.Outcome.{Outcome, answered, outcome}
use Rattle.calls.specs.Open.{blank, opened, table_opened, open_refusal, open_on, open_of}
use Rattle.calls.proofs.Refused.{comes_refused}
use Rattle.history.specs.Step.{State, Said, Done, leaving, done, opened_by, after, after_open, opens, called, carried}
use Rattle.history.proofs.Records.{open_refused}

module _ (s : State) (nodes table answer : List ℕ) where
  -- "15 no history open, tags 2 to 8"
  pub none_open : (r : Record) → opens r ≡ false → s.opened ≡ false → carried r s nodes table answer ≡ leaving (done s (Said R.NotOpen)) nodes table answer
  unfolding carried
  none_open r e f =
      ap (λ (b : Bool). cond b (called r s nodes table answer) (leaving (done s (Said R.NotOpen)) nodes table answer)) (ap (λ (x : Bool). x || s.opened) e ∙ f)

  module _ (start attributes k c n : ℕ) where
    abbrev shape : Shape
    shape = record { k = k; c = c; n = n }

    abbrev said : Reply
    said = open_refusal start attributes shape (length nodes) (length table)

    -- "refused, it changes nothing"
    pub second_refused : accepted said ≡ false → carried (Open start attributes k c n) s nodes table answer ≡ leaving (done s (Said said)) nodes table answer
    unfolding carried opens called after_open open_of open_on
    second_refused e =
        ap (λ (x : Outcome). after_open s x answer) (sym (comes_refused said said refl blank nodes table _ e))
        ∙ ap (λ (x : Done). leaving x nodes table answer) (sym (open_refused s (answered said blank) e))

    -- "A second open starts anew": what was open before is of no matter
    pub second_anew : accepted said ≡ true → carried (Open start attributes k c n) s nodes table answer ≡ after (open_of start attributes shape nodes table) answer
    unfolding carried opens called after_open opened_by after open_of open_on
    second_anew e =
        let h = opened start attributes shape in
        let new = outcome (answered R.Nothing h) (planted h nodes) (table_opened start attributes 0 table) in
        let is : open_of start attributes shape nodes table ≡ new = ap (λ (b : Bool). cond b new (outcome (answered said blank) nodes table)) e in
        ap (λ (x : Outcome). after_open s x answer) is ∙ sym (ap (λ (x : Outcome). after x answer) is)
