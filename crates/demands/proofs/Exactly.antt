-- "Each number is given exactly then": every call's answer is the first of its tests that holds. Assumes nothing.
use Prim.Native.Nat.{ℕ, zero, suc, ◌+◌, ◌<◌}
use mathlib.Core.Bool.{Bool, true, false, cond, not}
use mathlib.Core.Path.{◌≡◌, refl, sym, ap, ◌∙◌}
use mathlib.Core.List.{List, [], ◌∷◌}
use lib.Dec.{ltb}
use lib.ListN.{length, get_or}
use borrow.Author.Tests.{lt-leb}
use Rattle.std.specs.Prelude.{Ok, Err}
use Rattle.record.specs.declared.Refusal.TheVariants as V
use Rattle.layout.specs.declared.Quark.{Quark}
use Rattle.record.specs.declared.History.{History}
use Rattle.record.specs.Refusals.{Reply, number_of, first_of, accepted}
use Rattle.record.specs.Refusals as R
use Rattle.transient.specs.declared.Change.{Change}
use Rattle.transient.specs.declared.Change.TheVariants.{Set, Remove, Increment}
use Rattle.transient.specs.Transient.{ongoing_at}
use Rattle.settle.specs.declared.Plan.{Plan}
use Rattle.settle.specs.Settle.{settle, too_deep, no_room, plan_refusal}
use Rattle.build.specs.Trial.{Tried, planned, tried}
use Rattle.calls.specs.Outcome.{Outcome}
use Rattle.calls.specs.Open.{open_refusal, open_of}
use Rattle.calls.specs.Change.{change_tests, change_refusal}
use Rattle.calls.specs.Add.{add_refusal, add_of}
use Rattle.calls.specs.Finish.{trial, finish_refusal, finish_of}
use Rattle.calls.proofs.Exactly.{exactly as exactly-of}
use Rattle.record.proofs.Said.{accepted_nothing}
use Rattle.calls.proofs.Kept.{open_says, change_says, add_says, finish_says}
use Rattle.walk.specs.View.{view_of}
use Rattle.walk.specs.Walk.{walk_of}
use Rattle.questions.specs.Single.{Single, refused_single, table_entry, told_entry, from_table, single_answer, single_refusal, single_of}
use Rattle.full_question.specs.Full.{full_refusal, full_of}
use Rattle.feed.specs.Feed.{payload_at, longest, tag_known, length_allowed, tag_at, size_at, whole_at, reading, reading_at}
use Rattle.demands.specs.Runs.{Call, opening, set, remove, increment, add, finish, single, full, State, Answer, says, quark, if_begun, follows, changed, told, answered as asks, step}
use Rattle.demands.specs.Tests.{each_tests, after_open, tests_of, feed_tests}
use Rattle.demands.specs.Demands.{ListExactly, Exactly, FeedExactly, NumbersDiffer, refusal_of}

pub list_exactly : ListExactly
list_exactly = exactly-of

pub single_fine : (h : History) (t q : ℕ) (nodes table : List ℕ) → (single_answer (view_of h) t q nodes table).refusal ≡ R.Nothing
unfolding single_answer
single_fine h t q nodes table = go (from_table (view_of h) t q table)
  where
    go : (b : Bool) → (cond {A = Single} b (record { refusal = R.Nothing; nodes = 0; entry = table_entry q table }) (record {
      refusal = R.Nothing;
      nodes = (walk_of nodes (view_of h) t).entered;
      entry = told_entry (view_of h) t q nodes;
    })).refusal ≡ R.Nothing
    go true = refl
    go false = refl

pub single_said : (h : History) (t : ℕ) (q : Quark) (nodes table : List ℕ) → (single_of h t q nodes table).refusal ≡ single_refusal h t q.0 nodes table
unfolding single_of refused_single
single_said h t q nodes table = go (single_refusal h t q.0 nodes table) (accepted (single_refusal h t q.0 nodes table)) refl
  where
    go : (r : Reply) (b : Bool) → accepted r ≡ b → (cond b (single_answer (view_of h) t q.0 nodes table) (refused_single r)).refusal ≡ r
    go r true a = single_fine h t q.0 nodes table ∙ sym (accepted_nothing r a)
    go r false a = refl

-- ---- finish: the trial as a list of tests

tried_first : (h : History) (p : Plan) (end : ℕ) (rest : History → Reply) (a b : Bool) → too_deep p ≡ a → no_room h p ≡ b
    → let r : Tried = cond (accepted (plan_refusal h p)) (record { refusal = R.Nothing; history = planned p end h }) (record { refusal = plan_refusal h p; history = h }) in
    cond (accepted r.refusal) (rest r.history) r.refusal ≡ cond (too_deep p) R.Deep (cond (no_room h p) R.NoRoom (rest (planned p end h)))
unfolding plan_refusal
tried_first h p end rest true b e f = simp e
tried_first h p end rest false true e f = simp (e, f)
tried_first h p end rest false false e f = simp (e, f)

trial_first : (n q : ℕ) (table : List ℕ) (t : ℕ) (h : History) → trial n q table t h ≡ first_of (each_tests n q table t h)
unfolding trial each_tests tried
trial_first zero q table t h = refl
trial_first (suc n) q table t h =
    let p = settle h (ongoing_at table q).start in
    tried_first h p t (λ g. trial n (q + 1) table t g) (too_deep p) (no_room h p) refl refl
    ∙ ap (λ (x : Reply). cond (too_deep p) R.Deep (cond (no_room h p) R.NoRoom x)) (trial_first n (q + 1) table t (planned p t h))

-- ---- every call

module _ (σ : State) where
  -- "15 no history open"
  begun_said : (b : Bool) (done : State × Answer) (r : Reply) → done.1.refusal ≡ r → (cond b done (σ, says R.NotOpen)).1.refusal ≡ cond (not b) R.NotOpen r
  begun_said true done r e = e
  begun_said false done r e = refl

  anew_said : (o : Outcome) (b : Bool) → (cond b (follows σ o) (σ, says o.answer.refusal)).1.refusal ≡ o.answer.refusal
  anew_said o true = refl
  anew_said o false = refl

  changes_said : (t q : ℕ) (what : Change) → (if_begun σ (changed σ t q what)).1.refusal ≡ first_of (after_open σ (change_tests σ.history t (quark q) what σ.nodes σ.table))
  unfolding change_refusal
  changes_said t q what = begun_said σ.begun (changed σ t q what) _ (change_says σ.history t (quark q) what σ.nodes σ.table)

  pub step_said : (c : Call) → (step c σ).1.refusal ≡ first_of (tests_of c σ)
  unfolding step tests_of open_refusal add_refusal finish_refusal single_refusal full_of full_refusal
  step_said (opening start attributes shape) =
      let o = open_of start attributes shape σ.nodes σ.table in
      anew_said o (accepted o.answer.refusal) ∙ open_says start attributes shape σ.nodes σ.table
  step_said (set t q v) = changes_said t q (Set v)
  step_said (remove t q) = changes_said t q Remove
  step_said (increment t q) = changes_said t q Increment
  step_said add = begun_said σ.begun (follows σ (add_of σ.history σ.nodes σ.table)) _ (add_says σ.history σ.nodes σ.table)
  step_said (finish t) = begun_said σ.begun (follows σ (finish_of σ.history t σ.nodes σ.table)) _
      (finish_says σ.history t σ.nodes σ.table ∙ rw (trial_first σ.history.attributes 0 σ.table t σ.history))
  step_said (single t q) = begun_said σ.begun (told σ t q) _ (single_said σ.history t (quark q) σ.nodes σ.table)
  step_said (full t) = begun_said σ.begun (asks σ t) _ refl

pub exactly : Exactly
exactly c σ r =
    let e = step_said σ c in
    let l = list_exactly (tests_of c σ) r in
    record { to = λ x. l.to (sym e ∙ x); from = λ g. e ∙ l.from g }

-- ---- the feed

feed_said : (l : List ℕ) (p : ℕ) → p < length l → refusal_of (reading_at l p) ≡ first_of (feed_tests l p)
unfolding reading_at whole_at
feed_said l p lt =
    rw (lt-leb (length l) p lt) (go (ltb longest (length l)) (ltb (length l) (p + 3 + size_at l p)) (tag_known (tag_at l p)) (length_allowed (tag_at l p) (size_at l p)))
  where
    go : (a b c d : Bool) → refusal_of (cond a (reading (Err V.LongFeed) (length l)) (cond b (reading (Err V.Cut) (length l))
        (reading (cond (not c) (Err V.NoTag) (cond (not d) (Err V.WrongLength) (Ok (payload_at l (tag_at l p) (p + 3))))) (p + 3 + size_at l p))))
        ≡ cond a R.LongFeed (cond b R.Cut (cond (not c) R.NoTag (cond (not d) R.WrongLength R.Nothing)))
    go true b c d = refl
    go false true c d = refl
    go false false false d = refl
    go false false true false = refl
    go false false true true = refl

pub feed_exactly : FeedExactly
feed_exactly l p lt r =
    let e = feed_said l p lt in
    let x = list_exactly (feed_tests l p) r in
    record { to = λ y. x.to (sym e ∙ y); from = λ g. e ∙ x.from g }

-- ---- numbers

-- the answers in the order of their numbers
answers : List Reply
answers =
    R.Nothing ∷ R.Numbers ∷ R.Short ∷ R.Damaged ∷ R.Finished ∷ R.Early ∷ R.Outside ∷ R.NoQuark ∷ R.TableFull ∷ R.Top ∷ R.Deep ∷ R.NoRoom ∷ R.NoTag ∷ R.WrongLength ∷ R.Cut
    ∷ R.NotOpen ∷ R.LongFeed ∷ []

back : (r : Reply) → get_or answers (number_of r) R.Nothing ≡ r
unfolding answers number_of
back (Ok u) = refl
back (Err V.Numbers) = refl
back (Err V.Short) = refl
back (Err V.Damaged) = refl
back (Err V.Finished) = refl
back (Err V.Early) = refl
back (Err V.Outside) = refl
back (Err V.NoQuark) = refl
back (Err V.TableFull) = refl
back (Err V.Top) = refl
back (Err V.Deep) = refl
back (Err V.NoRoom) = refl
back (Err V.NoTag) = refl
back (Err V.WrongLength) = refl
back (Err V.Cut) = refl
back (Err V.NotOpen) = refl
back (Err V.LongFeed) = refl

pub numbers_differ : NumbersDiffer
numbers_differ a b e = sym (back a) ∙ ap (λ (n : ℕ). get_or answers n R.Nothing) e ∙ back b
