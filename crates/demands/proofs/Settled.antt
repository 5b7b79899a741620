-- "any two outcomes allowed by it are shown equal": one law for an equation, one for a call's promise, one for what each question says; each cited where a public function has such a promise. Assumes nothing.
use mathlib.Core.Bool.{false≢true}
use mathlib.Core.Path.{◌≡◌, refl, sym, ap, ◌∙◌}
use Prim.Native.Nat.{ℕ}
use mathlib.Core.List.{List}
use Rattle.std.specs.Prelude.{Option, Some, None, Result, Ok, Err}
use Rattle.record.specs.declared.Refusal.{Refusal}
use Rattle.record.specs.Refusals.{Reply, accepted}
use Rattle.calls.specs.Outcome.{Outcome}
use Rattle.calls.proofs.Kept.{comes_once}
use Rattle.questions.specs.declared.Answer.{Answer}
use Rattle.questions.specs.Single.{Single, said, refused_single}
use Rattle.full_question.specs.Full.{Full, said_all, refused_full}
use Rattle.feed.specs.declared.Record.{Record}
use Rattle.feed.specs.declared.Reading.{Reading}
use Rattle.feed.specs.Feed.{GoesOn}
use Rattle.demands.specs.Demands.{Settles, EquationSettles, Promised, Settled}

pub equal : EquationSettles
equal A z x y e f = e ∙ sym f

module _ {A B : Type 0} where
  abbrev pair : A → B → A × B
  pair a b = (a, b)

  -- one that is two equations
  both : (a : A) (b : B) (x y : A × B) → (x.0 ≡ a) × (x.1 ≡ b) → (y.0 ≡ a) × (y.1 ≡ b) → x ≡ y
  both a b x y e f = ap (λ (z : A). pair z x.1) (e.0 ∙ sym f.0) ∙ ap (pair y.0) (e.1 ∙ sym f.1)

-- a call's
call : (o : Outcome) → Settles (Promised o)
call o x y e f =
    let g = comes_once o x.refusal y.refusal x.history y.history x.nodes y.nodes x.table y.table e f in
    λ i. record { refusal = g.0 i; history = g.1 i; nodes = g.2 i; table = g.3 i }

-- what a question says tells what it returned
single_once : (x y : Result Answer Refusal) → said x ≡ said y → x ≡ y
unfolding said refused_single
single_once (Ok a) (Ok b) e = ap (λ (z : Single). Ok (record { nodes = z.nodes; entry = z.entry })) e
single_once (Ok a) (Err s) e = absurd (false≢true (sym (ap (λ (z : Single). accepted z.refusal) e)))
single_once (Err r) (Ok b) e = absurd (false≢true (ap (λ (z : Single). accepted z.refusal) e))
single_once (Err r) (Err s) e = let same : ◌≡◌ {A = Reply} (Err r) (Err s) = ap (λ (z : Single). z.refusal) e in cc

full_once : (x y : Result ℕ Refusal) → said_all x ≡ said_all y → x ≡ y
unfolding said_all refused_full
full_once (Ok n) (Ok m) e = ap (λ (z : Full). Ok z.nodes) e
full_once (Ok n) (Err s) e = absurd (false≢true (sym (ap (λ (z : Full). accepted z.refusal) e)))
full_once (Err r) (Ok m) e = absurd (false≢true (ap (λ (z : Full). accepted z.refusal) e))
full_once (Err r) (Err s) e = let same : ◌≡◌ {A = Reply} (Err r) (Err s) = ap (λ (z : Full). z.refusal) e in cc

-- a reader's step: what comes, the feed and the next place
abbrev stepped : Option (Result Record Refusal) → List ℕ → ℕ → Option (Result Record Refusal) × List ℕ × ℕ
stepped r k q = (r, k, q)

step : (l : List ℕ) (p : ℕ) (r s : Option (Result Record Refusal)) (k m : List ℕ) (q n : ℕ) → GoesOn l p r k q → GoesOn l p s m n → stepped r k q ≡ stepped s m n
step l p None None k m q n e f = cc
step l p None (Some y) k m q n e f = cc
step l p (Some x) None k m q n e f = cc
step l p (Some x) (Some y) k m q n e f =
    let same : ◌≡◌ {A = Reading} (record { what = x; next = q }) (record { what = y; next = n }) = cc in
    let item : x ≡ y = ap (λ (z : Reading). z.what) same in
    let place : q ≡ n = ap (λ (z : Reading). z.next) same in
    cc

pub settled : Settled
settled = record {
  opening = λ start attributes shape h nodes table. call _;
  set = λ h t q v nodes table. call _;
  remove = λ h t q nodes table. call _;
  increment = λ h t q nodes table. call _;
  add = λ h nodes table. call _;
  finish = λ h t nodes table. call _;
  single = λ h t q nodes table x y e f. single_once x y (e ∙ sym f);
  full = λ h t nodes table b x y e f. both y.0 y.1 x y (full_once x.0 y.0 (e.0 ∙ sym f.0), e.1 ∙ sym f.1) (refl, refl);
  history_single = λ v t q nodes b. both _ _;
  history_full = λ v t nodes b. both _ _;
  record_at = λ l p. equal _ _;
  next = λ l p x y. step l p x.0 y.0 x.1 y.1 x.2 y.2;
  moved = λ l p. both _ _;
}
