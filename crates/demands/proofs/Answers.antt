-- What the questions say after a sequence of calls: demand 2's values and intervals, demand 3's scans and tallies. Assumes nothing.
use Prim.Native.Nat.{ℕ, ◌/◌, ◌≤◌, ◌<◌}
use mathlib.Core.Bool.{Bool, true, false, cond}
use mathlib.Core.Path.{◌≡◌, refl, sym, ap, ◌∙◌}
use mathlib.Core.List.{List, [], ◌∷◌, ◌++◌, map, head-eq_of_cons-eq}
use native.Mathlib.Omega.{arith}
use lib.Dec.{ltb, eqb}
use lib.ListN.{length}
use lib.Seq.{sets}
use borrow.Author.Tests.{le-leb, lt-leb, eqb-true, ltb-false}
use Rattle.layout.specs.Layout.{entry_size, entry_bytes, spread}
use Rattle.record.specs.declared.History.{History}
use Rattle.record.specs.Refusals as R
use Rattle.record.specs.Refusals.{number_of}
use Rattle.questions.specs.Single.{Single, single_of}
use Rattle.full_question.specs.Full.{full_refusal, full_of, full_written}
use Rattle.model.specs.Transient as M
use Rattle.model.specs.Transient.{Interval, history}
use Rattle.model.specs.Nodes.{∞, Node, upto}
use Rattle.model.specs.Questions as Q
use Rattle.model.specs.Questions.{only, covers, ongoing, scan, scans, tally, said}
use Rattle.model.specs.Refusals.{refuse_single, refuse_full}
use Rattle.model.specs.Theorems as T
use Rattle.model.specs.Theorems.{left, made, all_said}
use Rattle.model.proofs.Onto.{step_start}
use Rattle.model.proofs.Tests.{and_both}
use Rattle.model.proofs.Proved.{value_said, full_said, single_scans, full_scans, single_enters, full_enters}
use Rattle.represents.specs.Represents.{entry_of}
use Rattle.represents.specs.Answered.{SingleAnswered, FullAnswered}
use Rattle.record.proofs.Said.{zero_nothing}
use Rattle.represents.proofs.OneAnswered.{single_answered}
use Rattle.represents.proofs.AllAnswered.{full_answered}
use Rattle.demands.specs.Runs.{single, full, State, Answer, says, quark, told, answered as asks, step}
use Rattle.demands.specs.Sequences.{Sequence, now, story}
use Rattle.demands.specs.Demands.{Between, NumbersSaid, SingleTells, FullTells, SingleScans, FullScans}
use Rattle.demands.proofs.Standing.{known}
use Rattle.demands.proofs.Mirrored.{ran, mirrored, allowed, fitting, leaves, builds}

-- ---- numbers

history_start : (s n : ℕ) (cs : List M.Call) → (history s n cs).start ≡ s
unfolding history
history_start s n [] = refl
history_start s n (c ∷ cs) = step_start c (history s n cs) ∙ history_start s n cs

pub numbers_said : (s : Sequence) → NumbersSaid s
numbers_said s = let m = mirrored s in record {
  start = m.start ∙ history_start s.start s.attributes (T.taken (ran s));
  latest = m.latest ∙ ap (λ (l : M.History). l.latest) (leaves s);
  attributes = m.attributes ∙ ap (λ (l : M.History). l.attributes) (leaves s);
  finished = m.finished ∙ ap (λ (l : M.History). l.finished) (leaves s);
}

-- ---- a scan finds intervals of its quark

only_passes : (p : Interval → Bool) (xs : List Interval) (x : Interval) (rest : List Interval) → only p xs ≡ x ∷ rest → p x ≡ true
only_passes p [] x rest e = let z : ◌≡◌ {A = ℕ} 0 1 = cc in absurd (omega arith)
only_passes p (y ∷ xs) x rest e = go (p y) refl (only_passes p xs x rest) e
  where
    go : (b : Bool) → p y ≡ b → (only p xs ≡ x ∷ rest → p x ≡ true) → cond b (y ∷ only p xs) (only p xs) ≡ x ∷ rest → p x ≡ true
    go true f later g = ap p (sym (head-eq_of_cons-eq g)) ∙ f
    go false f later g = later g

scan_quark : (l : M.History) (q t : ℕ) (x : Interval) → scan l q t ≡ x ∷ [] → x.quark ≡ q
unfolding scan
scan_quark l q t x e = go (ongoing l q t) e
  where
    go : (b : Bool) → cond b (record { quark = q; state = (l.table q).state; start = (l.table q).start; end = ∞ } ∷ []) [] ++ only (covers q t) l.stored ≡ x ∷ [] → x.quark ≡ q
    go true f = ap (λ (z : Interval). z.quark) (sym (head-eq_of_cons-eq f))
    go false f = eqb-true x.quark q (and_both (eqb x.quark q) _ (only_passes (covers q t) l.stored x [] f)).0

module _ (s : Sequence) where
  abbrev h : History
  h = (now s).history

  -- ---- single

  module _ (q t : ℕ) where
    abbrev one : Single
    one = single_of (now s).history t (quark q) (now s).nodes (now s).table

    -- the question of the run is the record's
    pub single_step : (step (single t q) (now s)).1 ≡ (told (now s) t q).1
    unfolding step
    single_step = ap (λ (b : Bool). (cond b (told (now s) t q) (now s, says R.NotOpen)).1) (known s).begun

    one_answered : SingleAnswered (ran s) q t one
    one_answered = single_answered (allowed s) (fitting s) (mirrored s) t (quark q)

    asked_one : q < h.attributes → Between s t → refuse_single (left (ran s)) q t ≡ 0
    asked_one lt b = let m = mirrored s in
        rw (lt-leb (left (ran s)).attributes q (omega (arith, m.attributes)), le-leb (left (ran s)).start t (omega (arith, m.start, b.0)), le-leb t (left (ran s)).latest (omega (arith, m.latest, b.1)))

  pub single_tells : SingleTells s
  single_tells q t lt b = rw (single_step q t) (
      let z = asked_one q t lt b in
      let a = one_answered q t in
      let v = value_said (ran s) (allowed s) q t z in
      let x = v.0 in
      let found = single_scans (ran s) (allowed s) q t z in
      let covered : scan (left (ran s)) q t ≡ x ∷ [] = sym found ∙ v.1 in
      record {
        accepted = zero_nothing (one q t).refusal (a.number ∙ z);
        interval = x;
        entry = head-eq_of_cons-eq (a.entry z ∙ ap (map entry_of) v.1);
        quark = scan_quark (left (ran s)) q t x covered;
        value = v.2 ∙ ap (λ (cs : List M.Call). said cs q t) (known s).took;
        only = ap (λ (l : M.History). scan l q t) (sym (leaves s)) ∙ covered;
      })

  pub single_scanned : SingleScans s
  unfolding number_of
  single_scanned q t ok =
      let a = one_answered q t in
      let z : refuse_single (left (ran s)) q t ≡ 0 = sym a.number ∙ ap number_of (ap (λ (x : Answer). x.refusal) (sym (single_step q t)) ∙ ok) in
      rw (single_step q t) (record {
        entry = a.entry z ∙ ap (map entry_of) (single_scans (ran s) (allowed s) q t z ∙ ap (λ (l : M.History). scan l q t) (leaves s));
        nodes = a.nodes z ∙ (single_enters (ran s) (allowed s) q t
            ∙ (ap (λ (l : M.History). cond (ongoing l q t) 0 (tally t (made (ran s)))) (leaves s)
            ∙ ap (λ (ns : List Node). cond (ongoing (story s) q t) 0 (tally t ns)) (builds s)));
      })

  -- ---- full

  module _ (t : ℕ) where
    pub full_step : step (full t) (now s) ≡ asks (now s) t
    unfolding step
    full_step = ap (λ (b : Bool). cond b (asks (now s) t) (now s, says R.NotOpen)) (known s).begun

    all_answered : h.attributes ≤ length (now s).answer / entry_size
        → FullAnswered (ran s) t (full_of h t (now s).nodes (now s).table (length (now s).answer)) (now s).answer (full_written h t (now s).nodes (now s).table (now s).answer)
    all_answered room = full_answered (allowed s) (fitting s) (mirrored s) t (now s).answer room

    pub asked_all : Between s t → refuse_full (left (ran s)) t ≡ 0
    asked_all b = let m = mirrored s in
        rw (le-leb (left (ran s)).start t (omega (arith, m.start, b.0)), le-leb t (left (ran s)).latest (omega (arith, m.latest, b.1)))

  pub full_tells : FullTells s
  full_tells t b room = rw (full_step t) (
      let z = asked_all t b in
      let a = all_answered t (omega arith) in
      let v = full_said (ran s) (allowed s) t z in
      record {
        accepted = zero_nothing _ (a.number ∙ z);
        intervals = (Q.full (ran s).shape (left (ran s)) t).found;
        written = a.written z;
        quarks = v.0 ∙ ap (λ (l : M.History). upto l.attributes) (leaves s);
        values = v.1 ∙ ap (λ (cs : List M.Call). all_said cs t (history s.start s.attributes cs).attributes) (known s).took;
      })

  -- an answer that is too short is refused
  long_answer : (t : ℕ) → full_refusal h t (now s).nodes (now s).table (length (now s).answer) ≡ R.Nothing → h.attributes ≤ length (now s).answer / entry_size
  unfolding full_refusal
  long_answer t ok = go (ltb (length (now s).answer / entry_size) h.attributes) refl
    where
      go : (b : Bool) → ltb (length (now s).answer / entry_size) h.attributes ≡ b → h.attributes ≤ length (now s).answer / entry_size
      go false e = ltb-false (length (now s).answer / entry_size) h.attributes e
      go true e = let z : ◌≡◌ {A = ℕ} 0 1 = cc (simp ((mirrored s).whole, (mirrored s).long, e) at ok) in absurd (omega arith)

  pub full_scanned : FullScans s
  unfolding number_of full_of
  full_scanned t ok =
      let refused : full_refusal h t (now s).nodes (now s).table (length (now s).answer) ≡ R.Nothing = ap (λ (x : State × Answer). x.1.refusal) (sym (full_step t)) ∙ ok in
      let a = all_answered t (long_answer t refused) in
      let z : refuse_full (left (ran s)) t ≡ 0 = sym a.number ∙ ap number_of refused in
      rw (full_step t) (record {
        entries = a.written z ∙ ap (λ (xs : List Interval). sets (now s).answer 0 (spread entry_bytes (map entry_of xs)))
            (full_scans (ran s) (allowed s) t z ∙ ap (λ (l : M.History). scans l t l.attributes) (leaves s));
        nodes = a.nodes z ∙ (full_enters (ran s) (allowed s) t ∙ ap (tally t) (builds s));
      })
