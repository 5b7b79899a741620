-- The exported questions on what a finished sequence left say what the record's questions say. Assumes nothing.
use Prim.Native.Nat.{ℕ}
use mathlib.Core.Bool.{cond}
use mathlib.Core.Path.{◌≡◌, sym, ap, ◌∙◌}
use mathlib.Core.List.{List, ◌++◌, map}
use native.Mathlib.Omega.{arith}
use lib.ListN.{length}
use lib.Seq.{sets}
use Rattle.words.specs.Words.{le}
use Rattle.layout.specs.Layout.{entry_bytes, spread}
use Rattle.record.specs.declared.History.{History}
use Rattle.record.specs.Refusals.{Reply, number_of, accepted}
use Rattle.record.specs.Refusals as R
use Rattle.walk.specs.View.{view_of}
use Rattle.questions.specs.Single as one
use Rattle.full_question.specs.Full as all
use Rattle.page.specs.Page as P
use Rattle.page.proofs.Same.{single_same, single_bytes_same, full_same, full_bytes_same}
use Rattle.model.specs.Transient as M
use Rattle.model.specs.Transient.{Interval}
use Rattle.model.specs.Questions as Q
use Rattle.model.specs.Questions.{scans, tally}
use Rattle.model.specs.Theorems.{left}
use Rattle.model.proofs.Proved.{full_scans, full_enters}
use Rattle.represents.specs.Represents.{entry_of}
use Rattle.record.proofs.Said.{zero_nothing}
use Rattle.represents.proofs.AllAnswered.{full_answered, entries_same}
use Rattle.demands.specs.Runs.{Answer, quark}
use Rattle.demands.specs.Sequences.{Sequence, now, story, afresh}
use Rattle.demands.specs.Demands.{numbers, ExportedTells, ExportedTellsAll}
use Rattle.demands.proofs.Exactly.{single_said}
use Rattle.demands.proofs.Mirrored.{ran, mirrored, allowed, fitting, leaves, builds}
use Rattle.demands.proofs.Answers.{single_step, single_tells, asked_all}

module _ (s : Sequence) where
  abbrev h : History
  h = (now s).history

  pub exported_tells : ExportedTells s
  unfolding number_of P.single_written
  exported_tells q t b done lt bt long =
      let nodes = (now s).nodes in
      let table = (now s).table in
      let told = single_tells s q t lt bt in
      let ok : one.single_refusal h t q nodes table ≡ R.Nothing =
      sym (single_said h t (quark q) nodes table) ∙ (ap (λ (x : Answer). x.refusal) (sym (single_step s q t)) ∙ told.accepted) in
      let same : P.single_refusal (numbers s) t q nodes (length b) ≡ R.Nothing = single_same h (mirrored s).whole done t q nodes table (length b) long ∙ ok in
      let bytes = single_bytes_same h (mirrored s).whole done t (quark q) nodes table (ap accepted ok) in (
        told,
        ap number_of same,
        ap (λ (r : Reply). cond (accepted r) (sets b 0 (P.single_bytes (numbers s) t q nodes)) b) same
            ∙ (ap (sets b 0) bytes ∙ ap (λ (x : Answer). sets b 0 (le 8 x.nodes ++ entry_bytes x.entry)) (sym (single_step s q t))),
      )

  pub exported_tells_all : ExportedTellsAll s
  unfolding number_of P.full_written all.full_of Q.full
  exported_tells_all t b done bt long =
      let nodes = (now s).nodes in
      let table = (now s).table in
      let m = mirrored s in
      let z = asked_all s t bt in
      let a = full_answered (allowed s) (fitting s) m t b (omega arith) in
      let ok : all.full_refusal h t nodes table (length b) ≡ R.Nothing = zero_nothing _ (a.number ∙ z) in
      let same : P.full_refusal (numbers s) t nodes (length b) ≡ R.Nothing = full_same h m.whole done t nodes table (length b) long ∙ ok in
      let bytes = full_bytes_same h m.whole done t nodes table (length b) (ap accepted ok) in
      let count : (all.full_of h t nodes table (length b)).nodes ≡ tally t (afresh s) = a.nodes z ∙ (full_enters (ran s) (allowed s) t ∙ ap (tally t) (builds s)) in
      let entries : all.full_entries (view_of h) t nodes table 0 h.attributes ≡ spread entry_bytes (map entry_of (scans (story s) t (story s).attributes)) =
      ap (all.full_entries (view_of h) t nodes table 0) m.attributes
      ∙ (entries_same (allowed s) (fitting s) m t (omega (arith, m.start, bt.0)) (omega (arith, m.latest, bt.1)) (left (ran s)).attributes (omega arith)
      ∙ ap (λ (xs : List Interval). spread entry_bytes (map entry_of xs)) (full_scans (ran s) (allowed s) t z ∙ ap (λ (l : M.History). scans l t l.attributes) (leaves s))) in (
        ap number_of same,
        ap (λ (r : Reply). cond (accepted r) (sets b 0 (P.full_bytes (numbers s) t nodes)) b) same
            ∙ (ap (sets b 0) bytes
            ∙ (ap (λ (n : ℕ). sets b 0 (le 8 n ++ all.full_entries (view_of h) t nodes table 0 h.attributes)) count
            ∙ ap (λ (x : List ℕ). sets b 0 (le 8 (tally t (afresh s)) ++ x)) entries)),
      )
