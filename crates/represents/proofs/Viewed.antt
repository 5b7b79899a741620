-- The same of a question on a view alone, as the exported ones are: for an attribute and a time that the model accepts, what they tell is the model's. Assumes nothing.
use Prim.Native.Nat.{ℕ, ◌≤◌, ◌<◌}
use mathlib.Core.Path.{◌≡◌, sym, ap, ◌∙◌}
use mathlib.Core.List.{List, map}
use native.Mathlib.Omega.{arith}
use lib.ListN.{length}
use lib.Seq.{sets}
use borrow.Author.Tests.{le-leb, lt-leb}
use Rattle.layout.specs.Layout.{entry_bytes, spread}
use Rattle.record.specs.declared.History.{History}
use Rattle.record.specs.Refusals.{Nothing, number_of}
use Rattle.walk.specs.View.{view_of}
use Rattle.questions.specs.Single.{single_answer, view_single}
use Rattle.full_question.specs.Full.{full_entries, walked_refusal, walked_full, walked_written}
use Rattle.model.specs.Questions.{full}
use Rattle.model.specs.Refusals.{refuse_single}
use Rattle.model.specs.Theorems.{Run, Allowed, left, Calls64}
use Rattle.represents.specs.Represents.{entry_of}
use Rattle.represents.specs.Mirrors.{Mirrors}
use Rattle.represents.specs.Answered.{SingleAnswered}
use Rattle.represents.proofs.Told.{fine, walk_keeps, walk_enters, tells}
use Rattle.represents.proofs.OneAnswered.{answer_same}
use Rattle.represents.proofs.AllAnswered.{attributes_same, entries_fine, each_alone, entries_same}

module _ {r : Run} {h : History} {nodes table : List ℕ} (allowed : Allowed r) (values : Calls64 r.calls) (μ : Mirrors r h nodes table)
    (t : ℕ) (from : (left r).start ≤ t) (to : t ≤ (left r).latest) where
  viewed : (q : ℕ) → q < (left r).attributes → view_single (view_of h) t q nodes table ≡ single_answer (view_of h) t q nodes table
  unfolding view_single
  viewed q lt = rw (fine allowed values μ q lt, (tells allowed values μ t from to q lt).passes)

  pub view_single_lem : (q : ℕ) → q < (left r).attributes → SingleAnswered r q t (view_single (view_of h) t q nodes table)
  unfolding number_of
  view_single_lem q lt =
      let z : refuse_single (left r) q t ≡ 0 = rw (lt-leb (left r).attributes q lt, le-leb (left r).start t from, le-leb t (left r).latest to) in
      let s = answer_same allowed values μ q t lt from to in
      rw (viewed q lt) (record { number = ap number_of s.refusal ∙ sym z; nodes = λ y. s.count; entry = λ y. s.entry; refused = λ y. absurd (y z) })

  passes : walked_refusal (view_of h) t nodes table ≡ Nothing
  unfolding walked_refusal
  passes = rw (entries_fine allowed values μ t from to, walk_keeps allowed values μ t from to, each_alone allowed values μ t from to)

  pub view_full : walked_full (view_of h) t nodes table ≡ record { refusal = Nothing; nodes = length (full r.shape (left r) t).entered }
  unfolding walked_full full
  view_full = rw (passes, walk_enters allowed values μ t from to)

  -- the entries, from index at on
  pub view_written : (at : ℕ) (b : List ℕ) → walked_written (view_of h) t nodes table at b ≡ sets b at (spread entry_bytes (map entry_of (full r.shape (left r) t).found))
  unfolding walked_written full
  view_written at b =
      rw passes (ap (λ (n : ℕ). sets b at (full_entries (view_of h) t nodes table 0 n)) (attributes_same allowed values μ)
      ∙ ap (sets b at) (entries_same allowed values μ t from to (left r).attributes (omega arith)))
