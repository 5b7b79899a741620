-- When an answer to a question is the model's: what is proved of the questions on a history that calls alone have made.
use Rattle.std.specs.Prelude.{ℕ, ◌≡◌, List, [], ◌∷◌, map, length}
use Rattle.std.proofs.lemmas.List.Edits.{sets}
use Rattle.layout.specs.Layout.{entry_bytes, spread}
use Rattle.record.specs.Refusals.{number_of}
use Rattle.questions.specs.Single.{Single, refused_single}
use Rattle.full_question.specs.Full.{Full, refused_full}
use Rattle.model.specs.Questions.{single, full}
use Rattle.model.specs.Refusals.{refuse_single, refuse_full}
use Rattle.model.specs.Theorems.{Run, left}
use Rattle.represents.specs.Represents.{entry_of}

-- The number is the model's, which is 0, 7 or 6 and never 3; where it is 0 the nodes are as many as the model enters and the entry is that of the one interval that
-- it finds; otherwise all else is 0.
pub record SingleAnswered (r : Run) (q t : ℕ) (a : Single) : Type 0 where
  pub number : number_of a.refusal ≡ refuse_single (left r) q t
  pub nodes : refuse_single (left r) q t ≡ 0 → a.nodes ≡ length (single r.shape (left r) q t).entered
  pub entry : refuse_single (left r) q t ≡ 0 → a.entry ∷ [] ≡ map entry_of (single r.shape (left r) q t).found
  pub refused : (refuse_single (left r) q t ≡ 0 → ⊥) → a ≡ refused_single a.refusal

-- The number is the model's, 0 or 6; where it is 0 the nodes are as many as the model enters, and the entries of the intervals that it finds, in their order, are
-- written to the front of the answer, whose bytes were b and are c; otherwise all else is 0 and nothing is written.
pub record FullAnswered (r : Run) (t : ℕ) (a : Full) (b c : List ℕ) : Type 0 where
  pub number : number_of a.refusal ≡ refuse_full (left r) t
  pub nodes : refuse_full (left r) t ≡ 0 → a.nodes ≡ length (full r.shape (left r) t).entered
  pub written : refuse_full (left r) t ≡ 0 → c ≡ sets b 0 (spread entry_bytes (map entry_of (full r.shape (left r) t).found))
  pub refused : (refuse_full (left r) t ≡ 0 → ⊥) → (a ≡ refused_full a.refusal) × (c ≡ b)
