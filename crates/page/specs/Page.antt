-- The exported questions on a finished history: the specification, "For the page server".
use Rattle.std.specs.Prelude.{ℕ, ◌+◌, ◌*◌, Bool, true, cond, not, ◌||◌, List, [], ◌∷◌, ◌++◌, ltb, length}
use Rattle.std.proofs.lemmas.List.Edits.{sets}
use Rattle.words.specs.Words.{le}
use Rattle.layout.specs.Layout.{entry_size, entry_bytes}
use Rattle.record.specs.Refusals.{Reply, Short, Damaged, Outside, NoQuark, first_of, accepted}
use Rattle.walk.specs.declared.View.{View}
use Rattle.walk.specs.View.{view_sound, long_for, asked}
use Rattle.walk.specs.Rules.{kept}
use Rattle.walk.specs.Walk.{walk_of}
use Rattle.questions.specs.Single.{told, told_entry, entry_fine}
use Rattle.full_question.specs.Full.{alone, every_quark, full_entries}

-- "both queries on a finished history are also exported on plain numbers": these as a view
unfoldable pub finished_view : ℕ → ℕ → ℕ → ℕ → ℕ → ℕ → ℕ → ℕ → ℕ → View
finished_view start latest attributes k c n used root level = record {
  shape = record { k = k; c = c; n = n };
  start = start;
  latest = latest;
  attributes = attributes;
  used = used;
  root = record { 0 = root };
  level = level;
  finished = true;
}

-- "query 3 record, 2, 7, 6" before the walk: nodes and an answer of so many bytes, of which `wants` are wanted, and whether the quark is known.
-- A finished history has no ongoing table, so its length is never asked.
unfoldable pub head_refusal : View → ℕ → ℕ → ℕ → Bool → ℕ → Reply
head_refusal v nodes answer wants known t =
    first_of (
    (not (view_sound v), Damaged)
    ∷ (not (long_for v nodes 0) || ltb answer wants, Short)
    ∷ (not known, NoQuark)
    ∷ (not (asked v t), Outside)
    ∷ [])

-- ═══ Single ═══

-- "their answer needs 8 bytes more, so a single's 40"
unfoldable pub single_refusal : View → ℕ → ℕ → List ℕ → ℕ → Reply
single_refusal v t q nodes answer =
    first_of (
    (not (view_sound v), Damaged)
    ∷ (not (long_for v (length nodes) 0) || ltb answer (8 + entry_size), Short)
    ∷ (not (ltb q v.attributes), NoQuark)
    ∷ (not (asked v t), Outside)
    ∷ (not (told v t q nodes), Damaged)
    ∷ [])

-- "They return the refusal number and write the nodes entered as u64, then the entries"
unfoldable pub single_bytes : View → ℕ → ℕ → List ℕ → List ℕ
single_bytes v t q nodes = le 8 (walk_of nodes v t).entered ++ entry_bytes (told_entry v t q nodes)

unfoldable pub single_written : View → ℕ → ℕ → List ℕ → List ℕ → List ℕ
single_written v t q nodes b = cond (accepted (single_refusal v t q nodes (length b))) (sets b 0 (single_bytes v t q nodes)) b

-- ═══ Full ═══

unfoldable pub full_refusal : View → ℕ → List ℕ → ℕ → Reply
full_refusal v t nodes answer =
    first_of (
    (not (view_sound v), Damaged)
    ∷ (not (long_for v (length nodes) 0) || ltb answer (8 + entry_size * v.attributes), Short)
    ∷ (not (asked v t), Outside)
    ∷ (not (every_quark (λ q. entry_fine v q []) v.attributes), Damaged)
    ∷ (not (kept (walk_of nodes v t).rule), Damaged)
    ∷ (not (every_quark (alone v t nodes []) v.attributes), Damaged)
    ∷ [])

unfoldable pub full_bytes : View → ℕ → List ℕ → List ℕ
full_bytes v t nodes = le 8 (walk_of nodes v t).entered ++ full_entries v t nodes [] 0 v.attributes

unfoldable pub full_written : View → ℕ → List ℕ → List ℕ → List ℕ
full_written v t nodes b = cond (accepted (full_refusal v t nodes (length b))) (sets b 0 (full_bytes v t nodes)) b
