-- The single question: the specification's "Questions", and its refusals in their order.
use Rattle.std.specs.Prelude.{ℕ, ◌-◌, Bool, true, cond, not, ◌&&◌, List, [], ◌∷◌, leb, pos, length, Result, Ok, Err}
use Rattle.layout.specs.declared.Entry.{Entry}
use Rattle.layout.specs.declared.Quark.{Quark}
use Rattle.layout.specs.Layout.{read_entry}
use Rattle.record.specs.declared.History.{History}
use Rattle.record.specs.declared.Refusal.{Refusal}
use Rattle.record.specs.Refusals.{Reply, Nothing, Short, Damaged, Outside, NoQuark, first_of, accepted}
use Rattle.record.specs.Sound.{sound, long_enough}
use Rattle.transient.specs.Transient.{ongoing_end, ongoing_at, ongoing_sound, interval}
use Rattle.walk.specs.declared.View.{View}
use Rattle.questions.specs.declared.Answer.{Answer}
use Rattle.walk.specs.View.{view_of, asked}
use Rattle.walk.specs.Rules.{kept}
use Rattle.walk.specs.Walk.{walk_of}
use Rattle.questions.specs.Found.{found_of, shown}

-- what a single question says and answers
pub record Single : Type 0 where
  pub refusal : Reply
  pub nodes : ℕ
  pub entry : Entry

-- "A refusal returns its number with all other result numbers 0"
unfoldable pub refused_single : Reply → Single
refused_single r = record { refusal = r; nodes = 0; entry = record { quark = record { 0 = 0 }; kind = 0; start = 0; end = 0; value = pos 0 } }

-- the same of what a function returned
unfoldable pub said : Result Answer Refusal → Single
said (Ok a) = record { refusal = Nothing; nodes = a.nodes; entry = a.entry }
said (Err r) = refused_single (Err r)

-- ═══ What the walk tells ═══

-- R1 to R7: the walk breaks no rule and finds one entry
unfoldable pub told : View → ℕ → ℕ → List ℕ → Bool
told v t q nodes = kept (walk_of nodes v t).rule && shown (found_of nodes v q t)

-- the entry that it finds
unfoldable pub told_entry : View → ℕ → ℕ → List ℕ → Entry
told_entry v t q nodes = read_entry nodes (found_of nodes v q t - 1)

unfoldable pub walked_single : View → ℕ → ℕ → List ℕ → Single
walked_single v t q nodes =
    cond (told v t q nodes)
    (record { refusal = Nothing; nodes = (walk_of nodes v t).entered; entry = told_entry v t q nodes })
    (refused_single Damaged)

-- ═══ What the table tells ═══

-- "On an unfinished history a single query whose ongoing start is at or below t answers from the table"
unfoldable pub from_table : View → ℕ → ℕ → List ℕ → Bool
from_table v t q table = not v.finished && leb (ongoing_at table q).start t

-- "end 2^64-1"
unfoldable pub table_entry : ℕ → List ℕ → Entry
table_entry q table = interval (record { 0 = q }) (ongoing_at table q) ongoing_end

-- an ongoing entry that is read is sound; once finished none is read
unfoldable pub entry_fine : View → ℕ → List ℕ → Bool
entry_fine v q table = cond v.finished true (ongoing_sound (ongoing_at table q) v.start v.latest)

-- ═══ The question ═══

-- "end 2^64-1, no nodes entered. Otherwise it walks from the root"
unfoldable pub single_answer : View → ℕ → ℕ → List ℕ → List ℕ → Single
single_answer v t q nodes table =
    cond (from_table v t q table)
    (record { refusal = Nothing; nodes = 0; entry = table_entry q table })
    (record { refusal = Nothing; nodes = (walk_of nodes v t).entered; entry = told_entry v t q nodes })

-- the last 3: the ongoing entry before the walk, which is not made where the table answers
unfoldable pub view_single : View → ℕ → ℕ → List ℕ → List ℕ → Single
view_single v t q nodes table =
    let r = first_of ((not (entry_fine v q table), Damaged) ∷ (not (from_table v t q table) && not (told v t q nodes), Damaged) ∷ []) in
    cond (accepted r) (single_answer v t q nodes table) (refused_single r)

-- "query 3 record, 2, 7, 6, 3"
unfoldable pub single_refusal : History → ℕ → ℕ → List ℕ → List ℕ → Reply
single_refusal h t q nodes table =
    let v = view_of h in
    first_of (
    (not (sound h), Damaged)
    ∷ (not (long_enough h (length nodes) (length table)), Short)
    ∷ (leb h.attributes q, NoQuark)
    ∷ (not (asked v t), Outside)
    ∷ (not (entry_fine v q table), Damaged)
    ∷ (not (from_table v t q table) && not (told v t q nodes), Damaged)
    ∷ [])

unfoldable pub single_of : History → ℕ → Quark → List ℕ → List ℕ → Single
single_of h t quark nodes table =
    let r = single_refusal h t quark.0 nodes table in
    cond (accepted r) (single_answer (view_of h) t quark.0 nodes table) (refused_single r)
