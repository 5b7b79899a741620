-- The full question: one walk, one interval entry per attribute; for each quark what a single question tells.
use Rattle.std.specs.Prelude.{ℕ, zero, suc, ◌+◌, ◌/◌, Bool, true, cond, not, ◌&&◌, ◌||◌, List, [], ◌∷◌, ◌++◌, ltb, eqb, length, Result, Ok, Err}
use Rattle.std.proofs.lemmas.List.Edits.{sets}
use Rattle.layout.specs.declared.Entry.{Entry}
use Rattle.layout.specs.Layout.{entry_size, entry_bytes}
use Rattle.record.specs.declared.History.{History}
use Rattle.record.specs.declared.Refusal.{Refusal}
use Rattle.record.specs.Refusals.{Reply, Nothing, Short, Damaged, Outside, first_of, accepted}
use Rattle.record.specs.Sound.{sound, long_enough}
use Rattle.walk.specs.declared.View.{View}
use Rattle.walk.specs.View.{view_of, asked}
use Rattle.walk.specs.Rules.{kept}
use Rattle.walk.specs.Walk.{walk_of}
use Rattle.questions.specs.Found.{found_of, shown}
use Rattle.questions.specs.Single.{from_table, table_entry, told_entry, entry_fine}

-- ═══ Each attribute ═══

-- "R7 for each quark asked, exactly one covering interval over walk and, until finish, ongoing table"
unfoldable pub alone : View → ℕ → List ℕ → List ℕ → ℕ → Bool
alone v t nodes table q = cond (from_table v t q table) (eqb (found_of nodes v q t) 0) (shown (found_of nodes v q t))

-- "takes ongoing states in the same way"
unfoldable pub full_entry : View → ℕ → List ℕ → List ℕ → ℕ → Entry
full_entry v t nodes table q = cond (from_table v t q table) (table_entry q table) (told_entry v t q nodes)

-- ═══ All attributes ═══

-- a test holds of the quarks below n
unfoldable pub every_quark : (ℕ → Bool) → ℕ → Bool
every_quark f zero = true
every_quark f (suc n) = every_quark f n && f n

-- "one interval entry per attribute, in quark order": n of them from q on
unfoldable pub full_entries : View → ℕ → List ℕ → List ℕ → ℕ → ℕ → List ℕ
full_entries v t nodes table q zero = []
full_entries v t nodes table q (suc n) = entry_bytes (full_entry v t nodes table q) ++ full_entries v t nodes table (q + 1) n

-- what a full question says, and how many nodes it entered
pub record Full : Type 0 where
  pub refusal : Reply
  pub nodes : ℕ

-- "A refusal returns its number with all other result numbers 0"
unfoldable pub refused_full : Reply → Full
refused_full r = record { refusal = r; nodes = 0 }

-- the same of what a function returned
unfoldable pub said_all : Result ℕ Refusal → Full
said_all (Ok n) = record { refusal = Nothing; nodes = n }
said_all (Err r) = refused_full (Err r)

-- the last 3: the ongoing entries, then the walk (R1 to R6), then R7
unfoldable pub walked_refusal : View → ℕ → List ℕ → List ℕ → Reply
walked_refusal v t nodes table =
    first_of (
    (not (every_quark (λ q. entry_fine v q table) v.attributes), Damaged)
    ∷ (not (kept (walk_of nodes v t).rule), Damaged)
    ∷ (not (every_quark (alone v t nodes table) v.attributes), Damaged)
    ∷ [])

unfoldable pub walked_full : View → ℕ → List ℕ → List ℕ → Full
walked_full v t nodes table =
    let r = walked_refusal v t nodes table in
    record { refusal = r; nodes = cond (accepted r) (walk_of nodes v t).entered 0 }

-- the entries from index at on, where accepted
unfoldable pub walked_written : View → ℕ → List ℕ → List ℕ → ℕ → List ℕ → List ℕ
walked_written v t nodes table at b = cond (accepted (walked_refusal v t nodes table)) (sets b at (full_entries v t nodes table 0 v.attributes)) b

-- ═══ The question ═══

-- "query 3 record, 2, 7, 6, 3": no quark is named, so there is no 7
unfoldable pub full_refusal : History → ℕ → List ℕ → List ℕ → ℕ → Reply
full_refusal h t nodes table answer =
    let v = view_of h in
    first_of (
    (not (sound h), Damaged)
    ∷ (not (long_enough h (length nodes) (length table)) || ltb (answer / entry_size) h.attributes, Short)
    ∷ (not (asked v t), Outside)
    ∷ (not (every_quark (λ q. entry_fine v q table) v.attributes), Damaged)
    ∷ (not (kept (walk_of nodes v t).rule), Damaged)
    ∷ (not (every_quark (alone v t nodes table) v.attributes), Damaged)
    ∷ [])

unfoldable pub full_of : History → ℕ → List ℕ → List ℕ → ℕ → Full
full_of h t nodes table answer =
    let r = full_refusal h t nodes table answer in
    record { refusal = r; nodes = cond (accepted r) (walk_of nodes (view_of h) t).entered 0 }

-- "into a lent byte slice; bytes after them are not touched", "and nothing written" where refused
unfoldable pub full_written : History → ℕ → List ℕ → List ℕ → List ℕ → List ℕ
full_written h t nodes table answer =
    cond (accepted (full_refusal h t nodes table (length answer)))
    (sets answer 0 (full_entries (view_of h) t nodes table 0 h.attributes))
    answer
