-- The tests of every call of a run, in the specification's order, each with what it is answered. The lists of the calls are their own (`calls`, specs/Open and the others).
use Rattle.std.specs.Prelude.{ℕ, zero, suc, ◌+◌, ◌/◌, Bool, not, ◌&&◌, ◌||◌, List, [], ◌∷◌, ◌++◌, leb, ltb, length}
use Rattle.layout.specs.Layout.{entry_size}
use Rattle.record.specs.declared.History.{History}
use Rattle.record.specs.Refusals.{Reply, Short, Damaged, Outside, NoQuark, Deep, NoRoom, NoTag, WrongLength, Cut, NotOpen, LongFeed}
use Rattle.record.specs.Sound.{sound, long_enough}
use Rattle.transient.specs.declared.Change.TheVariants.{Set, Remove, Increment}
use Rattle.transient.specs.Transient.{ongoing_at}
use Rattle.settle.specs.Settle.{settle, too_deep, no_room}
use Rattle.build.specs.Trial.{planned}
use Rattle.calls.specs.Open.{open_tests}
use Rattle.calls.specs.Change.{change_tests}
use Rattle.calls.specs.Add.{add_tests}
use Rattle.calls.specs.Finish.{finish_tests}
use Rattle.walk.specs.View.{view_of, asked}
use Rattle.walk.specs.Rules.{kept}
use Rattle.walk.specs.Walk.{walk_of}
use Rattle.questions.specs.Single.{from_table, told, entry_fine}
use Rattle.full_question.specs.Full.{alone, every_quark}
use Rattle.feed.specs.Feed.{longest, tag_known, length_allowed, tag_at, size_at}
use Rattle.demands.specs.Runs.{Call, opening, set, remove, increment, add, finish, single, full, State, quark}

-- a test, and what it is answered
abbrev pub Test : Type 0
Test = Bool × Reply

-- ═══ Finish ═══

-- "In finish the first interval in quark order that breaks either decides, depth before room": n of them from q on, each on the record that the earlier ones leave
unfoldable pub each_tests : ℕ → ℕ → List ℕ → ℕ → History → List Test
each_tests zero q table t h = []
each_tests (suc n) q table t h =
    let p = settle h (ongoing_at table q).start in
    (too_deep p, Deep) ∷ (no_room h p, NoRoom) ∷ each_tests n (q + 1) table t (planned p t h)

-- ═══ Questions ═══

-- "query 3 record, 2, 7, 6, 3"
abbrev pub single_tests : History → ℕ → ℕ → List ℕ → List ℕ → List Test
single_tests h t q nodes table =
    let v = view_of h in
    (not (sound h), Damaged)
    ∷ (not (long_enough h (length nodes) (length table)), Short)
    ∷ (leb h.attributes q, NoQuark)
    ∷ (not (asked v t), Outside)
    ∷ (not (entry_fine v q table), Damaged)
    ∷ (not (from_table v t q table) && not (told v t q nodes), Damaged)
    ∷ []

abbrev pub full_tests : History → ℕ → List ℕ → List ℕ → List ℕ → List Test
full_tests h t nodes table answer =
    let v = view_of h in
    (not (sound h), Damaged)
    ∷ (not (long_enough h (length nodes) (length table)) || ltb (length answer / entry_size) h.attributes, Short)
    ∷ (not (asked v t), Outside)
    ∷ (not (every_quark (λ q. entry_fine v q table) v.attributes), Damaged)
    ∷ (not (kept (walk_of nodes v t).rule), Damaged)
    ∷ (not (every_quark (alone v t nodes table) v.attributes), Damaged)
    ∷ []

-- ═══ All of them ═══

-- "15 no history open, tags 2 to 8"
abbrev pub after_open : State → List Test → List Test
after_open σ tests = (not σ.begun, NotOpen) ∷ tests

unfoldable pub tests_of : Call → State → List Test
tests_of (opening start attributes shape) σ = open_tests start attributes shape (length σ.nodes) (length σ.table)
tests_of (set t q v) σ = after_open σ (change_tests σ.history t (quark q) (Set v) σ.nodes σ.table)
tests_of (remove t q) σ = after_open σ (change_tests σ.history t (quark q) Remove σ.nodes σ.table)
tests_of (increment t q) σ = after_open σ (change_tests σ.history t (quark q) Increment σ.nodes σ.table)
tests_of add σ = after_open σ (add_tests σ.history (length σ.nodes) (length σ.table))
tests_of (finish t) σ =
    let h = σ.history in after_open σ (finish_tests h t (length σ.nodes) σ.table ++ each_tests h.attributes 0 σ.table t h)
tests_of (single t q) σ = after_open σ (single_tests σ.history t q σ.nodes σ.table)
tests_of (full t) σ = after_open σ (full_tests σ.history t σ.nodes σ.table σ.answer)

-- The feed's own, for a place before its end: "The order is 16, 14, 12, 13".
abbrev pub feed_tests : List ℕ → ℕ → List Test
feed_tests l p =
    (ltb longest (length l), LongFeed)
    ∷ (ltb (length l) (p + 3 + size_at l p), Cut)
    ∷ (not (tag_known (tag_at l p)), NoTag)
    ∷ (not (length_allowed (tag_at l p) (size_at l p)), WrongLength)
    ∷ []
