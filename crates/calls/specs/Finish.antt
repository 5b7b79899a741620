-- Finish. Document 01: "finish 3 record, 2, 4, 3 entries, 6, 5, 10, 11".
use Rattle.std.specs.Prelude.{ℕ, zero, suc, ◌+◌, ◌-◌, Bool, cond, not, List, [], ◌∷◌, ltb, length}
use Rattle.record.specs.declared.History.{History}
use Rattle.record.specs.Refusals.{Reply, Nothing, Damaged, Short, Finished, Outside, Early, first_else, accepted}
use Rattle.record.specs.Sound.{last_time, sound, long_enough, all}
use Rattle.record.specs.Moves.{finished_at}
use Rattle.transient.specs.Transient.{ongoing_at, ongoing_sound, interval}
use Rattle.build.specs.Moves.{Held, held}
use Rattle.build.specs.Write.{inserted, close_all}
use Rattle.build.specs.Trial.{tried}
use Rattle.calls.specs.Outcome.{Outcome, answered, outcome, or_refused}

-- every entry read is sound
unfoldable pub all_sound : History → List ℕ → Bool
all_sound h table = all (λ q. ongoing_sound (ongoing_at table q) h.start h.latest) 0 h.attributes

-- "In finish the first interval in quark order that breaks either decides, depth before room": n attributes from q on, each on the record that the earlier ones leave
unfoldable pub trial : ℕ → ℕ → List ℕ → ℕ → History → Reply
trial zero q table t h = Nothing
trial (suc n) q table t h =
    let r = tried h (ongoing_at table q).start t in
    let rest = trial n (q + 1) table t r.history in
    cond (accepted r.refusal) rest r.refusal

abbrev pub finish_tests : History → ℕ → ℕ → List ℕ → List (Bool × Reply)
finish_tests h t nodes table =
    (not (sound h), Damaged)
    ∷ (not (long_enough h nodes (length table)), Short)
    ∷ (h.finished, Finished)
    ∷ (not (all_sound h table), Damaged)
    ∷ (ltb last_time t, Outside)
    ∷ (ltb t h.latest, Early)
    ∷ []

-- 10 and 11 come from the trial, where none of these does
unfoldable pub finish_refusal : History → ℕ → ℕ → List ℕ → Reply
finish_refusal h t nodes table = first_else (finish_tests h t nodes table) (trial h.attributes 0 table t h)

-- "Finish at T stores, in quark order, every ongoing interval with end T"
unfoldable pub stored_from : ℕ → ℕ → List ℕ → ℕ → Held → Held
stored_from zero q table t σ = σ
stored_from (suc n) q table t σ = stored_from n (q + 1) table t (inserted (interval (record { 0 = q }) (ongoing_at table q) t) σ)

-- "then closes all open nodes with end T. T becomes the latest time; the table stays as it is"
unfoldable pub finish_of : History → ℕ → List ℕ → List ℕ → Outcome
finish_of h t nodes table =
    let σ = stored_from h.attributes 0 table t (held h nodes) in
    let g = σ.history in
    or_refused (finish_refusal h t (length nodes) table) h nodes table
    (outcome (answered Nothing (finished_at g t)) (close_all g t (g.top + 1 - g.low) g.low σ.nodes) table)
