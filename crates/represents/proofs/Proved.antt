-- Each theorem of `specs/Theorems.antt`. Assumes nothing.
use mathlib.Core.Path.{sym, ap, ◌∙◌}
use mathlib.Core.List.{List, [], ◌∷◌}
use native.Mathlib.Omega.{arith}
use Rattle.record.specs.Refusals.{number_of}
use Rattle.calls.specs.Open.{open_of}
use Rattle.model.specs.Transient.{Call, change, add, finish}
use Rattle.model.specs.Theorems.{left, Calls64}
use Rattle.represents.specs.Histories.{run_of}
use Rattle.represents.specs.Calls.{ran_of}
use Rattle.represents.specs.Theorems.{opening_of, OpenAnswers, OpenKeeps, OpenStands, CallAnswers, CallKeeps, CallStands, RunStands, RecordSound, BuffersLong, EntriesSound}
use Rattle.record.proofs.Said.{zero_nothing}
use Rattle.represents.proofs.Opened as O
use Rattle.represents.proofs.Called as C
use Rattle.represents.proofs.Real.{real}
use Rattle.represents.proofs.Whole.{whole, long_enough_lem, entry_sound_lem}

-- ---- opening

pub open_answers : OpenAnswers
open_answers = O.open_answers

pub open_keeps : OpenKeeps
unfolding number_of
open_keeps start attributes s b table why = O.open_refused start attributes s b table (λ e. why (ap number_of (O.open_says start attributes s b table ∙ e)))

pub open_stands : OpenStands
open_stands start attributes s b table e =
    O.open_stands start attributes s b table (sym (O.open_says start attributes s b table) ∙ zero_nothing (open_of start attributes s b table).answer.refusal e)

-- ---- a call

pub call_answers : CallAnswers
call_answers = C.call_answers

pub call_keeps : CallKeeps
call_keeps p cs h b table at c fit why = C.call_keeps p cs h b table at c fit (λ e. why (C.call_answers p cs h b table at c fit ∙ e))

pub call_stands : CallStands
call_stands = C.call_stands

-- ---- any sequence of calls

first_of : (c : Call) (cs : List Call) → Calls64 (c ∷ cs) → Calls64 (c ∷ []) × Calls64 cs
first_of (change t q c) cs a = ((a.0, tt), a.1)
first_of add cs a = (tt, a)
first_of (finish t) cs a = (tt, a)

pub run_stands : RunStands
unfolding ran_of
run_stands start attributes s b table e [] fit = open_stands start attributes s b table e
run_stands start attributes s b table e (c ∷ cs) fit =
    let k = first_of c cs fit in
    let o = ran_of cs (open_of start attributes s b table) in
    C.call_stands (opening_of start attributes s table) cs o.answer.history o.nodes o.table (run_stands start attributes s b table e cs k.1) c k.0

-- ---- record, buffers and entries

pub record_sound : RecordSound
record_sound p cs h b table at = whole p.shape (left (run_of p cs)) h b table (real p cs at.begins at.values) at.shows

pub buffers_long : BuffersLong
buffers_long p cs h b table at = long_enough_lem p.shape (left (run_of p cs)) h b table (real p cs at.begins at.values) at.shows

pub entries_sound : EntriesSound
entries_sound p cs h b table at going q lt =
    entry_sound_lem p.shape (left (run_of p cs)) h b table (real p cs at.begins at.values) at.shows (sym at.shows.finished ∙ going) q (omega (arith, at.shows.attributes))
