-- What the demands ask for can be met: the specification's listing is a sequence, before and after finish, and every premise of the demands holds of it somewhere. By computation.
use Prim.Native.Nat.{ℕ, ◌*◌, ◌≤◌, ◌<◌}
use mathlib.Core.Bool.{true, false}
use mathlib.Core.Path.{◌≡◌, refl}
use mathlib.Core.List.{List, [], ◌∷◌, ◌++◌}
use native.Mathlib.Omega.{arith}
use lib.IntN.{pos}
use lib.ListN.{length, replicate}
use Rattle.layout.specs.Layout.{entry_size, node_size, read_header}
use Rattle.record.specs.Refusals.{Nothing}
use Rattle.model.specs.State.{int}
use Rattle.model.specs.Questions.{said}
use Rattle.demands.specs.Runs.{Call, set, remove, finish, single, full, step}
use Rattle.demands.specs.Sequences.{begins, Fits, Sequence, now, taken, accepted_of}
use Rattle.demands.specs.Examples.{fresh, E1}
use Rattle.demands.specs.Demands.{Between}
use Rattle.demands.proofs.Computing.{computing}

-- "set(10, q0, 1), set(10, q1, 5), set(20, q0, 2), set(30, q1, 6), remove(40, q0)"
abbrev changes : List Call
changes = set 10 0 (pos 1) ∷ set 10 1 (pos 5) ∷ set 20 0 (pos 2) ∷ set 30 1 (pos 6) ∷ remove 40 0 ∷ []

pub going : Sequence
unfolding computing
going = record {
  before = fresh E1;
  start = 0;
  attributes = 2;
  shape = record { k = 2; c = 2; n = 6 };
  calls = changes;
  accepted = refl;
  one = (refl, (refl, (refl, (refl, (refl, tt)))));
  fit = (omega arith, (omega arith, (omega arith, (omega arith, (tt, tt)))));
}

pub finished : Sequence
unfolding computing
finished = record {
  before = fresh E1;
  start = 0;
  attributes = 2;
  shape = record { k = 2; c = 2; n = 6 };
  calls = changes ++ finish 50 ∷ [];
  accepted = refl;
  one = (refl, (refl, (refl, (refl, (refl, (refl, tt))))));
  fit = (omega arith, (omega arith, (omega arith, (omega arith, (tt, (tt, tt))))));
}

-- a question about q0 at 25, and its answer: 2, the value of its last change
pub asked : (0 < (now finished).history.attributes) × Between finished 25 × (said (taken finished) 0 25 ≡ int (pos 2))
unfolding computing finished said accepted_of
asked = (omega arith, (omega arith, omega arith), refl)

-- and of all attributes, where the answer's bytes are enough; the exported question may be asked
pub asked_all : (entry_size * (now finished).history.attributes ≤ length (now finished).answer) × ((now finished).history.finished ≡ true) × (40 ≤ length {A = ℕ} (replicate 40 0))
unfolding computing finished
asked_all = (omega arith, refl, omega arith)

-- before finish, node 0 is closed, and a change may follow
pub closed : (0 < (now going).history.used) × ((read_header (now going).nodes (0 * node_size going.shape)).state ≡ 2) × (begins (set 41 1 (pos 7)) (now going) ≡ false) × Fits (set 41 1 (pos 7))
unfolding computing going
closed = (omega arith, refl, refl, omega arith)

-- accepted questions, single and full
pub answered : ((step (single 39 0) (now going)).1.refusal ≡ Nothing) × ((step (full 39) (now going)).1.refusal ≡ Nothing)
unfolding computing going
answered = (refl, refl)
