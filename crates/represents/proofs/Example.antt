-- One attribute, set to 7 at 5, in a buffer of one node of 88 bytes: what the questions ask of record and buffers can be met, and the definitions compute.
use Prim.Native.Nat.{ℕ, zero, suc, ◌<◌}
use mathlib.Core.Bool.{false}
use mathlib.Core.Path.{◌≡◌, refl}
use mathlib.Core.List.{List, [], ◌∷◌, head-eq_of_cons-eq}
use native.Mathlib.Omega.{arith}
use lib.IntN.{pos}
use lib.ListN.{replicate}
use Rattle.words.specs.Words.{le, num}
use Rattle.layout.specs.declared.Quark.{Quark}
use Rattle.layout.specs.Layout as L
use Rattle.record.specs.declared.History.{History}
use Rattle.record.specs.Refusals.{number_of}
use Rattle.record.specs.Sound as S
use Rattle.transient.specs.Transient as T
use Rattle.questions.specs.Single.{single_of}
use Rattle.full_question.specs.Full.{full_of}
use Rattle.model.specs.State.{null}
use Rattle.model.specs.Transient as M
use Rattle.model.specs.Transient.{change, set}
use Rattle.model.specs.Build as B
use Rattle.model.specs.Nodes.{∞, standing}
use Rattle.model.specs.Questions as Q
use Rattle.model.specs.Refusals as R
use Rattle.model.specs.Theorems.{Run, Allowed, Calls64, left}
use Rattle.represents.specs.Histories.{ongoing_of}
use Rattle.represents.specs.Mirrors.{Mirrors}
use Rattle.represents.proofs.OneAnswered.{single_answered}
use Rattle.represents.proofs.AllAnswered.{full_answered}

abbrev pub r : Run
r = record { shape = record { K = 1; C = 2 }; room = 1; entries = 1; start = 0; attributes = 1; calls = change 5 0 (set (pos 7)) ∷ [] }

abbrev pub h : History
h = record {
  shape = record { k = 1; c = 2; n = 1 };
  start = 0;
  latest = 5;
  largest_end = 4;
  attributes = 1;
  used = 1;
  low = 0;
  top = 0;
  finished = false;
  branch = record {
    places = replicate 16 0;
    starts = replicate 16 0;
    intervals = 1 ∷ replicate 15 0;
    children = replicate 16 0;
    last_ends = replicate 16 0;
  };
}

-- an open node from 0 on, without a parent, with one interval: null from 0 to 4
abbrev pub nodes : List ℕ
nodes =
    0 ∷ 0 ∷ 0 ∷ 0 ∷ 0 ∷ 0 ∷ 0 ∷ 0 ∷ 255 ∷ 255 ∷ 255 ∷ 255 ∷ 255 ∷ 255 ∷ 255 ∷ 255 ∷ 0 ∷ 0 ∷ 0 ∷ 0 ∷ 255 ∷ 255 ∷ 255 ∷ 255 ∷ 1 ∷ 0 ∷ 0 ∷ 0 ∷ 0 ∷ 1 ∷ 0 ∷ 0
    ∷ 0 ∷ 0 ∷ 0 ∷ 0 ∷ 0 ∷ 0 ∷ 0 ∷ 0 ∷ 0 ∷ 0 ∷ 0 ∷ 0 ∷ 0 ∷ 0 ∷ 0 ∷ 0 ∷ 0 ∷ 0 ∷ 0 ∷ 0 ∷ 0 ∷ 0 ∷ 0 ∷ 0
    ∷ 0 ∷ 0 ∷ 0 ∷ 0 ∷ 0 ∷ 0 ∷ 0 ∷ 0 ∷ 0 ∷ 0 ∷ 0 ∷ 0 ∷ 0 ∷ 0 ∷ 0 ∷ 0 ∷ 4 ∷ 0 ∷ 0 ∷ 0 ∷ 0 ∷ 0 ∷ 0 ∷ 0 ∷ 0 ∷ 0 ∷ 0 ∷ 0 ∷ 0 ∷ 0 ∷ 0 ∷ 0 ∷ []

-- 7 from 5 on
abbrev pub table : List ℕ
table =
    0 ∷ 0 ∷ 0 ∷ 0 ∷ 1 ∷ 0 ∷ 0 ∷ 0 ∷ 5 ∷ 0 ∷ 0 ∷ 0 ∷ 0 ∷ 0 ∷ 0 ∷ 0 ∷ 255 ∷ 255 ∷ 255 ∷ 255 ∷ 255 ∷ 255 ∷ 255 ∷ 255 ∷ 7 ∷ 0 ∷ 0 ∷ 0 ∷ 0 ∷ 0 ∷ 0 ∷ 0 ∷ []

pub allowed : Allowed r
allowed = record { shaped = record { intervals = omega arith; children = omega arith }; some = omega arith; begins = omega arith }

pub values : Calls64 r.calls
values = (omega arith, tt)

pub mirrors : Mirrors r h nodes table
unfolding S.sound S.shape_allowed S.numbers_sound S.branch_sound S.last_end_sound S.starts_fall S.levels_sound S.level_sound S.apart S.all S.long_enough
    L.node_size L.encode_all L.encode L.header_bytes L.bounds L.counts L.child_bytes L.entry_bytes L.body L.padded le num T.ongoing_at
    M.history M.step M.stores R.accepted R.refuse R.refuse_stated R.limits B.onto B.insert B.build standing
mirrors = record {
  whole = refl;
  long = refl;
  shape = refl;
  start = refl;
  latest = refl;
  attributes = refl;
  finished = refl;
  used = refl;
  rest = [];
  bytes = refl;
  root = record { level = 0; seq = 0; start = 0; held = record { quark = 0; state = null; start = 0; end = 4 } ∷ [] };
  below = B.childless;
  rooted = refl;
  place = refl;
  level = refl;
  entries = λ e. entry;
}
  where
    entry : (q : ℕ) → q < 1 → T.ongoing_at table q ≡ ongoing_of ((left r).table q)
    entry zero lt = refl
    entry (suc q) lt = absurd (omega arith)

-- ---- the answers, by the theorems: the questions' definitions are not opened here

abbrev zeroth : Quark
zeroth = record { 0 = 0 }

-- at 3: null from 0 to 4, from the one node
pub at_three : ((single_of h 3 zeroth nodes table).nodes ≡ 1) × ((single_of h 3 zeroth nodes table).entry ≡ record { quark = zeroth; kind = 0; start = 0; end = 4; value = pos 0 })
unfolding M.history M.step M.stores R.accepted R.refuse R.refuse_stated R.limits B.onto B.insert B.build standing Q.single
at_three = let a = single_answered allowed values mirrors 3 zeroth in (a.nodes refl, head-eq_of_cons-eq (a.entry refl))

-- at 5: 7 from 5 on, from the table, with no node entered
pub at_five : ((single_of h 5 zeroth nodes table).nodes ≡ 0) × ((single_of h 5 zeroth nodes table).entry ≡ record { quark = zeroth; kind = 1; start = 5; end = ∞; value = pos 7 })
unfolding M.history M.step M.stores R.accepted R.refuse R.refuse_stated R.limits B.onto B.insert B.build standing Q.single
at_five = let a = single_answered allowed values mirrors 5 zeroth in (a.nodes refl, head-eq_of_cons-eq (a.entry refl))

-- at 6: "6 .. in a query, before start or after latest"
pub at_six : number_of (single_of h 6 zeroth nodes table).refusal ≡ 6
unfolding M.history M.step M.stores R.accepted R.refuse R.refuse_stated R.limits B.onto B.insert B.build standing
at_six = (single_answered allowed values mirrors 6 zeroth).number

-- the full question at 3 walks too
pub full_at_three : (full_of h 3 nodes table 32).nodes ≡ 1
unfolding M.history M.step M.stores R.accepted R.refuse R.refuse_stated R.limits B.onto B.insert B.build standing Q.full
full_at_three = (full_answered allowed values mirrors 3 (replicate 32 0) (omega arith)).nodes refl
