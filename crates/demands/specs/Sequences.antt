-- "Take any sequence of calls on one history from its opening, each given the record the last one returned, with nobody else writing to its buffers."
use Rattle.std.specs.Prelude.{ℕ, Bool, false, cond, ◌≡◌, List, [], ◌∷◌, ◌++◌}
use Rattle.layout.specs.declared.Shape.{Shape}
use Rattle.record.specs.Refusals.{Nothing, accepted}
use Rattle.model.specs.State.{int, Within64}
use Rattle.model.specs.Transient as M
use Rattle.model.specs.Transient.{change, history}
use Rattle.model.specs.Nodes as N
use Rattle.model.specs.Nodes.{Node, standing}
use Rattle.represents.specs.Represents.{shape_of}
use Rattle.demands.specs.Runs.{Call, opening, set, remove, increment, add, finish, single, full, State, step, run}

-- ═══ A run's accepted calls ═══

-- a call as the model has it; an opening begins a history and a question changes none
abbrev pub modelled : Call → List M.Call
modelled (opening start attributes shape) = []
modelled (set t q v) = change t q (M.set v) ∷ []
modelled (remove t q) = change t q M.remove ∷ []
modelled (increment t q) = change t q M.increment ∷ []
modelled add = M.add ∷ []
modelled (finish t) = M.finish t ∷ []
modelled (single t q) = []
modelled (full t) = []

-- the calls that were answered 0, the latest first, on top of earlier ones
unfoldable pub accepted_of : List Call → State → List M.Call → List M.Call
accepted_of [] σ earlier = earlier
accepted_of (c ∷ later) σ earlier = let next = step c σ in accepted_of later next.0 (cond (accepted next.1.refusal) (modelled c ++ earlier) earlier)

-- ═══ One history ═══

-- the call begins another history: an opening that is accepted
abbrev pub begins : Call → State → Bool
begins (opening start attributes shape) σ = accepted (step (opening start attributes shape) σ).1.refusal
begins (set t q v) σ = false
begins (remove t q) σ = false
begins (increment t q) σ = false
begins add σ = false
begins (finish t) σ = false
begins (single t q) σ = false
begins (full t) σ = false

-- none of the calls does
abbrev pub One : List Call → State → Type 0
One [] σ = Unit {0}
One (c ∷ later) σ = (begins c σ ≡ false) × One later (step c σ).0

-- A value that is set is an i64: its parameter holds no other. All other numbers may be any, for the calls test them.
abbrev pub Fits : Call → Type 0
Fits (opening start attributes shape) = Unit {0}
Fits (set t q v) = Within64 (int v)
Fits (remove t q) = Unit {0}
Fits (increment t q) = Unit {0}
Fits add = Unit {0}
Fits (finish t) = Unit {0}
Fits (single t q) = Unit {0}
Fits (full t) = Unit {0}

abbrev pub AllFit : List Call → Type 0
AllFit [] = Unit {0}
AllFit (c ∷ later) = Fits c × AllFit later

-- An opening that is accepted, in any state, so on buffers of any length and content; then any calls, refused ones among them, none of which begins another history.
pub record Sequence : Type 0 where
  pub before : State
  pub start : ℕ
  pub attributes : ℕ
  pub shape : Shape
  pub calls : List Call
  pub accepted : (step (opening start attributes shape) before).1.refusal ≡ Nothing
  pub one : One calls (step (opening start attributes shape) before).0
  pub fit : AllFit calls

-- what the opening leaves, and what all the calls do
abbrev pub first : Sequence → State
first s = (step (opening s.start s.attributes s.shape) s.before).0

abbrev pub now : Sequence → State
now s = run s.calls (first s)

-- the accepted calls; what they alone make: states, intervals, times; and the nodes that the build rule makes of it, in the order of their places
abbrev pub taken : Sequence → List M.Call
taken s = accepted_of s.calls (first s) []

abbrev pub story : Sequence → M.History
story s = history s.start s.attributes (taken s)

abbrev pub afresh : Sequence → List Node
afresh s = N.nodes (standing (shape_of s.shape) (story s))
