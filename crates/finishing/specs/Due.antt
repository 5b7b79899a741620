-- One header for a run of intervals that go into one node.
use Rattle.std.specs.Prelude.{ℕ, ◌≤◌, List, Option, None, Some}
use Rattle.record.specs.declared.History.{History}
use Rattle.build.specs.Moves.{open_end, put_head}

-- the level whose header is still to be written is open; or none is
abbrev pub Due : History → Option ℕ → Type 0
Due h None = Unit {0}
Due h (Some l) = (h.low ≤ l) × (l ≤ h.top)

-- the nodes with that header written
unfoldable pub caught_up : History → Option ℕ → List ℕ → List ℕ
caught_up h None b = b
caught_up h (Some l) b = put_head h l open_end 1 b
