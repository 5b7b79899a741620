-- What a question knows of a history besides its bytes.
use Rattle.std.specs.Prelude.{ℕ, ◌*◌, ◌/◌, ◌<◌, ◌≤◌, Bool, ◌&&◌, ◌||◌, List, length, nat_le, nat_lt}
use Rattle.layout.specs.Layout.{node_size, entry_size}
use Rattle.record.specs.declared.History.{History}
use Rattle.record.specs.Levels.{seq_at}
use Rattle.record.specs.Sound.{last_time, shape_allowed}
use Rattle.record.specs.Firm.{Shaped}
use Rattle.walk.specs.declared.View.{View}

-- of a record: its numbers, and its root's place and level
unfoldable pub view_of : History → View
view_of h = record {
  shape = h.shape;
  start = h.start;
  latest = h.latest;
  attributes = h.attributes;
  used = h.used;
  root = seq_at h.branch h.top;
  level = h.top;
  finished = h.finished;
}

-- "A record is sound when its shape is allowed, numbers are within limits, the used count 1 to N, .. start is at or below latest":
-- what of it can be tested on the numbers of an exported question, with the root's place below the used count
unfoldable pub view_sound : View → Bool
view_sound v =
    shape_allowed v.shape
    && nat_le v.attributes 4096
    && nat_le v.latest last_time
    && nat_le v.start v.latest
    && nat_le 1 v.used
    && nat_le v.used v.shape.n
    && nat_le v.level 15
    && nat_lt v.root.0 v.used

-- "nodes under N times size, table under the attribute count (not once finished)": neither is the case
unfoldable pub long_for : View → ℕ → ℕ → Bool
long_for v nodes table = nat_le (v.shape.n * node_size v.shape) nodes && (v.finished || nat_le v.attributes (table / entry_size))

-- "in a query, before start or after latest" is refused
unfoldable pub asked : View → ℕ → Bool
asked v t = nat_le v.start t && nat_le t v.latest

-- what the walk needs of a view and of the node bytes: a sound record, or sound numbers, and a buffer that is long enough give it
pub record Roomy (v : View) (l : List ℕ) : Type 0 where
  pub shaped : Shaped v.shape
  pub attributes : v.attributes ≤ 4096
  pub used : v.used ≤ v.shape.n
  pub level : v.level ≤ 15
  pub root : v.root.0 < v.used
  pub room : v.shape.n * node_size v.shape ≤ length l
