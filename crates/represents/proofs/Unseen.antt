-- The tree does not know the latest time, nor how many attributes there are: a record with others represents the same one. Assumes nothing.
use Prim.Native.Nat.{ℕ, ◌+◌}
use mathlib.Core.List.{List}
use Rattle.layout.specs.declared.Shape.{Shape}
use Rattle.record.specs.declared.History.{History}
use Rattle.record.specs.Moves.{at_time, with_attribute}
use Rattle.build.specs.Moves.{held}
use Rattle.model.specs.Build.{Tree}
use Rattle.represents.specs.Represents.{Represents}

-- the record at this latest time, with so many attributes
abbrev other : History → ℕ → ℕ → History
other h latest attributes = record {
  shape = h.shape;
  start = h.start;
  latest = latest;
  largest_end = h.largest_end;
  attributes = attributes;
  used = h.used;
  low = h.low;
  top = h.top;
  finished = h.finished;
  branch = h.branch;
}

module _ (s : Shape) (t : Tree) (h : History) (b : List ℕ) (r : Represents s t (held h b)) where
  unseen : (latest attributes : ℕ) → Represents s t (held (other h latest attributes) b)
  unseen latest attributes = let n = r.numbers in record {
    numbers = record {
      shape = n.shape;
      start = n.start;
      largest = n.largest;
      used = n.used;
      top = n.top;
      shallow = n.shallow;
      lines = n.lines;
      last = n.last;
      long = n.long;
    };
    bytes = r.bytes;
    room = r.room;
    within = r.within;
    shaped = r.shaped;
    ready = r.ready;
    some = r.some;
    small = r.small;
  }

  -- "a change at time t makes it t"
  pub at_time_lem : (time : ℕ) → Represents s t (held (at_time h time) b)
  unfolding at_time
  at_time_lem time = unseen time h.attributes

  -- one more attribute
  pub with_attribute_lem : Represents s t (held (with_attribute h) b)
  unfolding with_attribute
  with_attribute_lem = unseen h.latest (h.attributes + 1)
