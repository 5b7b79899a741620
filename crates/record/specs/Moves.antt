-- The only ways in which a record changes. A field that is added later changes the setters below and nothing else.
use Rattle.std.specs.Prelude.{ℕ, ◌+◌, max, true, set}
use Rattle.record.specs.declared.Branch.{Branch}
use Rattle.record.specs.declared.History.{History}
use Rattle.record.specs.Levels.{intervals_at, children_at}

-- ═══ A level's numbers: the only four ways in which they change ═══

-- a new node: "intervals, children" as its header says, no interval yet
unfoldable pub level_new : Branch → ℕ → ℕ → ℕ → ℕ → ℕ → Branch
level_new b l place start children last_end = record {
  places = set b.places l place;
  starts = set b.starts l start;
  intervals = set b.intervals l 0;
  children = set b.children l children;
  last_ends = set b.last_ends l last_end;
}

-- one more child
unfoldable pub level_child : Branch → ℕ → Branch
level_child b l = record {
  places = b.places;
  starts = b.starts;
  intervals = b.intervals;
  children = set b.children l (children_at b l + 1);
  last_ends = b.last_ends;
}

-- one more interval
unfoldable pub level_stored : Branch → ℕ → Branch
level_stored b l = record {
  places = b.places;
  starts = b.starts;
  intervals = set b.intervals l (intervals_at b l + 1);
  children = b.children;
  last_ends = b.last_ends;
}

-- its last child has closed with this end
unfoldable pub level_closed : Branch → ℕ → ℕ → Branch
level_closed b l end = record {
  places = b.places;
  starts = b.starts;
  intervals = b.intervals;
  children = b.children;
  last_ends = set b.last_ends l end;
}

-- ═══ Setters of the record ═══

unfoldable pub with_branch : History → ℕ → ℕ → ℕ → Branch → History
with_branch h used low top b = record {
  shape = h.shape;
  start = h.start;
  latest = h.latest;
  largest_end = h.largest_end;
  attributes = h.attributes;
  used = used;
  low = low;
  top = top;
  finished = h.finished;
  branch = b;
}

unfoldable pub with_largest : History → ℕ → History
with_largest h e = record {
  shape = h.shape;
  start = h.start;
  latest = h.latest;
  largest_end = e;
  attributes = h.attributes;
  used = h.used;
  low = h.low;
  top = h.top;
  finished = h.finished;
  branch = h.branch;
}

-- "a change at time t makes it t"
unfoldable pub at_time : History → ℕ → History
at_time h t = record {
  shape = h.shape;
  start = h.start;
  latest = t;
  largest_end = h.largest_end;
  attributes = h.attributes;
  used = h.used;
  low = h.low;
  top = h.top;
  finished = h.finished;
  branch = h.branch;
}

unfoldable pub with_attribute : History → History
with_attribute h = record {
  shape = h.shape;
  start = h.start;
  latest = h.latest;
  largest_end = h.largest_end;
  attributes = h.attributes + 1;
  used = h.used;
  low = h.low;
  top = h.top;
  finished = h.finished;
  branch = h.branch;
}

-- "closes all open nodes with end T. T becomes the latest time": no level is open, low is top + 1
unfoldable pub finished_at : History → ℕ → History
finished_at h t = record {
  shape = h.shape;
  start = h.start;
  latest = t;
  largest_end = h.largest_end;
  attributes = h.attributes;
  used = h.used;
  low = h.top + 1;
  top = h.top;
  finished = true;
  branch = h.branch;
}

-- ═══ The moves of the build rule, as far as the record goes ═══

-- the lowest level closes with the end S, under an open one
unfoldable pub closed : History → History
closed h = with_branch h h.used (h.low + 1) h.top (level_closed h.branch (h.low + 1) h.largest_end)

-- "a new root is made first: one level higher, starting at the history's start, with the old root as its only child": the old root's end is S
unfoldable pub raised : History → History
raised h = with_branch h (h.used + 1) (h.top + 1) (h.top + 1) (level_new h.branch (h.top + 1) h.used h.start 1 h.largest_end)

-- a node of a chain: the lowest level, one above `l`, gets a new child that starts at `a`
unfoldable pub made : History → ℕ → ℕ → History
made h a l = with_branch h (h.used + 1) l h.top (level_new (level_child h.branch (l + 1)) l h.used a 0 0)

-- level l takes an interval
unfoldable pub stored : History → ℕ → History
stored h l = with_branch h h.used h.low h.top (level_stored h.branch l)

-- "S is the largest end stored so far"
unfoldable pub stretched : History → ℕ → History
stretched h e = with_largest h (max h.largest_end e)
