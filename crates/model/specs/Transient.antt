-- The transient state: what calls make of the ongoing states, and which intervals they store. Document 01, "From changes to intervals".
-- There is no node and no shape here. Lists of calls and of stored intervals have the LATEST FIRST, here and in all of the model.
use Rattle.std.specs.Prelude.{ℕ, zero, suc, ◌-◌, Bool, true, false, cond, List, [], ◌∷◌, ◌++◌, eqb, ℤ}
use Rattle.model.specs.State.{State, null, int, same, incremented}

-- An attribute had this state from start to end, "ends included".
pub record Interval : Type 0 where
  pub quark : ℕ
  pub state : State
  pub start : ℕ
  pub end : ℕ

-- "Calls: set; remove (becomes null); increment (adds 1, null counts as 0)."
pub data Change : Type 0 where
  set : ℤ → Change
  remove increment : Change

-- what a change makes of the ongoing state
abbrev pub becomes : Change → State → State
becomes (set v) old = int v
becomes remove old = null
becomes increment old = incremented old

pub data Call : Type 0 where
  change : ℕ → ℕ → Change → Call  -- time, quark, what
  add : Call
  finish : ℕ → Call

-- "Every attribute has an ongoing kind, value and start in a lent table."
pub record Ongoing : Type 0 where
  pub state : State
  pub start : ℕ

-- A history, as far as its calls alone make it.
pub record History : Type 0 where
  pub start : ℕ
  pub latest : ℕ
  pub attributes : ℕ  -- how many: the quarks are those below
  pub finished : Bool
  pub table : ℕ → Ongoing  -- by quark
  pub stored : List Interval  -- the latest first

-- "At opening, and when added later, it is null from the history's start." "The latest time is the start at first."
abbrev pub unset : ℕ → Ongoing
unset s = record { state = null; start = s }

-- opened at s with n attributes; entries of quarks from n on are there as well, and nothing reads them
abbrev pub opened : ℕ → ℕ → History
opened s n = record { start = s; latest = s; attributes = n; finished = false; table = λ q. unset s; stored = [] }

-- "If kind and value equal the ongoing ones, nothing else happens. If the ongoing start is t, the value is replaced and nothing is stored.
-- Otherwise the interval from the ongoing start to t-1, ends included, is stored and the new state is ongoing from t."
pub data Effect : Type 0 where
  stays replaced ended : Effect

abbrev pub effect : State → Ongoing → ℕ → Effect
effect v o t = cond (same v o.state) stays (cond (eqb o.start t) replaced ended)

-- the ongoing entry after it
abbrev pub after : Effect → Ongoing → State → ℕ → Ongoing
after stays o v t = o
after replaced o v t = record { state = v; start = t }
after ended o v t = record { state = v; start = t }

-- and the interval that is stored, if any
abbrev pub to_store : Effect → ℕ → Ongoing → ℕ → List Interval
to_store stays q o t = []
to_store replaced q o t = []
to_store ended q o t = record { quark = q; state = o.state; start = o.start; end = t - 1 } ∷ []

-- "Finish at T stores, in quark order, every ongoing interval with end T": those of the quarks below n, the latest first.
abbrev pub last_intervals : (ℕ → Ongoing) → ℕ → ℕ → List Interval
last_intervals f T zero = []
last_intervals f T (suc n) = record { quark = n; state = (f n).state; start = (f n).start; end = T } ∷ last_intervals f T n

-- the intervals that a call stores, the latest first
unfoldable pub stores : Call → History → List Interval
stores (change t q c) l = to_store (effect (becomes c (l.table q).state) (l.table q) t) q (l.table q) t
stores add l = []
stores (finish t) l = last_intervals l.table t l.attributes

-- the table with the entry o for q
abbrev pub put : (ℕ → Ongoing) → ℕ → Ongoing → ℕ → Ongoing
put f q o x = cond (eqb q x) o (f x)

-- What an accepted call makes of a history. "a change at time t makes it t" (the latest time); an attribute is added "null from the history's start";
-- "T becomes the latest time; the table stays as it is and is not read again."
unfoldable pub step : Call → History → History
step (change t q c) l = let v = becomes c (l.table q).state in record {
  start = l.start;
  latest = t;
  attributes = l.attributes;
  finished = l.finished;
  table = put l.table q (after (effect v (l.table q) t) (l.table q) v t);
  stored = stores (change t q c) l ++ l.stored;
}
step add l = record {
  start = l.start;
  latest = l.latest;
  attributes = suc l.attributes;
  finished = l.finished;
  table = put l.table l.attributes (unset l.start);
  stored = l.stored;
}
step (finish t) l = record {
  start = l.start;
  latest = t;
  attributes = l.attributes;
  finished = true;
  table = l.table;
  stored = stores (finish t) l ++ l.stored;
}

-- the history that accepted calls leave, opened at s with n attributes
unfoldable pub history : ℕ → ℕ → List Call → History
history s n [] = opened s n
history s n (c ∷ cs) = step c (history s n cs)
