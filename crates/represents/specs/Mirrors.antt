-- When a record and the two lent buffers stand for the history that a run of calls leaves, finished or not: all that a question on them needs.
use Rattle.std.specs.Prelude.{ℕ, ◌<◌, ◌≡◌, true, false, List, ◌++◌, length}
use Rattle.record.specs.declared.History.{History}
use Rattle.record.specs.Levels.{place_at}
use Rattle.record.specs.Sound.{sound, long_enough}
use Rattle.transient.specs.Transient.{ongoing_at}
use Rattle.model.specs.Build.{Head, Subtrees, childless, also}
use Rattle.model.specs.Nodes.{placed, open_end}
use Rattle.model.specs.Theorems.{Run, left, tree, stands, made}
use Rattle.represents.specs.Represents.{shape_of, bytes_of}
use Rattle.represents.specs.Histories.{ongoing_of}

-- The record is sound and the buffers are long enough; the numbers agree; the buffer begins with the bytes of the nodes; the record's top level is the root; and until
-- finish the table has the ongoing states.
pub record Mirrors (r : Run) (h : History) (nodes table : List ℕ) : Type 0 where
  pub whole : sound h ≡ true
  pub long : long_enough h (length nodes) (length table) ≡ true
  pub shape : r.shape ≡ shape_of h.shape
  pub start : h.start ≡ (left r).start
  pub latest : h.latest ≡ (left r).latest
  pub attributes : h.attributes ≡ (left r).attributes
  pub finished : h.finished ≡ (left r).finished
  pub used : h.used ≡ (tree r).used
  pub rest : List ℕ
  pub bytes : nodes ≡ bytes_of h.shape (made r) ++ rest
  pub root : Head
  pub below : Subtrees
  pub rooted : stands r ≡ also childless root (open_end (left r)) below
  pub place : place_at h.branch h.top ≡ placed root.seq
  pub level : h.top ≡ root.level
  pub entries : (left r).finished ≡ false → (q : ℕ) → q < (left r).attributes → ongoing_at table q ≡ ongoing_of ((left r).table q)
