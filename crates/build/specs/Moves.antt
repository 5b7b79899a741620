-- The four ways in which record and node bytes change together: close, raise, make, store; and the part of store that is not the header.
use Rattle.std.specs.Prelude.{ℕ, ◌+◌, ◌*◌, ◌≤◌, ◌<◌, cond, List, ltb, length, Option, Some, None}
use Rattle.std.proofs.lemmas.List.Edits.{sets}
use Rattle.layout.specs.declared.Seq.{Seq}
use Rattle.layout.specs.declared.Header.{Header}
use Rattle.layout.specs.declared.Entry.{Entry}
use Rattle.layout.specs.declared.Child.{Child}
use Rattle.layout.specs.Layout.{node_size, child_at, entry_at, header_bytes, child_bytes, entry_bytes, encode, new_node}
use Rattle.record.specs.declared.Branch.{Branch}
use Rattle.record.specs.declared.History.{History}
use Rattle.record.specs.Levels.{seq_at, place_at, start_at, intervals_at, children_at}
use Rattle.record.specs.Firm.{Shaped}
use Rattle.record.specs.Moves.{closed, raised, made, stored}

-- a record and a node buffer
pub record Held : Type 0 where
  pub history : History
  pub nodes : List ℕ

abbrev pub held : History → List ℕ → Held
held h b = record { history = h; nodes = b }

-- the buffer has room for N nodes
abbrev pub Room : History → List ℕ → Type 0
Room h b = h.shape.n * node_size h.shape ≤ length b

-- what the header of level l says has room in it
pub record Fitting (b : Branch) (root l : ℕ) : Type 0 where
  pub level : l < 16
  pub top : root < 16
  pub place : place_at b l < 4294967296
  pub intervals : intervals_at b l < 65536
  pub children : children_at b l < 65536
  pub parent : l < root → place_at b (l + 1) < 4294967296

-- level l's node stands inside the buffer
pub record Standing (h : History) (l : ℕ) (b : List ℕ) : Type 0 where
  pub shaped : Shaped h.shape
  pub fitting : Fitting h.branch h.top l
  pub place : place_at h.branch l < h.shape.n
  pub room : Room h b

-- "end u64 (2^64-1 while open)"
abbrev pub open_end : ℕ
open_end = 18446744073709551615

-- "parent u32 (2^32-1 for none)": "A root's parent is" none
unfoldable pub parent_at : History → ℕ → Seq
parent_at h l = cond (ltb l h.top) (seq_at h.branch (l + 1)) (record { 0 = 4294967295 })

-- "What is written into open nodes comes from the record, not from node bytes": the header of level l, with this end and state (1 open, 2 closed)
unfoldable pub head_of : History → ℕ → ℕ → ℕ → Header
head_of h l end state = record {
  start = start_at h.branch l;
  end = end;
  sequence = seq_at h.branch l;
  parent = parent_at h l;
  intervals = intervals_at h.branch l;
  children = children_at h.branch l;
  level = l;
  state = state;
}

-- "Node i stands at i times the node size."
unfoldable pub stands_at : History → ℕ → ℕ
stands_at h l = place_at h.branch l * node_size h.shape

-- "A header that changes is written whole"
unfoldable pub put_head : History → ℕ → ℕ → ℕ → List ℕ → List ℕ
put_head h l end state b = sets b (stands_at h l) (header_bytes (head_of h l end state))

-- "a new node too"
unfoldable pub put_new : History → ℕ → Option Child → List ℕ → List ℕ
put_new h l first b = sets b (stands_at h l) (encode h.shape (new_node (head_of h l open_end 1) first))

-- index of a level's next child entry
abbrev pub slot : History → ℕ → ℕ
slot h l = children_at h.branch l

-- "Closing gives the node .. the end S": the lowest level, under an open one
unfoldable pub close : Held → Held
close σ = let h = σ.history in record { history = closed h; nodes = put_head h h.low h.largest_end 2 σ.nodes }

-- "a new root is made .. with the old root as its only child, which learns its parent in the same call"
unfoldable pub raise : Held → Held
raise σ = let h = σ.history in let g = raised h in record {
  history = g;
  nodes = put_new g (h.top + 1) (Some (record { sequence = seq_at h.branch h.top; start = start_at h.branch h.top }))
      (put_head g h.top h.largest_end 2 σ.nodes);
}

-- the parent at level l, h before and g after: its header, and its new child entry
unfoldable pub with_child : History → History → ℕ → ℕ → List ℕ → List ℕ
with_child h g a l b = sets (put_head g l open_end 1 b) (stands_at h l + child_at (slot h l)) (child_bytes (record { sequence = record { 0 = h.used }; start = a }))

-- a node of a chain, at level l and starting at a: its parent's, and the new node whole
unfoldable pub make : ℕ → ℕ → Held → Held
make a l σ = let h = σ.history in let g = made h a l in record { history = g; nodes = put_new g l None (with_child h g a (l + 1) σ.nodes) }

-- level l takes an interval: its header, and the entry
unfoldable pub store : Entry → ℕ → Held → Held
store e l σ = let h = σ.history in let g = stored h l in record {
  history = g;
  nodes = sets (put_head g l open_end 1 σ.nodes) (stands_at h l + entry_at h.shape (intervals_at h.branch l)) (entry_bytes e);
}

-- how finish goes about it: the entry alone, the header is written later
unfoldable pub added : Entry → ℕ → Held → Held
added e l σ = let h = σ.history in record {
  history = stored h l;
  nodes = sets σ.nodes (stands_at h l + entry_at h.shape (intervals_at h.branch l)) (entry_bytes e);
}
