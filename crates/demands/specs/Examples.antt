-- The specification's examples E1 to E10 as one table: calls, what each is to say, and the nodes that are to be left. `AllHold` says that all of it comes out, by the
-- definitions of the calls and questions, bytes and all; `proofs/Examples.antt` computes it.
use Rattle.std.specs.Prelude.{ℕ, zero, suc, ◌+◌, ◌*◌, ◌-◌, ◌^◌, false, cond, ◌≡◌, List, [], ◌∷◌, ◌++◌, ℤ, pos, negsuc, replicate}
use Rattle.std.proofs.Math.Option.{Option, none, some}
use Rattle.layout.specs.declared.Shape.{Shape}
use Rattle.layout.specs.declared.Entry.{Entry}
use Rattle.layout.specs.Layout.{entry_size, node_size, read_header, read_entry}
use Rattle.record.specs.Refusals.{number_of, accepted}
use Rattle.calls.specs.Open.{blank}
use Rattle.demands.specs.Runs.{Call, opening, set, remove, increment, add, finish, single, full, State, Answer, step, run}

-- ═══ A row ═══

-- what a call says: a number; an accepted single question besides its nodes entered and its interval; an accepted full question its nodes entered and all intervals
pub data Said : Type 0 where
  number : ℕ → Said
  one : ℕ → Entry → Said
  all : ℕ → List Entry → Said

-- the nodes that are left: "Size 120", how deep the tree is, and the bounds of each node used, "0 [0,9], 1 [0,39]" and so on
pub record Nodes : Type 0 where
  pub size : ℕ
  pub depth : ℕ
  pub bounds : List (ℕ × ℕ)

pub record Row : Type 0 where
  pub nodes : ℕ  -- the lengths of the lent buffers, of zeros
  pub table : ℕ
  pub answer : ℕ
  pub calls : List (Call × Said)
  pub leaves : Option Nodes  -- none where the example does not speak of nodes

-- ═══ What comes out ═══

-- the first n entries of an answer, from the q-th on
unfoldable pub entries : List ℕ → ℕ → ℕ → List Entry
entries b q zero = []
entries b q (suc n) = read_entry b (entry_size * q) ∷ entries b (q + 1) n

abbrev pub shown : Call → State → Answer → Said
shown (opening start attributes shape) σ a = number (number_of a.refusal)
shown (set t q v) σ a = number (number_of a.refusal)
shown (remove t q) σ a = number (number_of a.refusal)
shown (increment t q) σ a = number (number_of a.refusal)
shown add σ a = number (number_of a.refusal)
shown (finish t) σ a = number (number_of a.refusal)
shown (single t q) σ a = cond (accepted a.refusal) (one a.nodes a.entry) (number (number_of a.refusal))
shown (full t) σ a = cond (accepted a.refusal) (all a.nodes (entries σ.answer 0 σ.history.attributes)) (number (number_of a.refusal))

-- each call with what it says
unfoldable pub spoken : List (Call × Said) → State → List (Call × Said)
spoken [] σ = []
spoken (x ∷ later) σ = let next = step x.0 σ in (x.0, shown x.0 next.0 next.1) ∷ spoken later next.0

abbrev pub calls : List (Call × Said) → List Call
calls [] = []
calls (x ∷ later) = x.0 ∷ calls later

-- of the n nodes from the i-th on, each of so many bytes
unfoldable pub bounds_from : List ℕ → ℕ → ℕ → ℕ → List (ℕ × ℕ)
bounds_from b size i zero = []
bounds_from b size i (suc n) = let h = read_header b (size * i) in (h.start, h.end) ∷ bounds_from b size (i + 1) n

unfoldable pub nodes_of : State → Nodes
nodes_of σ =
    let size = node_size σ.history.shape in record { size = size; depth = σ.history.top + 1; bounds = bounds_from σ.nodes size 0 σ.history.used }

-- no history is open, and all buffers are zeros
abbrev pub fresh : Row → State
fresh r = record { begun = false; history = blank; nodes = replicate r.nodes 0; table = replicate r.table 0; answer = replicate r.answer 0 }

abbrev pub Left : Option Nodes → State → Type 0
Left none σ = Unit {0}
Left (some n) σ = nodes_of σ ≡ n

-- the row comes out
pub record Holds (r : Row) : Type 0 where
  pub said : spoken r.calls (fresh r) ≡ r.calls
  pub left : Left r.leaves (run (calls r.calls) (fresh r))

abbrev pub AllHold : List Row → Type 0
AllHold [] = Unit {0}
AllHold (r ∷ rest) = Holds r × AllHold rest

-- ═══ The table ═══

abbrev shape : ℕ → ℕ → ℕ → Shape
shape k c n = record { k = k; c = c; n = n }

-- "2 [20,39]" and "null [40,50]" of an attribute
abbrev int : ℕ → ℤ → ℕ → ℕ → Entry
int q v a e = record { quark = record { 0 = q }; kind = 1; start = a; end = e; value = v }

abbrev null : ℕ → ℕ → ℕ → Entry
null q a e = record { quark = record { 0 = q }; kind = 0; start = a; end = e; value = pos 0 }

-- the end of an ongoing state
abbrev ongoing : ℕ
ongoing = 18446744073709551615

-- accepted
abbrev ok : Said
ok = number 0

-- "set(10, q0, 1), set(10, q1, 5), set(20, q0, 2), set(30, q1, 6), remove(40, q0)", after open(0, 2, K 2, C 2, N)
abbrev before : ℕ → List (Call × Said)
before n =
    (opening 0 2 (shape 2 2 n), ok)
    ∷ (set 10 0 (pos 1), ok)
    ∷ (set 10 1 (pos 5), ok)
    ∷ (set 20 0 (pos 2), ok)
    ∷ (set 30 1 (pos 6), ok)
    ∷ (remove 40 0, ok)
    ∷ []

-- a row on these, where N nodes of 120 bytes, two entries of the table and two of the answer are lent
abbrev two : ℕ → List (Call × Said) → Option Nodes → Row
two n after left = record { nodes = 120 * n; table = 64; answer = 64; calls = before n ++ after; leaves = left }

-- and on the finished history
abbrev finished : List (Call × Said) → Option Nodes → Row
finished after left = two 6 ((finish 50, ok) ∷ after) left

-- "E1 Size 120. Nodes after finish: 0 [0,9], 1 [0,39], 2 [10,29], 3 root [0,50], 4 and 5 [40,50].", with the listing's "single(25, q0), full(25)"
abbrev pub E1 : Row
E1 = finished
    ((single 25 0, one 3 (int 0 (pos 2) 20 39)) ∷ (full 25, all 3 (int 0 (pos 2) 20 39 ∷ int 1 (pos 5) 10 29 ∷ [])) ∷ [])
    (some (record { size = 120; depth = 3; bounds = (0, 9) ∷ (0, 39) ∷ (10, 29) ∷ (0, 50) ∷ (40, 50) ∷ (40, 50) ∷ [] }))

-- "E2 Full at 39: q0 2 [20,39], q1 6 [30,50], 2 nodes."
abbrev pub E2 : Row
E2 = finished ((full 39, all 2 (int 0 (pos 2) 20 39 ∷ int 1 (pos 6) 30 50 ∷ [])) ∷ []) none

-- "E3 Full at 40: q0 null [40,50], q1 6 [30,50], 3 nodes."
abbrev pub E3 : Row
E3 = finished ((full 40, all 3 (null 0 40 50 ∷ int 1 (pos 6) 30 50 ∷ [])) ∷ []) none

-- "E4 Full at 0: null [0,9] twice, 3 nodes. At 51: refused 6."
abbrev pub E4 : Row
E4 = finished ((full 0, all 3 (null 0 0 9 ∷ null 1 0 9 ∷ [])) ∷ (full 51, number 6) ∷ []) none

-- "E5 With N 5, finish is refused 11; all before it is accepted."
abbrev pub E5 : Row
E5 = two 5 ((finish 50, number 11) ∷ []) none

-- "E6 Before finish: q0 at 39 enters 1 node; at 40 null, ongoing, 0 nodes; at 41 refused 6."
abbrev pub E6 : Row
E6 = two 6 ((single 39 0, one 1 (int 0 (pos 2) 20 39)) ∷ (single 40 0, one 0 (null 0 40 ongoing)) ∷ (single 41 0, number 6) ∷ []) none

-- "E7 Before finish, q1 set to 7 at 40, then to 6 at 40: one interval, 6 [30,39]; ongoing 6 from 40."
abbrev pub E7 : Row
E7 = two 6
    ((set 40 1 (pos 7), ok) ∷ (set 40 1 (pos 6), ok) ∷ (single 39 1, one 2 (int 1 (pos 6) 30 39)) ∷ (single 40 1, one 0 (int 1 (pos 6) 40 ongoing)) ∷ [])
    none

-- "E8 Increment of null gives 1, of -1 gives 0, of 2^63-1 refused 9."
abbrev pub E8 : Row
E8 = record {
  nodes = 120;
  table = 96;
  answer = 0;
  calls =
      (opening 0 3 (shape 2 2 1), ok)
      ∷ (increment 0 0, ok) ∷ (single 0 0, one 0 (int 0 (pos 1) 0 ongoing))
      ∷ (set 0 1 (negsuc 0), ok) ∷ (increment 0 1, ok) ∷ (single 0 1, one 0 (int 1 (pos 0) 0 ongoing))
      ∷ (set 0 2 (pos (2 ^ 63 - 1)), ok) ∷ (increment 0 2, number 9)
      ∷ [];
  leaves = none;
}

-- "E9 C 50 with K 2,028 is allowed (65,528 bytes), K 2,029 refused 1." No buffer is lent, so what is allowed is answered 2, which comes after 1.
abbrev pub E9 : Row
E9 = record {
  nodes = 0;
  table = 0;
  answer = 0;
  calls = (opening 0 0 (shape 2028 50 1), number 2) ∷ (opening 0 0 (shape 2029 50 1), number 1) ∷ [];
  leaves = none;
}

-- "E10 K 1, C 2, no events, finish at once: 16 attributes accepted at depth 16 with N 16; 17 refused 10; 17 with N 15 refused 11."
abbrev pub E10 : ℕ → ℕ → Said → Option Nodes → Row
E10 n attributes said left = record {
  nodes = 88 * n;
  table = 32 * attributes;
  answer = 0;
  calls = (opening 0 attributes (shape 1 2 n), ok) ∷ (finish 0, said) ∷ [];
  leaves = left;
}

abbrev pub E10_16 : Row
E10_16 = E10 16 16 ok (some (record { size = 88; depth = 16; bounds = replicate 16 (0, 0) }))

abbrev pub E10_17 : Row
E10_17 = E10 16 17 (number 10) none

abbrev pub E10_15 : Row
E10_15 = E10 15 17 (number 11) none

abbrev pub table : List Row
table = E1 ∷ E2 ∷ E3 ∷ E4 ∷ E5 ∷ E6 ∷ E7 ∷ E8 ∷ E9 ∷ E10_16 ∷ E10_17 ∷ E10_15 ∷ []

-- the one theorem over it
abbrev pub Examples : Type 0
Examples = AllHold table
