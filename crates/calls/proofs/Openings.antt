-- Opening: each way through the code, and what acceptance gives. Assumes nothing.
use Prim.Native.Nat.{ℕ, suc, ◌+◌, ◌-◌, ◌*◌, ◌/◌, ◌≤◌, ◌<◌}
use mathlib.Core.Path.{◌≡◌, refl, sym, ap, ◌∙◌}
use mathlib.Core.Bool.{Bool, true, false, not, ◌&&◌, false≢true}
use mathlib.Core.List.{List, [], ◌∷◌}
use native.Mathlib.Omega.{arith}
use lib.Dec.{leb, lit<}
use lib.ListN.{length}
use borrow.Author.Tests.{leb-true, not-true, not-false}
use Rattle.layout.specs.declared.Shape.{Shape}
use Rattle.layout.specs.Layout.{node_size, entry_size}
use Rattle.record.specs.declared.History.{History}
use Rattle.record.specs.Refusals.{Reply, Nothing, Numbers, Short, accepted, first_of}
use Rattle.record.specs.Sound.{last_time, shape_allowed, long_enough}
use Rattle.record.proofs.Facts.{sound_shaped}
use Rattle.transient.specs.declared.Ongoing.{Ongoing}
use Rattle.transient.specs.Transient.{table_at, begins, with_ongoing}
use Rattle.build.specs.Moves.{Standing}
use Rattle.build.specs.Write.{planted}
use Rattle.calls.specs.Outcome.{answered, outcome}
use Rattle.calls.specs.Open.{opened, table_opened, open_refusal, open_on}
use Rattle.calls.proofs.Refused.{comes_refused, comes_done}

both : (a b : Bool) → a && b ≡ true → (a ≡ true) × (b ≡ true)
both true b e = (refl, e)
both false b e = absurd (false≢true e)

-- ---- the list: its two tests, each of what is wanted

module _ (a b : Bool) where
  abbrev listed : Reply
  listed = first_of ((not a, Numbers) ∷ (not b, Short) ∷ [])

  first : a ≡ false → Numbers ≡ listed
  first e = rw e

  second : a ≡ true → b ≡ false → Short ≡ listed
  second e f = rw (e, f)

  none : a ≡ true → b ≡ true → Nothing ≡ listed
  none e f = rw (e, f)

module _ (start attributes : ℕ) (shape : Shape) where
  -- "a number of the list above, its start included" lies in its range
  abbrev allowed : Bool
  allowed = shape_allowed shape && leb start last_time && leb attributes 4096

  module _ (nodes table : ℕ) (x : Bool) (is : x ≡ shape_allowed shape) where
    pub open_numbers : not (x && leb start last_time && leb attributes 4096) ≡ true → Numbers ≡ open_refusal start attributes shape nodes table
    unfolding open_refusal
    open_numbers e =
        first allowed (long_enough (opened start attributes shape) nodes table)
        (ap (λ (b : Bool). b && leb start last_time && leb attributes 4096) (sym is) ∙ not-true (x && leb start last_time && leb attributes 4096) e)

    module _ (e : not (x && leb start last_time && leb attributes 4096) ≡ false) where
      in_range : allowed ≡ true
      in_range = ap (λ (b : Bool). b && leb start last_time && leb attributes 4096) (sym is) ∙ not-false (x && leb start last_time && leb attributes 4096) e

      pub open_small : (shape.n ≤ 65536) × (node_size shape ≤ 65536)
      open_small =
          let f = sound_shaped shape (both (shape_allowed shape) (leb start last_time) (both (shape_allowed shape && leb start last_time) (leb attributes 4096) in_range).0).0 in
          (f.nodes, f.size)

      module _ (y : Bool) (long : y ≡ leb (shape.n * node_size shape) nodes && leb attributes (table / entry_size)) where
        enough : long_enough (opened start attributes shape) nodes table ≡ y
        unfolding long_enough opened
        enough = sym long

        pub open_short : not y ≡ true → Short ≡ open_refusal start attributes shape nodes table
        unfolding open_refusal
        open_short n = second allowed (long_enough (opened start attributes shape) nodes table) in_range (enough ∙ not-true y n)

        pub open_fine : not y ≡ false → Nothing ≡ open_refusal start attributes shape nodes table
        unfolding open_refusal
        open_fine n = none allowed (long_enough (opened start attributes shape) nodes table) in_range (enough ∙ not-false y n)

-- ---- the table's first entries

pub opens_begin : (start attributes : ℕ) (table : List ℕ) → table_opened start (attributes - 0) 0 table ≡ table_opened start attributes 0 table
opens_begin start attributes table = let z : attributes - 0 ≡ attributes = omega arith in rw z

module _ (start attributes q : ℕ) (table all : List ℕ) (so_far : table_opened start (attributes - q) q table ≡ all) where
  pub opens_turn : q < attributes → (o : Ongoing) (next : List ℕ) → o ≡ begins start → next ≡ with_ongoing table (record { 0 = q }) o → table_opened start (attributes - (q + 1)) (q + 1) next ≡ all
  unfolding table_opened
  opens_turn lt o next a b =
      let z : attributes - q ≡ suc (attributes - (q + 1)) = omega arith in
      let s : table_opened start (attributes - (q + 1)) (q + 1) (with_ongoing table (record { 0 = q }) (begins start)) ≡ all = simp z at so_far in
      rw (b, a) s

  pub opens_end : attributes ≤ q → table ≡ all
  unfolding table_opened
  opens_end le = let z : attributes - q ≡ 0 = omega arith in simp z at so_far

pub opens_room : (q attributes m n : ℕ) → q < attributes → attributes * entry_size ≤ n → m ≡ n → table_at q + entry_size ≤ m
opens_room q attributes m n lt le e = omega arith

-- ---- the call

module _ (start attributes : ℕ) (shape : Shape) (nodes table : ℕ) (r : Reply) (said : r ≡ open_refusal start attributes shape nodes table) (e : r ≡ Nothing) where
  opens : (allowed start attributes shape ≡ true) × (long_enough (opened start attributes shape) nodes table ≡ true)
  unfolding open_refusal
  opens = go (allowed start attributes shape) (long_enough (opened start attributes shape) nodes table) (sym e ∙ said)
    where
      go : (a b : Bool) → Nothing ≡ first_of ((not a, Numbers) ∷ (not b, Short) ∷ []) → (a ≡ true) × (b ≡ true)
      go true true z = (refl, refl)
      go true false z = let n : ◌≡◌ {A = ℕ} 0 1 = cc in absurd (omega arith)
      go false b z = let n : ◌≡◌ {A = ℕ} 0 1 = cc in absurd (omega arith)

  shaped : shape_allowed shape ≡ true
  shaped = (both (shape_allowed shape) (leb start last_time) (both (shape_allowed shape && leb start last_time) (leb attributes 4096) opens.0).0).0

  some : 1 ≤ shape.n
  unfolding shape_allowed
  some =
      let a = both (leb 1 shape.k && leb 2 shape.c && leb shape.c 50 && leb (node_size shape) 65536 && leb 1 shape.n) (leb shape.n 65536) shaped in
      leb-true 1 shape.n (both (leb 1 shape.k && leb 2 shape.c && leb shape.c 50 && leb (node_size shape) 65536) (leb 1 shape.n) a.0).1

  long : (shape.n * node_size shape ≤ nodes) × (attributes ≤ table / entry_size)
  unfolding long_enough opened
  long =
      let a = both (leb (shape.n * node_size shape) nodes) (leb attributes (table / entry_size)) opens.1 in
      (leb-true (shape.n * node_size shape) nodes a.0, leb-true attributes (table / entry_size) a.1)

  -- node 0 stands in the buffer
  stands : (b : List ℕ) → length b ≡ nodes → Standing (opened start attributes shape) 0 b
  unfolding opened
  stands b n = record {
    shaped = sound_shaped shape shaped;
    fitting = record { level = lit< tt; top = lit< tt; place = lit< tt; intervals = lit< tt; children = lit< tt; parent = λ lt. lit< tt };
    place = some;
    room = rw n long.0;
  }

  pub opens_standing : (h : History) (b : List ℕ) → length b ≡ nodes → h ≡ opened start attributes shape → Standing h 0 b
  opens_standing h b n i = rw i (stands b n)

  pub opens_table : attributes * entry_size ≤ table
  opens_table = omega (arith, long.1)

module _ (start attributes : ℕ) (shape : Shape) (came : History) (nodes table : List ℕ) (r : Reply) (said : r ≡ open_refusal start attributes shape (length nodes) (length table)) where
  pub open_refused : accepted r ≡ false → outcome (answered r came) nodes table ≡ open_on came start attributes shape nodes table
  unfolding open_on
  open_refused e = comes_refused r _ said came nodes table _ e

  pub open_done : (h : History) (left rows : List ℕ) → r ≡ Nothing → h ≡ opened start attributes shape → left ≡ planted h nodes → rows ≡ table_opened start attributes 0 table
      → outcome (answered Nothing h) left rows ≡ open_on came start attributes shape nodes table
  unfolding open_on
  open_done h left rows e i a b =
      let is : outcome (answered Nothing h) left rows ≡ outcome (answered Nothing (opened start attributes shape)) (planted (opened start attributes shape) nodes) (table_opened start attributes 0 table) = rw (a, b, i) in
      is ∙ comes_done r _ said came nodes table _ e
