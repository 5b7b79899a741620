-- Document 01's examples on the model, by computation: E1 to E8 and E10 (E9 is about node sizes). Calls have the latest first.
use Rattle.std.specs.Prelude.{ℕ, ◌-◌, ◌^◌, ◌≡◌, refl, List, [], ◌∷◌, map, pos, negsuc, length}
use Rattle.std.proofs.Math.Option.{Option, none, some}
use Rattle.model.specs.State.{State, null, int}
use Rattle.model.specs.Transient.{Interval, set, remove, increment, Call, change, add, finish, History, stores, step, history}
use Rattle.model.specs.Build.{Shape, insert, onto, build}
use Rattle.model.specs.Nodes.{Node, nodes, standing}
use Rattle.model.specs.Questions.{single, full}
use Rattle.model.specs.Refusals.{refuse_stated, limits, refuse, accepted, refuse_single, refuse_full}

-- ═══ "For open(0, 2, K 2, C 2, N 6), set(10, q0, 1), set(10, q1, 5), set(20, q0, 2), set(30, q1, 6), remove(40, q0), finish(50)" ═══

abbrev shape : Shape
shape = record { K = 2; C = 2 }

abbrev calls : List Call
calls = change 40 0 remove ∷ change 30 1 (set (pos 6)) ∷ change 20 0 (set (pos 2)) ∷ change 10 1 (set (pos 5)) ∷ change 10 0 (set (pos 1)) ∷ []

-- all of them are accepted; a table of 64 entries
taken : accepted shape 6 64 0 2 (finish 50 ∷ calls) ≡ finish 50 ∷ calls
unfolding accepted refuse refuse_stated limits step stores history insert onto build
taken = refl

abbrev before : History
before = history 0 2 calls

abbrev finished : History
finished = history 0 2 (finish 50 ∷ calls)

abbrev iv : ℕ → State → ℕ → ℕ → Interval
iv q s a e = record { quark = q; state = s; start = a; end = e }

-- a full question's intervals and number of nodes, and a single one's
abbrev full_of : History → ℕ → List Interval × ℕ
full_of l t = let r = full shape l t in (r.found, length r.entered)

abbrev single_of : History → ℕ → ℕ → List Interval × ℕ
single_of l q t = let r = single shape l q t in (r.found, length r.entered)

-- a node's sequence, level, bounds and parent
abbrev brief : Node → ℕ × ℕ × ℕ × ℕ × Option ℕ
brief n = (n.seq, n.level, n.start, n.end, n.parent)

-- "7 0 20 39 1 2 3": single(25, q0); "8 0 3": full(25)
listing_single : single_of finished 0 25 ≡ (iv 0 (int (pos 2)) 20 39 ∷ [], 3)
unfolding step stores history insert build standing single
listing_single = refl

listing_full : full_of finished 25 ≡ (iv 0 (int (pos 2)) 20 39 ∷ iv 1 (int (pos 5)) 10 29 ∷ [], 3)
unfolding step stores history insert build standing full
listing_full = refl

-- "E1 .. Nodes after finish: 0 [0,9], 1 [0,39], 2 [10,29], 3 root [0,50], 4 and 5 [40,50]."
E1 : map brief (nodes (standing shape finished))
    ≡ (0, 0, 0, 9, some 1) ∷ (1, 1, 0, 39, some 3) ∷ (2, 0, 10, 29, some 1) ∷ (3, 2, 0, 50, none) ∷ (4, 1, 40, 50, some 3) ∷ (5, 0, 40, 50, some 4) ∷ []
unfolding step stores history insert build standing
E1 = refl

-- "E2 Full at 39: q0 2 [20,39], q1 6 [30,50], 2 nodes."
E2 : full_of finished 39 ≡ (iv 0 (int (pos 2)) 20 39 ∷ iv 1 (int (pos 6)) 30 50 ∷ [], 2)
unfolding step stores history insert build standing full
E2 = refl

-- "E3 Full at 40: q0 null [40,50], q1 6 [30,50], 3 nodes."
E3 : full_of finished 40 ≡ (iv 0 null 40 50 ∷ iv 1 (int (pos 6)) 30 50 ∷ [], 3)
unfolding step stores history insert build standing full
E3 = refl

-- "E4 Full at 0: null [0,9] twice, 3 nodes. At 51: refused 6."
E4 : (full_of finished 0 ≡ (iv 0 null 0 9 ∷ iv 1 null 0 9 ∷ [], 3)) × (refuse_full finished 51 ≡ 6)
unfolding step stores history insert build standing full
E4 = (refl, refl)

-- "E5 With N 5, finish is refused 11; all before it is accepted."
E5 : (refuse shape 5 64 before (finish 50) ≡ 11) × (accepted shape 5 64 0 2 calls ≡ calls)
unfolding accepted refuse refuse_stated limits step stores history insert onto build
E5 = (refl, refl)

-- "E6 Before finish: q0 at 39 enters 1 node; at 40 null, ongoing, 0 nodes; at 41 refused 6."
E6 : (single_of before 0 39 ≡ (iv 0 (int (pos 2)) 20 39 ∷ [], 1)) × (single_of before 0 40 ≡ (iv 0 null 40 (2 ^ 64 - 1) ∷ [], 0)) × (refuse_single before 0 41 ≡ 6)
unfolding step stores history insert build standing single
E6 = (refl, refl, refl)

-- "E7 Before finish, q1 set to 7 at 40, then to 6 at 40: one interval, 6 [30,39]; ongoing 6 from 40."
abbrev twice : History
twice = history 0 2 (change 40 1 (set (pos 6)) ∷ change 40 1 (set (pos 7)) ∷ calls)

E7 : (twice.stored ≡ iv 1 (int (pos 6)) 30 39 ∷ before.stored) × (twice.table 1 ≡ record { state = int (pos 6); start = 40 })
unfolding step stores history
E7 = (refl, refl)

-- "E8 Increment of null gives 1, of -1 gives 0, of 2^63-1 refused 9."
E8 : (((history 0 1 (change 5 0 increment ∷ [])).table 0).state ≡ int (pos 1))
    × (((history 0 1 (change 6 0 increment ∷ change 5 0 (set (negsuc 0)) ∷ [])).table 0).state ≡ int (pos 0))
    × (refuse shape 6 64 (history 0 1 (change 5 0 (set (pos (2 ^ 63 - 1))) ∷ [])) (change 6 0 increment) ≡ 9)
unfolding refuse refuse_stated limits step stores history insert onto build
E8 = (refl, refl, refl)

-- "E10 K 1, C 2, no events, finish at once: 16 attributes accepted at depth 16 with N 16; 17 refused 10; 17 with N 15 refused 11."
abbrev at_once : ℕ → ℕ → ℕ
at_once N n = refuse (record { K = 1; C = 2 }) N 64 (history 0 n []) (finish 0)

E10 : (at_once 16 16 ≡ 0) × (at_once 16 17 ≡ 10) × (at_once 15 17 ≡ 11)
unfolding refuse refuse_stated limits step stores history insert onto build
E10 = (refl, refl, refl)

-- the other refusals: 4 finished, 5 earlier, 6 too late, 7 no such quark, 8 no room for an attribute
others : (refuse shape 6 64 finished (finish 50) ≡ 4) × (refuse shape 6 64 before (change 39 0 remove) ≡ 5) × (refuse shape 6 64 before (finish (2 ^ 63)) ≡ 6)
    × (refuse shape 6 64 before (change 40 2 remove) ≡ 7) × (refuse_single before 2 40 ≡ 7) × (refuse shape 6 2 before add ≡ 8)
unfolding refuse refuse_stated limits step stores history insert onto build
others = (refl, refl, refl, refl, refl, refl)

-- ═══ Where it is easy to slip ═══

-- "Closing a node with its own largest end; the end is S.": node 2 holds one interval, [10,19], and ends at 29. K 1, C 2; four sets of q0, q0, q1, q0.
abbrev closings : List Call
closings = change 40 0 (set (pos 4)) ∷ change 30 1 (set (pos 3)) ∷ change 20 0 (set (pos 2)) ∷ change 10 0 (set (pos 1)) ∷ []

closes_with_S : map brief (nodes (standing (record { K = 1; C = 2 }) (history 0 2 closings)))
    ≡ (0, 0, 0, 9, some 1) ∷ (1, 1, 0, 29, some 3) ∷ (2, 0, 10, 29, some 1) ∷ (3, 2, 0, 2 ^ 64 - 1, none) ∷ []
unfolding step stores history insert build standing
closes_with_S = refl

-- "then closes all open nodes with end T", also where nothing is stored: no attribute
finish_closes_with_T : map brief (nodes (standing shape (history 0 0 (finish 10 ∷ [])))) ≡ (0, 0, 0, 10, none) ∷ []
unfolding step stores history insert build standing
finish_closes_with_T = refl

-- "when added later, it is null from the history's start"
added_later : single_of (history 0 1 (add ∷ change 5 0 (set (pos 1)) ∷ [])) 1 3 ≡ (iv 1 null 0 (2 ^ 64 - 1) ∷ [], 0)
unfolding step stores history insert build standing single
added_later = refl
