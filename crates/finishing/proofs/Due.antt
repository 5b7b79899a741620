-- A header that is written late: once for a run of intervals that go into one node. Assumes nothing.
use Prim.Native.Nat.{ℕ, ◌+◌, ◌-◌, ◌≤◌, ◌<◌}
use mathlib.Core.Path.{◌≡◌, refl, sym, ap, subst, ◌∙◌}
use mathlib.Core.Bool.{Bool, true, false, not, false≢true}
use mathlib.Core.List.{List}
use native.Mathlib.Nat.{add-zero}
use native.Mathlib.Omega.{arith}
use lib.Dec.{eqb}
use lib.ListN.{length}
use lib.Seq.{sets}
use borrow.Author.Tests.{eqb-true, not-false}
use Rattle.std.specs.Prelude.{Option, None, Some}
use Rattle.std.specs.Option.{option_eq}
use Rattle.words.proofs.Stores.{sets_comm, sets_within, sets_all}
use Rattle.layout.specs.declared.Entry.{Entry}
use Rattle.layout.specs.Layout.{header_size, entry_at, header_bytes, entry_bytes}
use Rattle.layout.proofs.Parts.{length_header, header_room, node_room}
use Rattle.record.specs.declared.History.{History}
use Rattle.record.specs.Levels.{place_at, intervals_at}
use Rattle.record.specs.Sound.{last_time}
use Rattle.record.specs.Firm.{Firm}
use Rattle.record.specs.Moves.{with_branch, with_largest, level_stored, stored, stretched}
use Rattle.settle.specs.Settle.{lowest, taken}
use Rattle.build.specs.Moves.{Held, held, Room, open_end, head_of, stands_at, put_head, added, store}
use Rattle.build.specs.Write.{inserted}
use Rattle.build.proofs.Stands.{length_head}
use Rattle.build.proofs.Inserted.{taken_can, insert_taken}
use Rattle.finishing.specs.Due.{Due, caught_up}

-- ---- the header that is due

module _ (h : History) (b : List ℕ) where
  pub length_caught : (due : Option ℕ) → length (caught_up h due b) ≡ length b
  unfolding caught_up
  length_caught None = refl
  length_caught (Some l) = length_head h l b open_end 1

-- the test whether it is this level's
pub same_level : (due : Option ℕ) (l : ℕ) (t : Bool) → t ≡ not (option_eq eqb due (Some l)) → t ≡ false → due ≡ Some l
same_level None l t is e = absurd (false≢true (sym e ∙ is))
same_level (Some k) l t is e = ap (λ (x : ℕ). Some x) (eqb-true k l (not-false (eqb k l) (sym is ∙ e)))

-- ---- a later header of the same node covers an earlier one, and an entry lies apart from it

module _ (h g : History) (l : ℕ) (b : List ℕ) (same : stands_at g l ≡ stands_at h l) where
  head_over : stands_at h l + header_size ≤ length b → put_head g l open_end 1 (put_head h l open_end 1 b) ≡ put_head g l open_end 1 b
  unfolding put_head
  head_over inside =
      let X = header_bytes (head_of h l open_end 1) in
      let Y = header_bytes (head_of g l open_end 1) in
      let i = stands_at h l in
      let x : length X ≡ header_size = length_header (head_of h l open_end 1) in
      let y : length Y ≡ header_size = length_header (head_of g l open_end 1) in
      ap (λ (k : ℕ). sets (sets b i X) k Y) (same ∙ sym (add-zero i))
      ∙ sets_within b i X 0 Y (omega arith) (omega arith)
      ∙ ap (sets b i) (sets_all X Y (y ∙ sym x))
      ∙ ap (λ (k : ℕ). sets b k Y) (sym same)

module _ (h : History) (l : ℕ) (x : Entry) (b : List ℕ) where
  entry_behind : header_size ≤ entry_at h.shape (intervals_at h.branch l)
  unfolding entry_at
  entry_behind = omega arith

  head_later : put_head (stored h l) l open_end 1 (added x l (held h b)).nodes ≡ (store x l (held h b)).nodes
  unfolding added store put_head stands_at stored with_branch level_stored
  head_later =
      let H = head_of (stored h l) l open_end 1 in
      sym (sets_comm b (stands_at h l) (header_bytes H) (stands_at h l + entry_at h.shape (intervals_at h.branch l)) (entry_bytes x) (omega (arith, entry_behind, length_header H)))

-- ---- an open node takes the interval

-- n has what b has but for the header of level l: once that is written, n is b caught up, written so too
pub record Over (h : History) (b : List ℕ) (due : Option ℕ) (l : ℕ) (n : List ℕ) : Type 0 where
  pub long : length n ≡ length b
  pub same : (g : History) → stands_at g l ≡ stands_at h l → put_head g l open_end 1 n ≡ put_head g l open_end 1 (caught_up h due b)

module _ (h : History) (b : List ℕ) (due : Option ℕ) (l : ℕ) where
  -- the header that is due is this level's, and is left so
  pub over_same : Firm h → Room h b → h.low ≤ l → l ≤ h.top → due ≡ Some l → (n : List ℕ) → n ≡ b → Over h b due l n
  unfolding stands_at caught_up
  over_same f room low top is n e = record {
    long = ap length e;
    same = λ g stands.
        let c : caught_up h due b ≡ put_head h l open_end 1 b = ap (λ (k : Option ℕ). caught_up h k b) is in
        ap (put_head g l open_end 1) e ∙ sym (ap (put_head g l open_end 1) c ∙ head_over h g l b stands inside);
  }
    where
      inside : stands_at h l + header_size ≤ length b
      inside = omega (arith, header_room h.shape, node_room h.shape (place_at h.branch l) h.shape.n (length b) (omega (arith, f.placed l low top, f.used)) room)

  -- another header was due, and was written
  pub over_other : (n : List ℕ) → n ≡ caught_up h due b → Over h b due l n
  over_other n e = record { long = ap length e ∙ length_caught h b due; same = λ g s. ap (put_head g l open_end 1) e }

module _ (h : History) (b : List ℕ) (due : Option ℕ) (x : Entry) where
  module _ (v : History) (on : v ≡ stretched h x.end) (l : ℕ) (f : Firm h) (t : Bool) (told : t ≡ taken h x.start l) (told-yes : t ≡ true)
      (at : (l ≡ lowest (h.top - h.low) h.branch x.start h.low) × (h.low ≤ l) × (l ≤ h.top)) (n : List ℕ) (over : Over h b due l n) where
    pub late_can : Room h b → x.end ≤ last_time → Firm v × Room v n × (v.low ≤ l) × (l ≤ v.top) × (intervals_at v.branch l < v.shape.k)
    late_can room le = taken_can h n x v on l f t told told-yes at (omega (arith, room, over.long)) le

    module _ (r : History) (d : List ℕ) (k : held r d ≡ added x l (held v n)) where
      stands : stands_at (stored v l) l ≡ stands_at h l
      unfolding stands_at stored with_branch level_stored stretched with_largest
      stands = ap (λ (g : History). stands_at g l) on

      now_stored : r ≡ stored v l
      unfolding added
      now_stored = ap (λ (τ : Held). τ.history) k

      stored_nodes : caught_up r (Some l) d ≡ (store x l (held v (caught_up h due b))).nodes
      unfolding store caught_up
      stored_nodes =
          let g = stored v l in
          let j = stands_at v l + entry_at v.shape (intervals_at v.branch l) in
          ap (λ (z : History). put_head z l open_end 1 d) now_stored
          ∙ ap (λ (τ : Held). put_head g l open_end 1 τ.nodes) k
          ∙ head_later v l x n
          ∙ ap (λ (z : List ℕ). sets z j (entry_bytes x)) (over.same g stands)

      stored_late : held r (caught_up r (Some l) d) ≡ store x l (held v (caught_up h due b))
      unfolding store
      stored_late = λ i. record { history = now_stored i; nodes = stored_nodes i }

      still_open : Due r (Some l)
      unfolding stored with_branch stretched with_largest
      still_open = subst (λ (g : History). Due g (Some l)) (sym (now_stored ∙ ap (λ (g : History). stored g l) on)) (at.1, at.2)

      pub late_taken : Due r (Some l) × (held r (caught_up r (Some l) d) ≡ inserted x (held h (caught_up h due b)))
      late_taken = (still_open, (insert_taken h (caught_up h due b) x v on l f t told told-yes at _ stored_late).1)

  -- no open node takes it as it is: what is due was written before
  pub early_done : (n : List ℕ) → n ≡ caught_up h due b → (r : History) (d : List ℕ) → held r d ≡ inserted x (held h n)
      → Due r None × (held r (caught_up r None d) ≡ inserted x (held h (caught_up h due b)))
  unfolding caught_up
  early_done n e r d k = (tt, k ∙ ap (λ (z : List ℕ). inserted x (held h z)) e)
