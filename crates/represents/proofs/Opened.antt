-- Opening: refused with 1 or 2 as its list says, else what is left stands for the history that was opened, with no call yet. Assumes nothing.
use Prim.Native.Nat.{ℕ, zero, suc, ◌+◌, ◌*◌, ◌/◌, ◌^◌, ◌≤◌, ◌<◌}
use mathlib.Core.Bool.{Bool, true, false, cond, not, ◌&&◌, false≢true}
use mathlib.Core.Path.{◌≡◌, refl, ap, ◌∙◌}
use mathlib.Core.List.{List, [], ◌∷◌}
use native.Mathlib.Omega.{arith}
use lib.Dec.{leb, eqb}
use lib.ListN.{length}
use borrow.Author.Tests.{leb-true, eqb-true, eqb-false}
use Rattle.layout.specs.declared.Shape.{Shape}
use Rattle.layout.specs.Layout.{node_size, entry_size}
use Rattle.record.specs.Refusals.{Nothing, number_of}
use Rattle.record.specs.Sound.{last_time, shape_allowed, long_enough}
use Rattle.record.proofs.Facts.{sound_shaped}
use Rattle.transient.specs.Transient.{begins, ongoing_at, with_ongoing}
use Rattle.transient.proofs.Sound.{both, begins_fits}
use Rattle.transient.proofs.Table.{length_with, ongoing_back, ongoing_other}
use Rattle.build.specs.Write.{planted}
use Rattle.build.proofs.Steps.{planted_length}
use Rattle.calls.specs.Open.{blank, opened, table_opened, open_refusal, open_on, open_of}
use Rattle.model.specs.Transient as M
use Rattle.model.specs.Build as B
use Rattle.model.specs.Build.{build}
use Rattle.model.specs.Refusals as R
use Rattle.represents.specs.Represents as S
use Rattle.represents.specs.Histories.{ongoing_of, Shows, Opening, Stands}
use Rattle.represents.proofs.Ends.{opened_represents}
use Rattle.represents.proofs.Refused.{said}

-- ---- the table

module _ (start : ℕ) (early : start < 2 ^ 64) where
  pub length_opened : (n q : ℕ) (table : List ℕ) → length (table_opened start n q table) ≡ length table
  unfolding table_opened
  length_opened zero q table = refl
  length_opened (suc n) q table = length_opened n (q + 1) (with_ongoing table (record { 0 = q }) (begins start)) ∙ length_with table (record { 0 = q }) (begins start)

  -- every entry is null from the start, those before q if they were
  entries_opened : (n q : ℕ) (table : List ℕ) (x : ℕ) → q + n ≤ length table / entry_size → q + n ≤ 4096 → x < q + n → (x < q → ongoing_at table x ≡ begins start)
      → ongoing_at (table_opened start n q table) x ≡ begins start
  unfolding table_opened
  entries_opened zero q table x room few lt was = was (omega arith)
  entries_opened (suc n) q table x room few lt was =
      let next = with_ongoing table (record { 0 = q }) (begins start) in
      let same = length_with table (record { 0 = q }) (begins start) in
      entries_opened n (q + 1) next x (omega arith) (omega arith) (omega arith) (λ z. go z (eqb x q) refl)
    where
      go : x < q + 1 → (t : Bool) → eqb x q ≡ t → ongoing_at (with_ongoing table (record { 0 = q }) (begins start)) x ≡ begins start
      go z true e = let k = eqb-true x q e in
          ap (λ (y : ℕ). ongoing_at (with_ongoing table (record { 0 = q }) (begins start)) y) k
          ∙ ongoing_back table (record { 0 = q }) (begins start) (omega arith) (begins_fits start early) (omega arith)
      go z false e = let k = eqb-false x q e in
          ongoing_other table (record { 0 = q }) (begins start) x k ∙ was (less x q z k)
        where
          less : (x q : ℕ) → x < q + 1 → (x ≡ q → ⊥) → x < q
          less x q z k = omega arith

pub begins_unset : (start : ℕ) → begins start ≡ ongoing_of (M.unset start)
unfolding begins
begins_unset start = refl

-- ---- the record

one_node : (s : Shape) → shape_allowed s ≡ true → 1 ≤ s.n
unfolding shape_allowed
one_node s e =
    let first = leb 1 s.k && leb 2 s.c && leb s.c 50 && leb (node_size s) 65536 in
    leb-true 1 s.n (both first (leb 1 s.n) (both (first && leb 1 s.n) (leb s.n 65536) e).0).1

opened_numbers : (a n : ℕ) (s : Shape) → S.Numbers s a a 1 (B.planted a).branch (opened a n s)
unfolding opened
opened_numbers a n s = record {
  shape = refl;
  start = refl;
  largest = refl;
  used = refl;
  top = refl;
  shallow = omega arith;
  lines = ((refl, refl, refl, refl, refl), tt);
  last = tt;
  long = record { places = refl; starts = refl; intervals = refl; children = refl; last_ends = refl };
}

-- ---- the call

module _ (start attributes : ℕ) (s : Shape) (b table : List ℕ) where
  -- "1 .. a number of the list above, its start included, outside its range"; "2 a lent buffer too short"
  pub open_answers : number_of (open_of start attributes s b table).answer.refusal
      ≡ R.first_of (
      (not (shape_allowed s && leb start last_time && leb attributes 4096), 1)
      ∷ (not (long_enough (opened start attributes s) (length b) (length table)), 2)
      ∷ []
      )
  unfolding open_of open_on open_refusal number_of
  open_answers = go (shape_allowed s && leb start last_time && leb attributes 4096) (long_enough (opened start attributes s) (length b) (length table)) refl refl
    where
      go : (x y : Bool) → shape_allowed s && leb start last_time && leb attributes 4096 ≡ x → long_enough (opened start attributes s) (length b) (length table) ≡ y
          → number_of (open_of start attributes s b table).answer.refusal ≡ cond (not x) 1 (cond (not y) 2 0)
      go true true e f = simp (e, f)
      go true false e f = simp (e, f)
      go false y e f = simp e

  -- it says what its list answers
  pub open_says : (open_of start attributes s b table).answer.refusal ≡ open_refusal start attributes s (length b) (length table)
  unfolding open_of open_on
  open_says = said (open_refusal start attributes s (length b) (length table)) blank b table _ refl

  -- refused, it gives a record of zeros, and nothing is written
  pub open_refused : (open_refusal start attributes s (length b) (length table) ≡ Nothing → ⊥)
      → ((open_of start attributes s b table).answer.history ≡ blank) × ((open_of start attributes s b table).nodes ≡ b) × ((open_of start attributes s b table).table ≡ table)
  unfolding open_of open_on open_refusal
  open_refused why = go (shape_allowed s && leb start last_time && leb attributes 4096) (long_enough (opened start attributes s) (length b) (length table)) refl refl
    where
      go : (x y : Bool) → shape_allowed s && leb start last_time && leb attributes 4096 ≡ x → long_enough (opened start attributes s) (length b) (length table) ≡ y
          → ((open_of start attributes s b table).answer.history ≡ blank) × ((open_of start attributes s b table).nodes ≡ b) × ((open_of start attributes s b table).table ≡ table)
      go true true e f = absurd (why (simp (e, f)))
      go true false e f = (simp (e, f), simp (e, f), simp (e, f))
      go false y e f = (simp e, simp e, simp e)

  abbrev opening : Opening
  opening = record { shape = s; start = start; attributes = attributes; entries = length table / entry_size }

  module _ (allowed : shape_allowed s ≡ true) (begins-in : start ≤ last_time) (few : attributes ≤ 4096) (room : s.n * node_size s ≤ length b) (entries : attributes ≤ length table / entry_size) where
    opened_shows : Shows s (M.opened start attributes) (opened start attributes s) (planted (opened start attributes s) b) (table_opened start attributes 0 table)
    unfolding opened build
    opened_shows =
        let f = sound_shaped s allowed in
        let early : start < 2 ^ 64 = omega arith in
        record {
          shape = refl;
          start = refl;
          latest = refl;
          attributes = refl;
          finished = refl;
          allowed = allowed;
          few = few;
          room = omega (arith, planted_length (opened start attributes s) b);
          until = λ e. record {
            tree = opened_represents s start (opened start attributes s) b (opened_numbers start attributes s) (record { intervals = f.some; children = f.two }) (one_node s allowed) room (omega arith);
            long = omega (arith, length_opened start early attributes 0 table);
            entries = λ q lt. entries_opened start early attributes 0 table q (omega arith) (omega arith) (omega arith) (λ z. absurd (omega arith)) ∙ begins_unset start;
          };
          after = λ e. absurd (false≢true e);
        }

    opened_stands : Stands opening [] (opened start attributes s) (planted (opened start attributes s) b) (table_opened start attributes 0 table)
    unfolding R.accepted M.history
    opened_stands = record {
      shows = opened_shows;
      begins = begins-in;
      entries = λ e. ap (λ (z : ℕ). z / entry_size) (length_opened start (omega arith) attributes 0 table);
      values = tt;
    }

  -- accepted, what is left stands for the history that was opened
  pub open_stands : open_refusal start attributes s (length b) (length table) ≡ Nothing
      → Stands opening [] (open_of start attributes s b table).answer.history (open_of start attributes s b table).nodes (open_of start attributes s b table).table
  unfolding open_of open_on open_refusal opened long_enough
  open_stands e = go (shape_allowed s && leb start last_time && leb attributes 4096) (long_enough (opened start attributes s) (length b) (length table)) refl refl
    where
      go : (x y : Bool) → shape_allowed s && leb start last_time && leb attributes 4096 ≡ x → long_enough (opened start attributes s) (length b) (length table) ≡ y
          → Stands opening [] (open_of start attributes s b table).answer.history (open_of start attributes s b table).nodes (open_of start attributes s b table).table
      go true true f g =
          let n = both (shape_allowed s && leb start last_time) (leb attributes 4096) f in
          let m = both (shape_allowed s) (leb start last_time) n.0 in
          let k = both (leb (s.n * node_size s) (length b)) (leb attributes (length table / entry_size)) g in
          simp (f, g) (opened_stands m.0 (leb-true _ _ m.1) (leb-true _ _ n.1) (leb-true _ _ k.0) (leb-true _ _ k.1))
      go true false f g = let z : ◌≡◌ {A = ℕ} 0 1 = cc (simp (f, g) at e) in absurd (omega arith)
      go false y f g = let z : ◌≡◌ {A = ℕ} 0 1 = cc (simp f at e) in absurd (omega arith)
