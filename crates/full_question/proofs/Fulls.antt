-- The full question: each way through its definitions, and its table against the promise. Assumes nothing.
use Prim.Native.Nat.{ℕ, zero, suc, ◌+◌, ◌-◌, ◌/◌, ◌≤◌, ◌<◌}
use mathlib.Core.Path.{◌≡◌, refl, sym, ap, subst, ◌∙◌}
use mathlib.Core.Bool.{Bool, true, false, cond, not, ◌&&◌}
use mathlib.Core.List.{List, ◌++◌}
use native.Mathlib.Numerals.{add-one}
use native.Mathlib.Omega.{arith}
use lib.Dec.{T, leb, ltb, eqb}
use lib.ListN.{length, get_or}
use lib.Seq.{sets}
use borrow.Author.Tests.{ltb-true, ltb-false, eq-eqb, ne_eqb, not-true, not-false}
use Rattle.words.proofs.Stores.{sets_append}
use Rattle.layout.specs.declared.Entry.{Entry}
use Rattle.layout.specs.Layout.{entry_size, entry_bytes, read_entry}
use Rattle.layout.proofs.Parts.{length_entry}
use Rattle.record.specs.Refusals.{Nothing, Damaged}
use Rattle.transient.specs.declared.Ongoing.{Ongoing}
use Rattle.transient.specs.Transient.{table_at, ongoing_end, ongoing_at, ongoing_sound, interval}
use Rattle.walk.specs.declared.View.{View}
use Rattle.walk.specs.View.{Roomy}
use Rattle.walk.specs.Rules.{kept}
use Rattle.walk.specs.Walk.{root_of, walk_of}
use Rattle.questions.specs.Found.{many, found, found_of, shown}
use Rattle.questions.specs.Single.{from_table, table_entry, told_entry, entry_fine}
use Rattle.full_question.specs.Full.{Full, alone, full_entry, every_quark, full_entries, refused_full, walked_refusal, walked_full, walked_written}
use Rattle.full_question.specs.Table.{ongoing, begun_from, all_begun, found_all, entry_for, Readable, entries_from}
use Rattle.walk.proofs.Room.{table_in}
use Rattle.walk.proofs.Broken.{false_is, and_left, and_right}
use Rattle.questions.proofs.Finds.{Near, root_near, shown_some}
use Rattle.full_question.proofs.After.{found_after}
use Rattle.full_question.proofs.Tables.{found_all_at, length_from, begun_at}

-- ---- a test of all quarks

module _ (f : ℕ → Bool) where
  pub every_none : every_quark f 0 ≡ true
  unfolding every_quark
  every_none = refl

  pub every_more : (n : ℕ) → every_quark f n ≡ true → f n ≡ true → every_quark f (n + 1) ≡ true
  unfolding every_quark
  every_more n e g = rw (add-one, e, g)

  -- with one quark more
  pub every_next : (n : ℕ) (b c : Bool) → b ≡ every_quark f n → c ≡ f n → (b && c) ≡ every_quark f (n + 1)
  unfolding every_quark
  every_next n b c e g = rw (add-one, e, g)

  pub every_at : (n q : ℕ) → every_quark f n ≡ true → q < n → f q ≡ true
  unfolding every_quark
  every_at zero q e h = absurd (omega arith)
  every_at (suc n) q e h = go (ltb q n) refl (every_at n q (and_left (every_quark f n) (f n) e))
    where
      go : (b : Bool) → ltb q n ≡ b → (q < n → f q ≡ true) → f q ≡ true
      go true g r = r (ltb-true q n g)
      go false g r = let z : n ≡ q = omega (arith, ltb-false q n g) in subst (λ (k : ℕ). f k ≡ true) z (and_right (every_quark f n) (f n) e)

  -- one that fails is enough
  pub every_false : (n q : ℕ) → q < n → f q ≡ false → every_quark f n ≡ false
  every_false n q h e = go (every_quark f n) refl
    where
      go : (b : Bool) → every_quark f n ≡ b → every_quark f n ≡ false
      go false g = g
      go true g = absurd (subst T (sym (every_at n q g h) ∙ e) tt)

  pub every_true : (n : ℕ) → ((q : ℕ) → f q ≡ true) → every_quark f n ≡ true
  unfolding every_quark
  every_true zero h = refl
  every_true (suc n) h = rw (every_true n h, h n)

  pub every_same : (g : ℕ → Bool) (n : ℕ) → ((q : ℕ) → q < n → f q ≡ g q) → every_quark f n ≡ every_quark g n
  unfolding every_quark
  every_same g zero h = refl
  every_same g (suc n) h = ap (λ (b : Bool). b && f n) (every_same g n (λ q lt. h q (omega arith))) ∙ ap (λ (b : Bool). every_quark g n && b) (h n (omega arith))

-- ---- the ongoing entries

module _ (v : View) (table : List ℕ) where
  pub fine_finished : v.finished ≡ true → every_quark (λ q. entry_fine v q table) v.attributes ≡ true
  unfolding entry_fine
  fine_finished f = every_true (λ q. entry_fine v q table) v.attributes (λ q. rw f)

  pub begun_finished : (t : ℕ) (xs : List ℕ) → v.finished ≡ true → xs ≡ all_begun v t table xs
  unfolding all_begun
  begun_finished t xs f = rw f

  pub begun_unfinished : (t : ℕ) (xs : List ℕ) → v.finished ≡ false → all_begun v t table xs ≡ begun_from table t 0 v.attributes xs
  unfolding all_begun
  begun_unfinished t xs f = rw f

  pub fine_at : (q : ℕ) (o : Ongoing) (b : Bool) → v.finished ≡ false → o ≡ ongoing_at table q → b ≡ ongoing_sound o v.start v.latest → entry_fine v q table ≡ b
  unfolding entry_fine
  fine_at q o b going reads is = rw going (sym (is ∙ ap (λ (x : Ongoing). ongoing_sound x v.start v.latest) reads))

-- ---- an entry of the answer

module _ (nodes table : List ℕ) (q s : ℕ) (r : Entry) where
  pub entry_table : (o : Ongoing) → s ≡ ongoing → o ≡ ongoing_at table q → r ≡ interval (record { 0 = q }) o ongoing_end → r ≡ entry_for nodes table q s
  unfolding entry_for table_entry
  entry_table o e reads is = rw (eq-eqb s ongoing e) (is ∙ ap (λ (x : Ongoing). interval (record { 0 = q }) x ongoing_end) reads)

  pub entry_node : (s ≡ ongoing → ⊥) → r ≡ read_entry nodes (s - 1) → r ≡ entry_for nodes table q s
  unfolding entry_for
  entry_node e is = rw (ne_eqb s ongoing e) is

module _ (nodes table xs : List ℕ) (n i p : ℕ) (b : List ℕ) where
  pub entries_turn : (e : Entry) (c : List ℕ) → e ≡ entry_for nodes table i (get_or xs i 0) → c ≡ sets b p (entry_bytes e) → i < n → (next : ℕ) → p + entry_size ≡ next
      → sets b p (entries_from nodes table xs i (n - i)) ≡ sets c next (entries_from nodes table xs (i + 1) (n - (i + 1)))
  unfolding entries_from
  entries_turn e c is gives lt next to =
      let z : n - i ≡ suc (n - (i + 1)) = omega arith in
      let E : List ℕ = entry_bytes (entry_for nodes table i (get_or xs i 0)) in
      let R : List ℕ = entries_from nodes table xs (i + 1) (n - (i + 1)) in
      let y : sets b p E ≡ c = ap (λ (x : Entry). sets b p (entry_bytes x)) (sym is) ∙ sym gives in
      ap (λ (k : ℕ). sets b p (entries_from nodes table xs i k)) z
      ∙ sets_append b p E R
      ∙ ap (λ (k : ℕ). sets (sets b p E) (p + k) R) (length_entry (entry_for nodes table i (get_or xs i 0)))
      ∙ ap (λ (m : List ℕ). sets m (p + entry_size) R) y
      ∙ ap (λ (k : ℕ). sets c k R) to

  pub entries_done : n ≤ i → sets b p (entries_from nodes table xs i (n - i)) ≡ b
  unfolding entries_from
  entries_done le = let z : n - i ≡ 0 = omega arith in ap (λ (k : ℕ). sets b p (entries_from nodes table xs i k)) z

-- ---- the table against the promise

-- the table after the ongoing states and the walk
pub all_found : (l : List ℕ) (v : View) (t : ℕ) (table zs ys xs : List ℕ) (x : Bool) → (x ≡ true → ys ≡ all_begun v t table zs) → not x ≡ false → xs ≡ found_all l v t ys → xs ≡ found_all l v t (all_begun v t table zs)
all_found l v t table zs ys xs x begins n finds = finds ∙ ap (found_all l v t) (begins (not-false x n))

-- the table answers only until finish
pub from_going : (v : View) (t q : ℕ) (table : List ℕ) → from_table v t q table ≡ true → v.finished ≡ false
unfolding from_table
from_going v t q table e = not-true v.finished (and_left (not v.finished) (leb (ongoing_at table q).start t) e)

-- what the table has of a quark, of which the walk finds f, and b: the ongoing table answers
abbrev slot : Bool → ℕ → ℕ
slot b f = cond b (cond (eqb f 0) ongoing many) f

-- before the walk nothing is found, in zs
module _ (v : View) (t : ℕ) (l table : List ℕ) (roomy : Roomy v l) (zs : List ℕ) (long : v.attributes ≤ length zs) (blank : (q : ℕ) → q < v.attributes → get_or zs q 0 ≡ 0) (xs : List ℕ)
    (is : xs ≡ found_all l v t (all_begun v t table zs)) where
  begun_long : length (all_begun v t table zs) ≡ length zs
  unfolding all_begun
  begun_long = go v.finished
    where
      go : (b : Bool) → length (cond b zs (begun_from table t 0 v.attributes zs)) ≡ length zs
      go true = refl
      go false = length_from table t 0 v.attributes zs

  pub begun_slot : (q : ℕ) → q < v.attributes → get_or (all_begun v t table zs) q 0 ≡ cond (from_table v t q table) ongoing 0
  unfolding all_begun from_table
  begun_slot q h = go v.finished
    where
      go : (b : Bool) → get_or (cond b zs (begun_from table t 0 v.attributes zs)) q 0 ≡ cond (not b && leb (ongoing_at table q).start t) ongoing 0
      go true = blank q h
      go false = begun_at table t 0 v.attributes q zs (omega arith) (omega arith) (omega arith) ∙ ap (λ (s : ℕ). cond (leb (ongoing_at table q).start t) ongoing s) (blank q h)

  slot_at : (q : ℕ) → q < v.attributes → get_or xs q 0 ≡ slot (from_table v t q table) (found_of l v q t)
  unfolding found_all found_of
  slot_at q h =
      ap (λ (z : List ℕ). get_or z q 0) is
      ∙ found_all_at l v t q (v.level + 1) (root_of v) (all_begun v t table zs) (omega (arith, begun_long))
      ∙ ap (found l v q t (v.level + 1) (root_of v)) (begun_slot q h)
      ∙ go (from_table v t q table)
    where
      go : (b : Bool) → found l v q t (v.level + 1) (root_of v) (cond b ongoing 0) ≡ slot b (found l v q t (v.level + 1) (root_of v) 0)
      go true = found_after l v q t (v.level + 1) (root_of v) ongoing (λ z. omega arith)
      go false = refl

  slot_shown : (b : Bool) (f : ℕ) → shown (slot b f) ≡ cond b (eqb f 0) (shown f)
  unfolding shown
  slot_shown true f = go (eqb f 0)
    where
      go : (x : Bool) → (not (eqb (cond x ongoing many) 0) && not (eqb (cond x ongoing many) many)) ≡ x
      go true = refl
      go false = refl
  slot_shown false f = refl

  shown_alone : (q : ℕ) → q < v.attributes → shown (get_or xs q 0) ≡ alone v t l table q
  unfolding alone
  shown_alone q h = ap shown (slot_at q h) ∙ slot_shown (from_table v t q table) (found_of l v q t)

  pub all_alone : (x : Bool) → x ≡ every_quark (λ q. shown (get_or xs q 0)) v.attributes → x ≡ every_quark (alone v t l table) v.attributes
  all_alone x e = e ∙ every_same (λ q. shown (get_or xs q 0)) (alone v t l table) v.attributes shown_alone

  -- where R7 holds of all, what answers can be read, and is the promised entry
  module _ (x : Bool) (all : x ≡ every_quark (λ q. shown (get_or xs q 0)) v.attributes) (y : not x ≡ false) where
    one_at : (q : ℕ) → q < v.attributes → shown (get_or xs q 0) ≡ true
    one_at q h = every_at (λ k. shown (get_or xs k 0)) v.attributes q (sym all ∙ not-false x y) h

    near_slot : (b : Bool) (f : ℕ) → Near l f → shown (slot b f) ≡ true → (slot b f ≡ ongoing → ⊥) → (0 < slot b f) × (slot b f + 31 ≤ length l)
    unfolding shown
    near_slot true f near s n = absurd (go (eqb f 0) s n)
      where
        go : (z : Bool) → shown (cond z ongoing many) ≡ true → (cond z ongoing many ≡ ongoing → ⊥) → ⊥
        go true s n = n refl
        go false s n = false_is s
    near_slot false f near s n = (shown_some f s, (near s).0)

    from_slot : (b : Bool) (f : ℕ) → Near l f → shown (slot b f) ≡ true → slot b f ≡ ongoing → b ≡ true
    from_slot true f near s e = refl
    from_slot false f near s e = absurd (omega (arith, (near s).1))

    pub readable : (v.finished ≡ false → v.attributes ≤ length table / entry_size) → (q : ℕ) → q < v.attributes → Readable l table q (get_or xs q 0)
    readable table-long q h =
        let F = found_of l v q t in
        let b = from_table v t q table in
        let e = slot_at q h in
        let s : shown (slot b F) ≡ true = ap shown (sym e) ∙ one_at q h in
        record {
          in_table = λ z. table_room (from_slot b F (root_near l v roomy q t) s (sym e ∙ z));
          in_nodes = λ n. subst (λ (k : ℕ). (0 < k) × (k + 31 ≤ length l)) (sym e) (near_slot b F (root_near l v roomy q t) s (λ z. n (e ∙ z)));
        }
      where
        table_room : from_table v t q table ≡ true → table_at q + entry_size ≤ length table
        table_room z = table_in q v.attributes (length table) h (table-long (from_going v t q table z))

    entry_slot : (q : ℕ) (b : Bool) (f : ℕ) → Near l f → shown (slot b f) ≡ true → entry_for l table q (slot b f) ≡ cond b (table_entry q table) (read_entry l (f - 1))
    unfolding entry_for shown
    entry_slot q true f near s = go (eqb f 0) s
      where
        go : (z : Bool) → shown (cond z ongoing many) ≡ true → cond (eqb (cond z ongoing many) ongoing) (table_entry q table) (read_entry l (cond z ongoing many - 1)) ≡ table_entry q table
        go true s = refl
        go false s = absurd (false_is s)
    entry_slot q false f near s = rw (ne_eqb f ongoing (λ z. omega (arith, (near s).1)))

    entry_same : (q : ℕ) → q < v.attributes → entry_for l table q (get_or xs q 0) ≡ full_entry v t l table q
    unfolding full_entry told_entry
    entry_same q h =
        let e = slot_at q h in
        ap (entry_for l table q) e ∙ entry_slot q (from_table v t q table) (found_of l v q t) (root_near l v roomy q t) (ap shown (sym e) ∙ one_at q h)

    entries_from_lem : (q n : ℕ) → q + n ≤ v.attributes → entries_from l table xs q n ≡ full_entries v t l table q n
    unfolding entries_from full_entries
    entries_from_lem q zero h = refl
    entries_from_lem q (suc n) h =
        ap (λ (z : Entry). entry_bytes z ++ entries_from l table xs (q + 1) n) (entry_same q (omega arith))
        ∙ ap (λ (z : List ℕ). entry_bytes (full_entry v t l table q) ++ z) (entries_from_lem (q + 1) n (omega arith))

    pub entries_same : entries_from l table xs 0 v.attributes ≡ full_entries v t l table 0 v.attributes
    entries_same = entries_from_lem 0 v.attributes (omega arith)

-- ---- the walk of the question

abbrev Outcome : View → ℕ → List ℕ → List ℕ → ℕ → List ℕ → Full → List ℕ → Type 0
Outcome v t l table at b r c = (r ≡ walked_full v t l table) × (c ≡ walked_written v t l table at b)

module _ (v : View) (t : ℕ) (l table : List ℕ) (at : ℕ) (b : List ℕ) (r : Full) where
  damaged : walked_refusal v t l table ≡ Damaged → r ≡ refused_full Damaged → Outcome v t l table at b r b
  unfolding walked_full walked_written refused_full
  damaged d e = (rw d e, rw d)

  module _ (a : Bool) (fine : a ≡ every_quark (λ q. entry_fine v q table) v.attributes) where
    pub full_entry_lem : not a ≡ true → r ≡ refused_full Damaged → Outcome v t l table at b r b
    unfolding walked_refusal
    full_entry_lem n e = damaged (rw (← fine, not-true a n)) e

    module _ (n : not a ≡ false) where
      pub full_walk : kept (walk_of l v t).rule ≡ false → r ≡ refused_full Damaged → Outcome v t l table at b r b
      unfolding walked_refusal
      full_walk k e = damaged (rw (← fine, not-false a n, k)) e

      module _ (k : kept (walk_of l v t).rule ≡ true) (y : Bool) (alones : y ≡ every_quark (alone v t l table) v.attributes) where
        pub full_many : not y ≡ true → r ≡ refused_full Damaged → Outcome v t l table at b r b
        unfolding walked_refusal
        full_many m e = damaged (rw (← fine, not-false a n, k, ← alones, not-true y m)) e

        pub full_told : (c : List ℕ) → not y ≡ false → (e : List ℕ) → c ≡ sets b at e → e ≡ full_entries v t l table 0 v.attributes → (d : ℕ) → d ≡ (walk_of l v t).entered → r ≡ record { refusal = Nothing; nodes = d }
            → Outcome v t l table at b r c
        unfolding walked_refusal walked_full walked_written
        full_told c m e g same d enters f =
            let z : walked_refusal v t l table ≡ Nothing = rw (← fine, not-false a n, k, ← alones, not-false y m) in
            (rw (z, ← enters) f, rw z (g ∙ ap (sets b at) same))
