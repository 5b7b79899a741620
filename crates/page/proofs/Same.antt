-- The exported questions on the numbers of a sound finished record are the record's own: the same refusals where the answer is long enough, the same count of
-- nodes and the same entries. Assumes nothing.
use Prim.Native.Nat.{ℕ, zero, suc, ◌+◌, ◌*◌, ◌/◌, ◌≤◌}
use mathlib.Core.Path.{◌≡◌, refl, sym, ap, ◌∙◌}
use mathlib.Core.Bool.{Bool, true, false, cond, not, ◌||◌}
use mathlib.Core.List.{List, [], ◌++◌}
use native.Mathlib.Omega.{arith}
use lib.Dec.{leb, ltb}
use lib.ListN.{length}
use borrow.Author.Tests.{le-leb, lt-leb, lt-ltb, le-ltb, ltb-true, ltb-false}
use Rattle.words.specs.Words.{le}
use Rattle.layout.specs.declared.Entry.{Entry}
use Rattle.layout.specs.declared.Quark.{Quark}
use Rattle.layout.specs.Layout.{entry_size, entry_bytes}
use Rattle.record.specs.declared.History.{History}
use Rattle.record.specs.Refusals.{accepted}
use Rattle.record.specs.Levels.{place_at}
use Rattle.record.specs.Sound.{last_time, shape_allowed, numbers_sound, branch_sound, sound, long_enough}
use Rattle.record.proofs.Facts.{sound_numbers, sound_root}
use Rattle.walk.specs.declared.View.{View}
use Rattle.walk.specs.View.{view_of, view_sound, long_for}
use Rattle.walk.specs.Walk.{walk_of}
use Rattle.questions.specs.Single.{told_entry, from_table, entry_fine, single_answer, single_of}
use Rattle.questions.specs.Single as one
use Rattle.full_question.specs.Full.{alone, full_entry, every_quark, full_entries, full_of}
use Rattle.full_question.specs.Full as all
use Rattle.full_question.proofs.Fulls.{every_same, fine_finished}
use Rattle.page.specs.Page.{finished_view, single_refusal, single_bytes, full_refusal, full_bytes}

-- ---- once finished, the table is not read

module _ (v : View) (done : v.finished ≡ true) where
  never_from : (t q : ℕ) (table : List ℕ) → from_table v t q table ≡ false
  unfolding from_table
  never_from t q table = rw done

  always_fine : (q : ℕ) (table : List ℕ) → entry_fine v q table ≡ true
  unfolding entry_fine
  always_fine q table = rw done

  alone_same : (t : ℕ) (l table other : List ℕ) (q : ℕ) → alone v t l table q ≡ alone v t l other q
  unfolding alone
  alone_same t l table other q = rw (never_from t q table, never_from t q other)

  entry_same : (t : ℕ) (l table other : List ℕ) (q : ℕ) → full_entry v t l table q ≡ full_entry v t l other q
  unfolding full_entry
  entry_same t l table other q = rw (never_from t q table, never_from t q other)

  entries_same : (t : ℕ) (l table other : List ℕ) (q n : ℕ) → full_entries v t l table q n ≡ full_entries v t l other q n
  unfolding full_entries
  entries_same t l table other q zero = refl
  entries_same t l table other q (suc n) =
      ap (λ (x : Entry). entry_bytes x ++ full_entries v t l table (q + 1) n) (entry_same t l table other q)
      ∙ ap (λ (x : List ℕ). entry_bytes (full_entry v t l other q) ++ x) (entries_same t l table other (q + 1) n)

-- ---- a sound finished record

first : (a b : Bool) → cond a b false ≡ true → a ≡ true
first true b e = refl
first false b e = e

module _ (h : History) (is : sound h ≡ true) (done : h.finished ≡ true) where
  -- its numbers, as they are given to an exported question
  abbrev pub numbers : View
  numbers = finished_view h.start h.latest h.attributes h.shape.k h.shape.c h.shape.n h.used (place_at h.branch h.top) h.top

  pub same_view : numbers ≡ view_of h
  unfolding finished_view view_of
  same_view = λ i. record {
    shape = h.shape;
    start = h.start;
    latest = h.latest;
    attributes = h.attributes;
    used = h.used;
    root = record { 0 = place_at h.branch h.top };
    level = h.top;
    finished = sym done i;
  }

  view_done : (view_of h).finished ≡ true
  unfolding view_of
  view_done = done

  view_sound_lem : view_sound (view_of h) ≡ true
  unfolding view_sound view_of sound
  view_sound_lem =
      let s : shape_allowed h.shape ≡ true = first (shape_allowed h.shape) (cond (numbers_sound h) (branch_sound h) false) is in
      let n = sound_numbers h is in
      rw (s, le-leb h.attributes 4096 n.attributes, le-leb h.latest last_time n.latest, le-leb h.start h.latest n.begun, le-leb 1 h.used n.some, le-leb h.used h.shape.n n.room, le-leb h.top 15 n.top, lt-ltb (place_at h.branch h.top) h.used (sound_root h is))

  same_long : (m n : ℕ) → long_for (view_of h) m 0 ≡ long_enough h m n
  unfolding long_for long_enough view_of
  same_long m n = rw done

  same_attributes : (view_of h).attributes ≡ h.attributes
  unfolding view_of
  same_attributes = refl

  known_same : (q : ℕ) → not (ltb q (view_of h).attributes) ≡ leb h.attributes q
  unfolding view_of
  known_same q = go (ltb q h.attributes) refl
    where
      go : (b : Bool) → ltb q h.attributes ≡ b → not (ltb q h.attributes) ≡ leb h.attributes q
      go true e = rw (e, lt-leb h.attributes q (ltb-true q h.attributes e))
      go false e = rw (e, le-leb h.attributes q (ltb-false q h.attributes e))

  or_false : (b : Bool) → b || false ≡ b
  or_false true = refl
  or_false false = refl

  -- ---- the single

  pub single_same : (t q : ℕ) (nodes table : List ℕ) (answer : ℕ) → 8 + entry_size ≤ answer → single_refusal numbers t q nodes answer ≡ one.single_refusal h t q nodes table
  unfolding single_refusal one.single_refusal
  single_same t q nodes table answer long =
      ap (λ (v : View). single_refusal v t q nodes answer) same_view
      ∙ rw (view_sound_lem, is, le-ltb answer (8 + entry_size) long, same_long (length nodes) (length table), or_false (not (long_enough h (length nodes) (length table))), known_same q, always_fine (view_of h) view_done q table, never_from (view_of h) view_done t q table)

  -- where accepted, the bytes are the count of nodes and the entry of the record's answer
  pub single_bytes_same : (t : ℕ) (quark : Quark) (nodes table : List ℕ) → accepted (one.single_refusal h t quark.0 nodes table) ≡ true
      → single_bytes numbers t quark.0 nodes ≡ le 8 (single_of h t quark nodes table).nodes ++ entry_bytes (single_of h t quark nodes table).entry
  unfolding single_bytes single_of single_answer
  single_bytes_same t quark nodes table ok =
      ap (λ (v : View). le 8 (walk_of nodes v t).entered ++ entry_bytes (told_entry v t quark.0 nodes)) same_view ∙ rw (ok, never_from (view_of h) view_done t quark.0 table)

  -- ---- the full

  pub full_same : (t : ℕ) (nodes table : List ℕ) (answer : ℕ) → 8 + entry_size * h.attributes ≤ answer → full_refusal numbers t nodes answer ≡ all.full_refusal h t nodes table answer
  unfolding full_refusal all.full_refusal
  full_same t nodes table answer long = ap (λ (v : View). full_refusal v t nodes answer) same_view ∙ rest
    where
      short : ltb answer (8 + entry_size * (view_of h).attributes) ≡ false
      short = le-ltb answer (8 + entry_size * (view_of h).attributes) (omega (arith, same_attributes))

      room : ltb (answer / entry_size) h.attributes ≡ false
      room = le-ltb (answer / entry_size) h.attributes (omega arith)

      fine : (other : List ℕ) → every_quark (λ q. entry_fine (view_of h) q other) (view_of h).attributes ≡ true
      fine other = fine_finished (view_of h) other view_done

      alike : every_quark (alone (view_of h) t nodes []) (view_of h).attributes ≡ every_quark (alone (view_of h) t nodes table) (view_of h).attributes
      alike = every_same (alone (view_of h) t nodes []) (alone (view_of h) t nodes table) (view_of h).attributes (λ q lt. alone_same (view_of h) view_done t nodes [] table q)

      rest : full_refusal (view_of h) t nodes answer ≡ all.full_refusal h t nodes table answer
      rest =
          rw (view_sound_lem, is, short, room, same_long (length nodes) (length table), or_false (not (long_enough h (length nodes) (length table))), fine [], fine table, alike)

  pub full_bytes_same : (t : ℕ) (nodes table : List ℕ) (answer : ℕ) → accepted (all.full_refusal h t nodes table answer) ≡ true
      → full_bytes numbers t nodes ≡ le 8 (full_of h t nodes table answer).nodes ++ full_entries (view_of h) t nodes table 0 h.attributes
  unfolding full_bytes full_of view_of
  full_bytes_same t nodes table answer ok =
      ap (λ (v : View). le 8 (walk_of nodes v t).entered ++ full_entries v t nodes [] 0 v.attributes) same_view
      ∙ ap (λ (x : List ℕ). le 8 (walk_of nodes (view_of h) t).entered ++ x) (entries_same (view_of h) view_done t nodes [] table 0 h.attributes)
      ∙ rw ok
