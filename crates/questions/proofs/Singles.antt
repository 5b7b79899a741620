-- The single question: each way through its definitions. Assumes nothing.
use Prim.Native.Nat.{ℕ, ◌-◌, ◌≤◌, ◌<◌}
use mathlib.Core.Path.{◌≡◌, refl, sym, ap, ◌∙◌}
use mathlib.Core.Bool.{Bool, true, false, cond, not}
use mathlib.Core.List.{List, [], ◌∷◌}
use native.Mathlib.Omega.{arith}
use lib.Dec.{leb}
use lib.ListN.{length}
use borrow.Author.Tests.{le-leb, lt-leb, not-true, not-false}
use Rattle.layout.specs.declared.Entry.{Entry}
use Rattle.layout.specs.declared.Quark.{Quark}
use Rattle.layout.specs.Layout.{read_entry}
use Rattle.record.specs.declared.History.{History}
use Rattle.std.specs.Prelude.{Result, Err}
use Rattle.std.specs.Result.{IsErrAnd}
use Rattle.record.specs.declared.Refusal.{Refusal}
use Rattle.record.specs.Refusals.{Nothing, Short, Damaged, Outside, NoQuark, Reply, first_else, accepted}
use Rattle.record.specs.Sound.{sound, long_enough, admitted}
use Rattle.transient.specs.declared.Ongoing.{Ongoing}
use Rattle.transient.specs.Transient.{ongoing_end, ongoing_at, ongoing_sound, interval}
use Rattle.walk.specs.declared.View.{View}
use Rattle.walk.specs.View.{view_of, asked}
use Rattle.walk.specs.Rules.{kept}
use Rattle.walk.specs.Walk.{walk_of}
use Rattle.questions.specs.Found.{found_of, shown}
use Rattle.questions.specs.Single.{Single, refused_single, said, told, told_entry, walked_single, from_table, table_entry, entry_fine, single_answer, view_single, single_refusal, single_of}
use Rattle.record.proofs.Said.{errs, unadmitted, after_head}
use Rattle.questions.specs.declared.Answer.{Answer}

-- ---- the walk and R7

module _ (v : View) (t q : ℕ) (l : List ℕ) (r : Single) where
  pub walked_same : (w : View) → v ≡ w → r ≡ walked_single v t q l → r ≡ walked_single w t q l
  walked_same w is e = e ∙ ap (λ (x : View). walked_single x t q l) is

  pub walked_damaged : kept (walk_of l v t).rule ≡ false → r ≡ refused_single Damaged → r ≡ walked_single v t q l
  unfolding walked_single told
  walked_damaged k e = rw k e

  module _ (s : ℕ) (x : Bool) (k : kept (walk_of l v t).rule ≡ true) (finds : s ≡ found_of l v q t) (one : x ≡ shown s) where
    pub walked_none : not x ≡ true → r ≡ refused_single Damaged → r ≡ walked_single v t q l
    unfolding walked_single told
    walked_none m e = rw (k, ← finds, ← one, not-true x m) e

    pub walked_told : (n : ℕ) (a : Entry) → not x ≡ false → n ≡ (walk_of l v t).entered → a ≡ read_entry l (s - 1) → r ≡ record { refusal = Nothing; nodes = n; entry = a } → r ≡ walked_single v t q l
    unfolding walked_single told told_entry
    walked_told n a m enters reads e =
        rw (k, ← finds, ← one, not-false x m, ← enters) (e ∙ ap (λ (z : Entry). record { refusal = Nothing; nodes = n; entry = z }) reads)

-- where the walk tells, its answer is what the question says
walked_view : (v : View) (t q : ℕ) (l table : List ℕ) → entry_fine v q table ≡ true → from_table v t q table ≡ false → walked_single v t q l ≡ view_single v t q l table
unfolding walked_single view_single single_answer
walked_view v t q l table a b = rw (a, b) (go (told v t q l))
  where
    go : (x : Bool) → cond x (record { refusal = Nothing; nodes = (walk_of l v t).entered; entry = told_entry v t q l }) (refused_single Damaged)
        ≡ cond (accepted (cond (not x) Damaged Nothing)) (record { refusal = Nothing; nodes = (walk_of l v t).entered; entry = told_entry v t q l }) (refused_single (cond (not x) Damaged Nothing))
    go true = refl
    go false = refl

-- ---- the table before it

module _ (v : View) (t q : ℕ) (l table : List ℕ) (r : Single) where
  pub view_finished : v.finished ≡ true → r ≡ walked_single v t q l → r ≡ view_single v t q l table
  unfolding entry_fine from_table
  view_finished f e =
      let fine : entry_fine v q table ≡ true = rw f in
      let from : from_table v t q table ≡ false = rw f in
      e ∙ walked_view v t q l table fine from

  module _ (o : Ongoing) (b : Bool) (going : v.finished ≡ false) (reads : o ≡ ongoing_at table q) (sound : b ≡ ongoing_sound o v.start v.latest) where
    is_fine : entry_fine v q table ≡ b
    unfolding entry_fine
    is_fine = rw going (sym (sound ∙ ap (λ (x : Ongoing). ongoing_sound x v.start v.latest) reads))

    is_from : from_table v t q table ≡ leb o.start t
    unfolding from_table
    is_from = rw going (sym (ap (λ (x : Ongoing). leb x.start t) reads))

    pub view_unsound : not b ≡ true → r ≡ refused_single Damaged → r ≡ view_single v t q l table
    unfolding view_single
    view_unsound n e = rw (is_fine, not-true b n) e

    pub view_table : (a : Entry) → not b ≡ false → o.start ≤ t → a ≡ interval (record { 0 = q }) o ongoing_end → r ≡ record { refusal = Nothing; nodes = 0; entry = a } → r ≡ view_single v t q l table
    unfolding view_single single_answer table_entry
    view_table a n le is e =
        rw (is_fine, not-false b n, is_from, le-leb o.start t le)
        (e ∙ ap (λ (z : Entry). record { refusal = Nothing; nodes = 0; entry = z }) (is ∙ ap (λ (x : Ongoing). interval (record { 0 = q }) x ongoing_end) reads))

    pub view_walked : not b ≡ false → t < o.start → r ≡ walked_single v t q l → r ≡ view_single v t q l table
    view_walked n lt e = e ∙ walked_view v t q l table (is_fine ∙ not-false b n) (is_from ∙ lt-leb o.start t lt)

-- ---- the question

module _ (h : History) (t : ℕ) (quark : Quark) (l table : List ℕ) where
  -- what the head of every call refuses, a question refuses
  pub single_head : (x : Result Answer Refusal) (e : Refusal) → admitted h (length l) (length table) ≡ Err e → IsErrAnd x (λ y. y ≡ e) → said x ≡ single_of h t quark l table
  unfolding said single_of single_refusal
  single_head x e is gives =
      let z : single_refusal h t quark.0 l table ≡ Err e = sym (unadmitted h (length l) (length table) _ (Err e) (sym is) refl) in
      ap said (errs x e gives) ∙ ap (λ (y : Reply). cond (accepted y) (single_answer (view_of h) t quark.0 l table) (refused_single y)) (sym z)

  module _ (r : Single) (is : admitted h (length l) (length table) ≡ Nothing) (v : View) (views : v ≡ view_of h) where
    few : h.attributes ≡ v.attributes
    unfolding view_of
    few = sym (ap (λ (x : View). x.attributes) views)

    after : (x : Reply) → first_else ((not (sound h), Damaged) ∷ (not (long_enough h (length l) (length table)), Short) ∷ []) x ≡ x
    after x = sym (after_head h (length l) (length table) x Nothing (sym is) refl)

    pub single_7 : v.attributes ≤ quark.0 → r ≡ refused_single NoQuark → r ≡ single_of h t quark l table
    unfolding single_of single_refusal
    single_7 le e = rw (after _, le-leb h.attributes quark.0 (omega (arith, few))) e

    module _ (lt : quark.0 < v.attributes) (a : Bool) (asks : a ≡ asked v t) where
      is_asked : asked (view_of h) t ≡ a
      is_asked = ap (λ (x : View). asked x t) (sym views) ∙ sym asks

      pub single_6 : not a ≡ true → r ≡ refused_single Outside → r ≡ single_of h t quark l table
      unfolding single_of single_refusal
      single_6 k e = rw (after _, lt-leb h.attributes quark.0 (omega (arith, few)), is_asked, not-true a k) e

      pub single_view : not a ≡ false → r ≡ view_single (view_of h) t quark.0 l table → r ≡ single_of h t quark l table
      unfolding single_of single_refusal view_single
      single_view k e = rw (after _, lt-leb h.attributes quark.0 (omega (arith, few)), is_asked, not-false a k) e
