-- The exported questions: each way through their promises. Assumes nothing.
use Prim.Native.Nat.{ℕ, ◌+◌, ◌*◌}
use mathlib.Core.Path.{◌≡◌, refl, sym, ap, subst, ◌∙◌}
use mathlib.Core.Bool.{Bool, true, false, cond, not, ◌||◌}
use mathlib.Core.List.{List, [], ◌++◌}
use native.Mathlib.Omega.{arith}
use lib.Dec.{T, ltb}
use lib.ListN.{length}
use lib.Seq.{sets, length-sets}
use Rattle.std.specs.Prelude.{Result, Ok, Err}
use Rattle.std.specs.Result.{IsErrAnd}
use Rattle.words.specs.Words.{le}
use Rattle.words.proofs.Numbers.{length_le}
use Rattle.words.proofs.Stores.{sets_append, sets_comm}
use Rattle.layout.specs.Layout.{entry_size, entry_bytes}
use Rattle.record.specs.declared.Refusal.{Refusal}
use Rattle.record.specs.Refusals.{Reply, Nothing, Short, Damaged, Outside, NoQuark, accepted}
use Rattle.record.proofs.Said.{errs, refuses, passes}
use Rattle.walk.specs.declared.View.{View}
use Rattle.walk.specs.View.{view_sound, long_for, asked}
use Rattle.walk.specs.Walk.{walk_of}
use Rattle.questions.specs.declared.Answer.{Answer}
use Rattle.questions.specs.Single.{Single, said, refused_single, told, told_entry, walked_single}
use Rattle.full_question.specs.Full.{Full, said_all, refused_full, full_entries, walked_refusal, walked_full, walked_written}
use Rattle.page.specs.Page.{head_refusal, single_refusal, single_bytes, single_written, full_refusal, full_bytes, full_written}

-- the count of nodes, then the entries
after_count : (b : List ℕ) (n : ℕ) (e : List ℕ) → sets b 0 (le 8 n ++ e) ≡ sets (sets b 0 (le 8 n)) 8 e
after_count b n e = simp (sets_append, length_le)

-- four tests before the rest: they decide, or the rest does
head_then : (a b c d : Bool) (rest : Reply) → cond (not a) Damaged (cond b Short (cond (not c) NoQuark (cond (not d) Outside rest)))
    ≡ cond (accepted (cond (not a) Damaged (cond b Short (cond (not c) NoQuark (cond (not d) Outside Nothing))))) rest (cond (not a) Damaged (cond b Short (cond (not c) NoQuark (cond (not d) Outside Nothing))))
head_then true false true true rest = refl
head_then true false true false rest = refl
head_then true false false d rest = refl
head_then true true c d rest = refl
head_then false b c d rest = refl

-- ---- the single

abbrev OneSaid : View → ℕ → ℕ → List ℕ → List ℕ → Reply → List ℕ → Type 0
OneSaid v t q l b x c = (x ≡ single_refusal v t q l (length b)) × (c ≡ single_written v t q l b)

module _ (v : View) (t q : ℕ) (l b : List ℕ) where
  abbrev one_head_refusal : Reply
  one_head_refusal = head_refusal v (length l) (length b) (8 + entry_size) (ltb q v.attributes) t

  one_parts : single_refusal v t q l (length b) ≡ cond (accepted one_head_refusal) (cond (not (told v t q l)) Damaged Nothing) one_head_refusal
  unfolding single_refusal head_refusal
  one_parts = head_then (view_sound v) (not (long_for v (length l) 0) || ltb (length b) (8 + entry_size)) (ltb q v.attributes) (asked v t) (cond (not (told v t q l)) Damaged Nothing)

  one_refused : (x : Reply) (e : Refusal) → single_refusal v t q l (length b) ≡ Err e → IsErrAnd x (λ y. y ≡ e) → OneSaid v t q l b x b
  unfolding single_written
  one_refused x e is gives = (errs x e gives ∙ sym is, rw is)

  pub one_head : (x : Reply) (e : Refusal) → one_head_refusal ≡ Err e → IsErrAnd x (λ y. y ≡ e) → OneSaid v t q l b x b
  one_head x e is = one_refused x e (one_parts ∙ refuses one_head_refusal (cond (not (told v t q l)) Damaged Nothing) (ap accepted is) ∙ is)

  module _ (is : one_head_refusal ≡ Nothing) (s : Result Answer Refusal) (walks : said s ≡ walked_single v t q l) where
    same : single_refusal v t q l (length b) ≡ (said s).refusal
    unfolding walked_single refused_single
    same = one_parts ∙ passes one_head_refusal (cond (not (told v t q l)) Damaged Nothing) is ∙ go (told v t q l) ∙ sym (ap (λ (y : Single). y.refusal) walks)
      where
        go : (y : Bool) → cond (not y) Damaged Nothing ≡ (cond y (record { refusal = Nothing; nodes = (walk_of l v t).entered; entry = told_entry v t q l }) (refused_single Damaged)).refusal
        go true = refl
        go false = refl

    pub one_walked : (x : Reply) (e : Refusal) → s ≡ Err e → IsErrAnd x (λ y. y ≡ e) → OneSaid v t q l b x b
    unfolding said refused_single
    one_walked x e was = one_refused x e (same ∙ ap (λ (y : Result Answer Refusal). (said y).refusal) was)

    pub one_told : (a : Answer) (k : ℕ) (c d : List ℕ) → s ≡ Ok a → k ≡ a.nodes → c ≡ sets b 0 (le 8 k) → d ≡ sets c 8 (entry_bytes a.entry) → OneSaid v t q l b Nothing d
    unfolding said single_written single_bytes walked_single refused_single
    one_told a k c d was counts p g =
        let n : single_refusal v t q l (length b) ≡ Nothing = same ∙ ap (λ (y : Result Answer Refusal). (said y).refusal) was in
        let w : said (Ok a) ≡ record { refusal = Nothing; nodes = (walk_of l v t).entered; entry = told_entry v t q l } = go (told v t q l) (sym (ap said was) ∙ walks) in
        let f : d ≡ sets b 0 (le 8 (walk_of l v t).entered ++ entry_bytes (told_entry v t q l)) =
        g ∙ ap (λ (m : List ℕ). sets m 8 (entry_bytes a.entry)) (p ∙ ap (λ (m : ℕ). sets b 0 (le 8 m)) counts)
        ∙ ap (λ (m : Single). sets (sets b 0 (le 8 m.nodes)) 8 (entry_bytes m.entry)) w
        ∙ sym (after_count b (walk_of l v t).entered (entry_bytes (told_entry v t q l))) in
        (sym n, rw n f)
      where
        go : (z : Bool) → said (Ok a) ≡ cond z (record { refusal = Nothing; nodes = (walk_of l v t).entered; entry = told_entry v t q l }) (refused_single Damaged)
            → said (Ok a) ≡ record { refusal = Nothing; nodes = (walk_of l v t).entered; entry = told_entry v t q l }
        go true e = e
        go false e = absurd (subst T (ap (λ (m : Single). accepted m.refusal) e) tt)

-- ---- the full

abbrev AllSaid : View → ℕ → List ℕ → List ℕ → Reply → List ℕ → Type 0
AllSaid v t l b x c = (x ≡ full_refusal v t l (length b)) × (c ≡ full_written v t l b)

module _ (v : View) (t : ℕ) (l b : List ℕ) where
  abbrev all_head_refusal : Reply
  all_head_refusal = head_refusal v (length l) (length b) (8 + entry_size * v.attributes) true t

  all_parts : full_refusal v t l (length b) ≡ cond (accepted all_head_refusal) (walked_refusal v t l []) all_head_refusal
  unfolding full_refusal head_refusal walked_refusal
  all_parts = head_then (view_sound v) (not (long_for v (length l) 0) || ltb (length b) (8 + entry_size * v.attributes)) true (asked v t) (walked_refusal v t l [])

  all_refused : (x : Reply) (e : Refusal) → full_refusal v t l (length b) ≡ Err e → IsErrAnd x (λ y. y ≡ e) → AllSaid v t l b x b
  unfolding full_written
  all_refused x e is gives = (errs x e gives ∙ sym is, rw is)

  pub all_head : (x : Reply) (e : Refusal) → all_head_refusal ≡ Err e → IsErrAnd x (λ y. y ≡ e) → AllSaid v t l b x b
  all_head x e is = all_refused x e (all_parts ∙ refuses all_head_refusal (walked_refusal v t l []) (ap accepted is) ∙ is)

  module _ (is : all_head_refusal ≡ Nothing) (s : Result ℕ Refusal) (c : List ℕ) (walks : said_all s ≡ walked_full v t l []) (writes : c ≡ walked_written v t l [] 8 b) where
    walk_says : walked_refusal v t l [] ≡ (said_all s).refusal
    unfolding walked_full
    walk_says = sym (ap (λ (y : Full). y.refusal) walks)

    same_all : full_refusal v t l (length b) ≡ (said_all s).refusal
    same_all = all_parts ∙ passes all_head_refusal (walked_refusal v t l []) is ∙ walk_says

    pub all_walked : (x : Reply) (e : Refusal) → s ≡ Err e → IsErrAnd x (λ y. y ≡ e) → AllSaid v t l b x c
    unfolding said_all refused_full walked_written
    all_walked x e was gives =
        let m : (said_all s).refusal ≡ Err e = ap (λ (y : Result ℕ Refusal). (said_all y).refusal) was in
        let r = all_refused x e (same_all ∙ m) gives in
        (r.0, writes ∙ ap (λ (y : Reply). cond (accepted y) (sets b 8 (full_entries v t l [] 0 v.attributes)) b) (walk_says ∙ m) ∙ r.1)

    pub all_told : (n k : ℕ) (d : List ℕ) → s ≡ Ok n → k ≡ n → d ≡ sets c 0 (le 8 k) → AllSaid v t l b Nothing d
    unfolding said_all full_written full_bytes walked_full walked_written
    all_told n k d was counts g =
        let o : (said_all s).refusal ≡ Nothing = ap (λ (y : Result ℕ Refusal). (said_all y).refusal) was in
        let m : walked_refusal v t l [] ≡ Nothing = walk_says ∙ o in
        let none : full_refusal v t l (length b) ≡ Nothing = same_all ∙ o in
        let E : List ℕ = full_entries v t l [] 0 v.attributes in
        let N : List ℕ = le 8 (walk_of l v t).entered in
        let h : k ≡ (walk_of l v t).entered =
        counts ∙ sym (ap (λ (y : Result ℕ Refusal). (said_all y).nodes) was) ∙ ap (λ (y : Full). y.nodes) walks
        ∙ ap (λ (y : Reply). cond (accepted y) (walk_of l v t).entered 0) m in
        let w : c ≡ sets b 8 E = writes ∙ ap (λ (y : Reply). cond (accepted y) (sets b 8 E) b) m in
        let f : d ≡ sets b 0 (N ++ E) =
        g ∙ ap (λ (y : ℕ). sets c 0 (le 8 y)) h ∙ ap (λ (y : List ℕ). sets y 0 N) w
        ∙ sym (sets_comm b 0 N 8 E (omega (arith, length_le 8 (walk_of l v t).entered)))
        ∙ sym (after_count b (walk_of l v t).entered E) in
        (sym none, rw none f)

pub written_length : (v : View) (t : ℕ) (l b c : List ℕ) → c ≡ walked_written v t l [] 8 b → length c ≡ length b
unfolding walked_written
written_length v t l b c is = ap length is ∙ go (accepted (walked_refusal v t l []))
  where
    go : (y : Bool) → length (cond y (sets b 8 (full_entries v t l [] 0 v.attributes)) b) ≡ length b
    go true = length-sets b 8 (full_entries v t l [] 0 v.attributes)
    go false = refl
