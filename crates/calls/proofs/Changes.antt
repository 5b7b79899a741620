-- Set, remove and increment: the three parts of the list, each way through the code, and what acceptance gives. Assumes nothing.
use Prim.Native.Nat.{ℕ, ◌+◌, ◌-◌, ◌≤◌, ◌<◌}
use mathlib.Core.Path.{◌≡◌, refl, sym, ap, ◌∙◌}
use mathlib.Core.Bool.{Bool, true, false, cond, not}
use mathlib.Core.List.{List, [], ◌∷◌}
use native.Mathlib.Omega.{arith}
use lib.Dec.{leb, ltb}
use lib.IntN.{ℤ}
use lib.ListN.{length}
use borrow.Author.Tests.{le-leb, lt-leb, leb-false, ltb-false}
use Rattle.layout.specs.declared.Quark.{Quark}
use Rattle.layout.specs.declared.Entry.{Entry}
use Rattle.layout.specs.Layout.{entry_size}
use Rattle.record.specs.declared.History.{History}
use Rattle.record.specs.Refusals.{Reply, accepted, first_of, first_else}
use Rattle.record.specs.Refusals as R
use Rattle.record.specs.Sound.{last_time, sound, long_enough, admitted}
use Rattle.record.specs.Moves.{at_time}
use Rattle.record.proofs.Facts.{admitted_facts, sound_firm}
use Rattle.transient.specs.declared.Ongoing.{Ongoing}
use Rattle.transient.specs.declared.Change.{Change}
use Rattle.transient.specs.declared.Change.TheVariants.{Set}
use Rattle.transient.specs.declared.Decision.{Decision}
use Rattle.transient.specs.declared.Decision.TheVariants as D
use Rattle.transient.specs.Transient.{table_at, ongoing_at, ongoing_sound, interval, with_ongoing, decide}
use Rattle.transient.proofs.Sound.{ongoing_is}
use Rattle.transient.proofs.Decisions.{ended_only}
use Rattle.settle.specs.Settle.{settle, plan_refusal}
use Rattle.build.specs.Moves.{Held, held}
use Rattle.build.specs.Write.{written, inserted}
use Rattle.calls.specs.Outcome.{Comes, answered, outcome, or_refused}
use Rattle.calls.specs.Change.{carried, change_refusal, change_of}
use Rattle.calls.specs.Parts.{unasked, untimely, undone, carried_out, Due}
use Rattle.record.proofs.Said.{refuses, passes, then_nothing, unadmitted, after_head}
use Rattle.calls.proofs.Refused.{comes_refused, comes_done}

-- ---- the parts in sequence are the list

-- of any tests
sequence : (a b c d e f g : Bool) (r : Reply)
    → first_else ((not a, R.Damaged) ∷ (not b, R.Short) ∷ (c, R.Finished) ∷ (d, R.NoQuark) ∷ (not e, R.Damaged) ∷ (f, R.Outside) ∷ (g, R.Early) ∷ []) r
    ≡ (let u = first_of ((not a, R.Damaged) ∷ (not b, R.Short) ∷ (c, R.Finished) ∷ (d, R.NoQuark) ∷ []) in
    let v = first_of ((not e, R.Damaged) ∷ (f, R.Outside) ∷ (g, R.Early) ∷ []) in
    cond (accepted u) (cond (accepted v) r v) u)
sequence false b c d e f g r = refl
sequence true false c d e f g r = refl
sequence true true true d e f g r = refl
sequence true true false true e f g r = refl
sequence true true false false false f g r = refl
sequence true true false false true true g r = refl
sequence true true false false true false true r = refl
sequence true true false false true false false r = refl

-- the first part that refuses decides
module _ (h : History) (t : ℕ) (q : Quark) (what : Change) (nodes table : List ℕ) where
  pub change_parts :
      change_refusal h t q what nodes table
      ≡ (let o = ongoing_at table q.0 in
      let u = unasked h q (length nodes) (length table) in
      let v = untimely h o t in
      cond (accepted u) (cond (accepted v) (undone h o (decide o t what)) v) u)
  unfolding change_refusal unasked untimely undone
  change_parts =
      let o = ongoing_at table q.0 in
      sequence (sound h) (long_enough h (length nodes) (length table)) h.finished (leb h.attributes q.0) (ongoing_sound o h.start h.latest) (ltb last_time t) (ltb t h.latest)
      (undone h o (decide o t what))

  -- An accepted change that ends an interval stores it: depth and room will do.
  pub change_stores : change_refusal h t q what nodes table ≡ R.Nothing → (next : Ongoing) → decide (ongoing_at table q.0) t what ≡ D.Ended next
      → plan_refusal h (settle h (ongoing_at table q.0).start) ≡ R.Nothing
  unfolding undone plan_refusal
  change_stores e next d =
      let o = ongoing_at table q.0 in
      let v = untimely h o t in
      let w = undone h o (decide o t what) in
      let last : w ≡ R.Nothing = then_nothing v w (then_nothing (unasked h q (length nodes) (length table)) (cond (accepted v) w v) (sym change_parts ∙ e)) in
      ap (undone h o) (sym d) ∙ last

-- ---- 3 record, 2, 4, 7

-- 4 and 7
abbrev rest : History → Quark → Reply
rest h q = first_of ((h.finished, R.Finished) ∷ (leb h.attributes q.0, R.NoQuark) ∷ [])

module _ (h : History) (q : Quark) (nodes table : ℕ) (r : Reply) (said : r ≡ admitted h nodes table) where
  pub unasked_head : accepted r ≡ false → r ≡ unasked h q nodes table
  unfolding unasked
  unasked_head e = unadmitted h nodes table (rest h q) r said e

  module _ (e : r ≡ R.Nothing) where
    after : rest h q ≡ unasked h q nodes table
    unfolding unasked
    after = after_head h nodes table (rest h q) r said e

    pub unasked_finished : h.finished ≡ true → R.Finished ≡ unasked h q nodes table
    unasked_finished f = let s : R.Finished ≡ rest h q = rw f in s ∙ after

    module _ (going : h.finished ≡ false) where
      pub unasked_quark : h.attributes ≤ q.0 → R.NoQuark ≡ unasked h q nodes table
      unasked_quark le = let s : R.NoQuark ≡ rest h q = rw (going, le-leb h.attributes q.0 le) in s ∙ after

      pub unasked_fine : q.0 < h.attributes → R.Nothing ≡ unasked h q nodes table
      unasked_fine lt = let s : R.Nothing ≡ rest h q = rw (going, lt-leb h.attributes q.0 lt) in s ∙ after

-- ---- what the first two parts give where they do not refuse

no : {A : Type 0} → ◌≡◌ {A = ℕ} 0 1 → A
no e = absurd (omega arith)

module _ (h : History) (q : Quark) (nodes table : ℕ) (u : Reply) (said : u ≡ unasked h q nodes table) (e : u ≡ R.Nothing) where
  asked : (admitted h nodes table ≡ R.Nothing) × (h.finished ≡ false) × (leb h.attributes q.0 ≡ false)
  unfolding unasked admitted
  asked = go (sound h) (long_enough h nodes table) h.finished (leb h.attributes q.0) (sym e ∙ said)
    where
      go : (a b c d : Bool) → R.Nothing ≡ first_of ((not a, R.Damaged) ∷ (not b, R.Short) ∷ (c, R.Finished) ∷ (d, R.NoQuark) ∷ [])
          → (first_of ((not a, R.Damaged) ∷ (not b, R.Short) ∷ []) ≡ R.Nothing) × (c ≡ false) × (d ≡ false)
      go true true false false z = (refl, refl, refl)
      go true true false true z = no (cc)
      go true true true d z = no (cc)
      go true false c d z = no (cc)
      go false b c d z = no (cc)

  -- the quark's entry lies in the table
  pub asked_entry : table_at q.0 + entry_size ≤ table
  asked_entry = omega (arith, leb-false h.attributes q.0 asked.2, (admitted_facts h nodes table asked.0).2 asked.1)

module _ (h : History) (o : Ongoing) (t : ℕ) (v : Reply) (said : v ≡ untimely h o t) (e : v ≡ R.Nothing) where
  timely : (ongoing_sound o h.start h.latest ≡ true) × (ltb last_time t ≡ false) × (ltb t h.latest ≡ false)
  unfolding untimely
  timely = go (ongoing_sound o h.start h.latest) (ltb last_time t) (ltb t h.latest) (sym e ∙ said)
    where
      go : (a b c : Bool) → R.Nothing ≡ first_of ((not a, R.Damaged) ∷ (b, R.Outside) ∷ (c, R.Early) ∷ []) → (a ≡ true) × (b ≡ false) × (c ≡ false)
      go true false false z = (refl, refl, refl)
      go true false true z = no (cc)
      go true true c z = no (cc)
      go false b c z = no (cc)

module _ (h : History) (t : ℕ) (q : Quark) (o : Ongoing) (nodes table : List ℕ) (u v : Reply) where
  pub due : u ≡ unasked h q (length nodes) (length table) → u ≡ R.Nothing → v ≡ untimely h o t → v ≡ R.Nothing → Due h t q o nodes table
  due a b d e =
      let is = asked h q (length nodes) (length table) u a b in
      let now = timely h o t v d e in
      let f = admitted_facts h (length nodes) (length table) is.0 in
      record {
        firm = sound_firm h f.0 is.1;
        room = f.1;
        entry = asked_entry h q (length nodes) (length table) u a b;
        begun = omega (arith, (ongoing_is o h.start h.latest now.0).2, ltb-false t h.latest now.2);
        last = ltb-false last_time t now.1;
      }

-- ---- storing: what `insert` needs and gives

pub entry_ends : (t : ℕ) (q : Quark) (o : Ongoing) (x : Entry) → x ≡ interval q o (t - 1) → t ≤ last_time → x.end ≤ last_time
unfolding interval
entry_ends t q o x is le = rw is (omega arith)

module _ (h : History) (t : ℕ) (q : Quark) (o next : Ongoing) (nodes table : List ℕ) (x : Entry) (is : x ≡ interval q o (t - 1)) (r : Reply) (g : History) (left : List ℕ) where
  -- what build::write::insert says of itself
  abbrev Inserted : Type 0
  Inserted = (r ≡ plan_refusal h (settle h x.start)) × (held g left ≡ inserted x (held h nodes))

  module _ (said : Inserted) where
    plan : r ≡ undone h o (D.Ended next)
    unfolding undone interval plan_refusal
    plan = said.0 ∙ ap (λ (y : Entry). plan_refusal h (settle h y.start)) is

    pub store_refused : accepted r ≡ false → outcome (answered r g) left table ≡ carried_out h t q o nodes table (D.Ended next)
    unfolding inserted
    store_refused e =
        let kept : inserted x (held h nodes) ≡ held h nodes = ap (λ (b : Bool). cond b (written x (settle h x.start) (held h nodes)) (held h nodes)) (ap accepted (sym said.0) ∙ e) in
        let hist : g ≡ h = ap (λ (σ : Held). σ.history) (said.1 ∙ kept) in
        let byte : left ≡ nodes = ap (λ (σ : Held). σ.nodes) (said.1 ∙ kept) in
        let same : outcome (answered r g) left table ≡ outcome (answered r h) nodes table = λ i. outcome (answered r (hist i)) (byte i) table in
        same ∙ comes_refused r _ plan h nodes table _ e

    pub store_done : (f : History) (rows : List ℕ) → r ≡ R.Nothing → f ≡ at_time g t → rows ≡ with_ongoing table q next
        → outcome (answered R.Nothing f) left rows ≡ carried_out h t q o nodes table (D.Ended next)
    unfolding carried
    store_done f rows e a b =
        let σ = inserted (interval q o (t - 1)) (held h nodes) in
        let whole : held g left ≡ σ = said.1 ∙ ap (λ (y : Entry). inserted y (held h nodes)) is in
        let hist : g ≡ σ.history = ap (λ (τ : Held). τ.history) whole in
        let byte : left ≡ σ.nodes = ap (λ (τ : Held). τ.nodes) whole in
        let k : f ≡ at_time σ.history t = a ∙ ap (λ (y : History). at_time y t) hist in
        let done : outcome (answered R.Nothing f) left rows ≡ outcome (answered R.Nothing (at_time σ.history t)) σ.nodes (with_ongoing table q next) = λ i. outcome (answered R.Nothing (k i)) (byte i) (b i) in
        done ∙ comes_done r _ plan h nodes table _ e

-- ---- the four decisions

module _ (h : History) (t : ℕ) (q : Quark) (o : Ongoing) (what : Change) (nodes table : List ℕ) (d : Decision) (is : d ≡ decide o t what) where
  by : (f : Decision) → d ≡ f → carried_out h t q o nodes table f ≡ carried_out h t q o nodes table (decide o t what)
  by f e = ap (carried_out h t q o nodes table) (sym e ∙ is)

  pub carry_top : d ≡ D.Top → outcome (answered R.Top h) nodes table ≡ carried_out h t q o nodes table (decide o t what)
  unfolding undone
  carry_top e = by D.Top e

  pub carry_same : (g : History) → d ≡ D.Same → g ≡ at_time h t → outcome (answered R.Nothing g) nodes table ≡ carried_out h t q o nodes table (decide o t what)
  unfolding undone carried
  carry_same g e a = ap (λ (y : History). outcome (answered R.Nothing y) nodes table) a ∙ by D.Same e

  pub carry_replaced : (next : Ongoing) (g : History) (rows : List ℕ) → d ≡ D.Replaced next → rows ≡ with_ongoing table q next → g ≡ at_time h t
      → outcome (answered R.Nothing g) nodes rows ≡ carried_out h t q o nodes table (decide o t what)
  unfolding undone carried
  carry_replaced next g rows e b a =
      let done : outcome (answered R.Nothing g) nodes rows ≡ outcome (answered R.Nothing (at_time h t)) nodes (with_ongoing table q next) = λ i. outcome (answered R.Nothing (a i)) nodes (b i) in
      done ∙ by (D.Replaced next) e

  module _ (next : Ongoing) (e : d ≡ D.Ended next) where
    pub carry_before : Due h t q o nodes table → o.start < t
    carry_before f = omega (arith, f.begun, (ended_only o t what next (sym is ∙ e)).0)

    pub carry_ended : (r : Reply) (g : History) (left rows : List ℕ) → Comes r g left rows (carried_out h t q o nodes table (D.Ended next)) → Comes r g left rows (carried_out h t q o nodes table (decide o t what))
    carry_ended r g left rows k = k ∙ by (D.Ended next) e

-- ---- the call

module _ (h : History) (t : ℕ) (q : Quark) (what : Change) (nodes table : List ℕ) (u : Reply) (first : u ≡ unasked h q (length nodes) (length table)) where
  abbrev last : Reply
  last = undone h (ongoing_at table q.0) (decide (ongoing_at table q.0) t what)

  abbrev later : Reply
  later = let v = untimely h (ongoing_at table q.0) t in cond (accepted v) last v

  parted : change_refusal h t q what nodes table ≡ cond (accepted u) later u
  parted = change_parts h t q what nodes table ∙ ap (λ (x : Reply). cond (accepted x) later x) (sym first)

  pub change_unasked : accepted u ≡ false → outcome (answered u h) nodes table ≡ change_of h t q what nodes table
  unfolding change_of
  change_unasked e = comes_refused u _ (sym (parted ∙ refuses u later e)) h nodes table _ e

  module _ (ok : u ≡ R.Nothing) (o : Ongoing) (read : o ≡ ongoing_at table q.0) (v : Reply) (second : v ≡ untimely h o t) where
    timed : change_refusal h t q what nodes table ≡ cond (accepted v) last v
    timed =
        parted ∙ passes u later ok
        ∙ ap (λ (x : Reply). cond (accepted x) last x) (sym (second ∙ ap (λ (y : Ongoing). untimely h y t) read))

    pub change_untimely : accepted v ≡ false → outcome (answered v h) nodes table ≡ change_of h t q what nodes table
    unfolding change_of
    change_untimely e = comes_refused v _ (sym (timed ∙ refuses v last e)) h nodes table _ e

    pub change_carried : v ≡ R.Nothing → (r : Reply) (g : History) (left rows : List ℕ) → Comes r g left rows (carried_out h t q o nodes table (decide o t what)) → Comes r g left rows (change_of h t q what nodes table)
    unfolding change_of
    change_carried e r g left rows k =
        k ∙ ap (λ (y : Ongoing). carried_out h t q y nodes table (decide y t what)) read
        ∙ ap (λ (x : Reply). or_refused x h nodes table (carried h t q (ongoing_at table q.0) nodes table (decide (ongoing_at table q.0) t what))) (sym (timed ∙ passes v last e))

-- z is the value read back from its bits, as code has it
pub set_back : (h : History) (t : ℕ) (q : Quark) (v z : ℤ) (nodes table : List ℕ) → z ≡ v → (r : Reply) (g : History) (left rows : List ℕ)
    → Comes r g left rows (change_of h t q (Set z) nodes table) → Comes r g left rows (change_of h t q (Set v) nodes table)
set_back h t q v z nodes table e r g left rows k = k ∙ ap (λ (y : ℤ). change_of h t q (Set y) nodes table) e
