-- Finish: the turns of its three loops, each way through the code, and what acceptance gives. Assumes nothing.
use Prim.Native.Nat.{ℕ, zero, suc, ◌+◌, ◌-◌, ◌*◌, ◌/◌, ◌≤◌, ◌<◌}
use mathlib.Core.Path.{◌≡◌, refl, sym, ap, subst, ◌∙◌}
use mathlib.Core.Bool.{Bool, true, false, cond, not, false≢true}
use mathlib.Core.List.{List, [], ◌∷◌}
use native.Mathlib.Nat.{zero-add, add-zero, sub-zero}
use native.Mathlib.Omega.{arith}
use lib.Dec.{ltb}
use lib.ListN.{length}
use borrow.Author.Tests.{le-ltb, lt-ltb, ltb-false, not-true, not-false}
use Rattle.std.specs.Prelude.{Option, None}
use Rattle.layout.specs.declared.Entry.{Entry}
use Rattle.layout.specs.Layout.{node_size, entry_size}
use Rattle.record.specs.declared.History.{History}
use Rattle.record.specs.Refusals.{Reply, accepted, first_of, first_else}
use Rattle.record.specs.Refusals as R
use Rattle.record.specs.Sound.{last_time, sound, long_enough, all, admitted}
use Rattle.record.specs.Moves.{finished_at}
use Rattle.record.specs.Firm.{Firm}
use Rattle.record.proofs.Facts.{admitted_facts, sound_firm, sound_numbers}
use Rattle.record.proofs.Runs.{all_none, all_fails, all_turn}
use Rattle.transient.specs.declared.Ongoing.{Ongoing}
use Rattle.transient.specs.Transient.{ongoing_at, ongoing_sound, interval}
use Rattle.settle.specs.Settle.{settle, plan_refusal}
use Rattle.build.specs.Moves.{Held, held, Room}
use Rattle.build.specs.Write.{inserted, close_all}
use Rattle.build.specs.Trial.{Tried, tried}
use Rattle.build.proofs.Trials.{tried_firm, tried_refusal}
use Rattle.build.proofs.Steps.{inserted_history, inserted_length}
use Rattle.build.proofs.Inserted.{inserted_firm, inserted_room}
use Rattle.calls.specs.Outcome.{Outcome, answered, outcome}
use Rattle.calls.specs.Finish.{all_sound, trial, finish_refusal, stored_from, finish_of}
use Rattle.calls.proofs.Refused.{comes_refused, comes_done}
use Rattle.record.proofs.Said.{accepted_nothing, refuses, passes, unadmitted, after_head}
use Rattle.finishing.specs.Due.{caught_up}
use Rattle.finishing.proofs.Due.{length_caught}

no : {A : Type 0} → ◌≡◌ {A = ℕ} 0 1 → A
no e = absurd (omega arith)

-- ═══ Every entry is sound: what is left from the entry reached is the whole ═══

abbrev pub sound_from : ℕ → ℕ → ℕ → List ℕ → ℕ → Bool
sound_from start latest n table q = all (λ x. ongoing_sound (ongoing_at table x) start latest) q (n - q)

module _ (h : History) (table : List ℕ) (q : ℕ) (so_far : sound_from h.start h.latest h.attributes table q ≡ sound_from h.start h.latest h.attributes table 0) where
  entries : sound_from h.start h.latest h.attributes table q ≡ all_sound h table
  unfolding all_sound
  entries = so_far ∙ rw sub-zero

  pub entries_end : h.attributes ≤ q → true ≡ all_sound h table
  entries_end le = sym (all_none _ q (h.attributes - q) (omega arith)) ∙ entries

  module _ (lt : q < h.attributes) (o : Ongoing) (read : o ≡ ongoing_at table q) (x : Bool) (is : x ≡ ongoing_sound o h.start h.latest) where
    said : ongoing_sound (ongoing_at table q) h.start h.latest ≡ x
    said = ap (λ (y : Ongoing). ongoing_sound y h.start h.latest) (sym read) ∙ sym is

    pub entries_fail : not x ≡ true → false ≡ all_sound h table
    entries_fail n = sym (all_fails _ q (h.attributes - q) (h.attributes - (q + 1)) (omega arith) (said ∙ not-true x n)) ∙ entries

    pub entries_turn : not x ≡ false → sound_from h.start h.latest h.attributes table (q + 1) ≡ sound_from h.start h.latest h.attributes table 0
    entries_turn n = sym (all_turn _ q (h.attributes - q) (q + 1) (h.attributes - (q + 1)) refl (omega arith) (said ∙ not-false x n)) ∙ so_far

-- ═══ The trial run: what is left of it from the record reached is the whole ═══

pub trial_begin : (n : ℕ) (table : List ℕ) (t : ℕ) (h : History) → trial (n - 0) 0 table t h ≡ trial n 0 table t h
trial_begin n table t h = ap (λ (m : ℕ). trial m 0 table t h) (sub-zero n)

module _ (n q : ℕ) (table : List ℕ) (t : ℕ) (g : History) (whole : Reply) (so_far : trial (n - q) q table t g ≡ whole) where
  pub trial_end : n ≤ q → R.Nothing ≡ whole
  unfolding trial
  trial_end le = let z : n - q ≡ 0 = omega arith in simp z at so_far

  module _ (lt : q < n) (o : Ongoing) (read : o ≡ ongoing_at table q) (r : Reply) (is : r ≡ (tried g o.start t).refusal) where
    abbrev there : Tried
    there = tried g (ongoing_at table q).start t

    here : tried g o.start t ≡ there
    here = ap (λ (y : Ongoing). tried g y.start t) read

    said_here : r ≡ there.refusal
    said_here = is ∙ ap (λ (x : Tried). x.refusal) here

    step : whole ≡ cond (accepted there.refusal) (trial (n - (q + 1)) (q + 1) table t there.history) there.refusal
    unfolding trial
    step = let z : n - q ≡ suc (n - (q + 1)) = omega arith in sym so_far ∙ ap (λ (m : ℕ). trial m q table t g) z

    pub trial_stops : accepted r ≡ false → r ≡ whole
    trial_stops e = said_here ∙ sym (step ∙ refuses there.refusal (trial (n - (q + 1)) (q + 1) table t there.history) (ap accepted (sym said_here) ∙ e))

    pub trial_turn : r ≡ R.Nothing → (k : History) → k ≡ (tried g o.start t).history → trial (n - (q + 1)) (q + 1) table t k ≡ whole
    trial_turn e k f =
        ap (trial (n - (q + 1)) (q + 1) table t) (f ∙ ap (λ (x : Tried). x.history) here)
        ∙ sym (step ∙ passes there.refusal (trial (n - (q + 1)) (q + 1) table t there.history) (sym said_here ∙ e))

pub trial_firm : (g k : History) (s t : ℕ) → k ≡ (tried g s t).history → Firm g → t ≤ last_time → Firm k
trial_firm g k s t is f le = rw is (tried_firm g s t f le)

-- ═══ Storing all: what is left to store from the entry reached is the whole ═══

pub record StoreLeft (n : ℕ) (table : List ℕ) (t : ℕ) (h : History) (b : List ℕ) (q : ℕ) (g : History) (c : List ℕ) : Type 0 where
  pub firm : Firm g
  pub room : Room g c
  pub long : length c ≡ length b
  pub whole : stored_from (n - q) q table t (held g c) ≡ stored_from n 0 table t (held h b)

module _ (n : ℕ) (table : List ℕ) (t : ℕ) (h : History) (b : List ℕ) where
  store_begins : Firm h → Room h b → StoreLeft n table t h b 0 h b
  store_begins f room = record { firm = f; room = room; long = refl; whole = ap (λ (m : ℕ). stored_from m 0 table t (held h b)) (sub-zero n) }

  -- no header is due yet
  pub late_begins : Firm h → Room h b → StoreLeft n table t h b 0 h (caught_up h None b)
  unfolding caught_up
  late_begins f room = store_begins f room

  module _ (q : ℕ) (g : History) (c : List ℕ) (left : StoreLeft n table t h b q g c) where
    store_ends : n ≤ q → held g c ≡ stored_from n 0 table t (held h b)
    unfolding stored_from
    store_ends le = let z : n - q ≡ 0 = omega arith in simp z at left.whole

    module _ (last : t ≤ last_time) (o : Ongoing) (x : Entry) (is : x ≡ interval (record { 0 = q }) o t) where
      pub store_ending : x.end ≤ last_time
      unfolding interval
      store_ending = rw is last

      pub store_turn : q < n → o ≡ ongoing_at table q → (k : History) (d : List ℕ) → held k d ≡ inserted x (held g c) → StoreLeft n table t h b (q + 1) k d
      unfolding stored_from
      store_turn lt read k d both =
          let z : n - q ≡ suc (n - (q + 1)) = omega arith in
          let entry : x ≡ interval (record { 0 = q }) (ongoing_at table q) t = is ∙ ap (λ (y : Ongoing). interval (record { 0 = q }) y t) read in
          let one : held k d ≡ inserted (interval (record { 0 = q }) (ongoing_at table q) t) (held g c) = both ∙ ap (λ (y : Entry). inserted y (held g c)) entry in
          record {
            firm = subst (λ (σ : Held). Firm σ.history) (sym both) (inserted_firm g c x left.firm store_ending);
            room = subst (λ (σ : Held). Room σ.history σ.nodes) (sym both) (inserted_room g c x left.room);
            long = ap (λ (σ : Held). length σ.nodes) both ∙ inserted_length x (held g c) ∙ left.long;
            whole = ap (stored_from (n - (q + 1)) (q + 1) table t) one ∙ sym (ap (λ (m : ℕ). stored_from m q table t (held g c)) z) ∙ left.whole;
          }

  -- the buffer itself, in which the header that is due is still to be written
  module _ (q : ℕ) (g : History) (due : Option ℕ) (d : List ℕ) (left : StoreLeft n table t h b q g (caught_up g due d)) where
    pub late_room : Room g d
    late_room = omega (arith, left.room, length_caught g d due)

    pub late_ends : n ≤ q → (e : List ℕ) → e ≡ caught_up g due d → held g e ≡ stored_from n 0 table t (held h b)
    late_ends le e is = ap (held g) is ∙ store_ends q g (caught_up g due d) left le

-- ---- an accepted trial: no interval is refused when all are stored

-- the trial goes over the records that storing leaves
trial_on : (n q : ℕ) (table : List ℕ) (t : ℕ) (σ : Held) → trial (suc n) q table t σ.history ≡ R.Nothing
    → (plan_refusal σ.history (settle σ.history (ongoing_at table q).start) ≡ R.Nothing)
    × (trial n (q + 1) table t (inserted (interval (record { 0 = q }) (ongoing_at table q) t) σ).history ≡ R.Nothing)
unfolding trial interval
trial_on n q table t σ e = go (accepted r.refusal) refl e
  where
    x : Entry
    x = interval (record { 0 = q }) (ongoing_at table q) t

    r : Tried
    r = tried σ.history (ongoing_at table q).start t

    go : (b : Bool) → accepted r.refusal ≡ b → cond b (trial n (q + 1) table t r.history) r.refusal ≡ R.Nothing
        → (plan_refusal σ.history (settle σ.history (ongoing_at table q).start) ≡ R.Nothing) × (trial n (q + 1) table t (inserted x σ).history ≡ R.Nothing)
    go true a k = (
      sym (tried_refusal σ.history (ongoing_at table q).start t) ∙ accepted_nothing r.refusal a,
      ap (trial n (q + 1) table t) (inserted_history x σ) ∙ k,
    )
    go false a k = absurd (false≢true (sym a ∙ ap accepted k))

-- before the i-th of them the plan is not refused, so each is written
pub none_dropped : (n q : ℕ) (table : List ℕ) (t : ℕ) (σ : Held) → trial n q table t σ.history ≡ R.Nothing → (i : ℕ) → i < n
    → (let g = (stored_from i q table t σ).history in plan_refusal g (settle g (ongoing_at table (q + i)).start) ≡ R.Nothing)
unfolding stored_from
none_dropped zero q table t σ e i lt = absurd (omega arith)
none_dropped (suc n) q table t σ e zero lt =
    ap (λ (k : ℕ). plan_refusal σ.history (settle σ.history (ongoing_at table k).start)) (add-zero q) ∙ (trial_on n q table t σ e).0
none_dropped (suc n) q table t σ e (suc i) lt =
    let τ = inserted (interval (record { 0 = q }) (ongoing_at table q) t) σ in
    let z : q + suc i ≡ q + 1 + i = omega arith in
    let g = (stored_from i (q + 1) table t τ).history in
    ap (λ (k : ℕ). plan_refusal g (settle g (ongoing_at table k).start)) z ∙ none_dropped n (q + 1) table t τ (trial_on n q table t σ e).1 i (omega arith)

-- ---- what storing all keeps

pub stored_firm : (n q : ℕ) (table : List ℕ) (t : ℕ) (σ : Held) → t ≤ last_time → Firm σ.history → Firm (stored_from n q table t σ).history
unfolding stored_from interval
stored_firm zero q table t σ le f = f
stored_firm (suc n) q table t σ le f =
    stored_firm n (q + 1) table t (inserted (interval (record { 0 = q }) (ongoing_at table q) t) σ) le
    (inserted_firm σ.history σ.nodes (interval (record { 0 = q }) (ongoing_at table q) t) f le)

pub stored_room : (n q : ℕ) (table : List ℕ) (t : ℕ) (σ : Held) → Room σ.history σ.nodes → Room (stored_from n q table t σ).history (stored_from n q table t σ).nodes
unfolding stored_from
stored_room zero q table t σ room = room
stored_room (suc n) q table t σ room =
    stored_room n (q + 1) table t (inserted (interval (record { 0 = q }) (ongoing_at table q) t) σ)
    (inserted_room σ.history σ.nodes (interval (record { 0 = q }) (ongoing_at table q) t) room)

-- ═══ The list ═══

-- 4, 3 entries, 6, 5, over any tests
module _ (f x y z : Bool) (s : Reply) where
  abbrev listed : Reply
  listed = first_else ((f, R.Finished) ∷ (not x, R.Damaged) ∷ (y, R.Outside) ∷ (z, R.Early) ∷ []) s

  first : f ≡ true → R.Finished ≡ listed
  first a = rw a

  second : f ≡ false → x ≡ false → R.Damaged ≡ listed
  second a b = rw (a, b)

  third : f ≡ false → x ≡ true → y ≡ true → R.Outside ≡ listed
  third a b c = rw (a, b, c)

  fourth : f ≡ false → x ≡ true → y ≡ false → z ≡ true → R.Early ≡ listed
  fourth a b c d = rw (a, b, c, d)

  none : f ≡ false → x ≡ true → y ≡ false → z ≡ false → s ≡ listed
  none a b c d = rw (a, b, c, d)

-- what the trial's table and record give
module _ (h : History) (nodes long : ℕ) (r : Reply) (said : r ≡ admitted h nodes long) (e : r ≡ R.Nothing) (going : h.finished ≡ false) where
  pub entries_inside : (h.attributes ≤ long / entry_size) × (h.attributes ≤ 4096)
  entries_inside = let f = admitted_facts h nodes long (sym said ∙ e) in (f.2 going, (sound_numbers h f.0).attributes)

  pub trial_needs : (t : ℕ) → t ≤ last_time → Firm h × (h.attributes ≤ long / entry_size) × (h.attributes ≤ 4096) × (t ≤ last_time)
  trial_needs t le = (sound_firm h (admitted_facts h nodes long (sym said ∙ e)).0 going, entries_inside.0, entries_inside.1, le)

module _ (h : History) (t nodes : ℕ) (table : List ℕ) where
  abbrev rest : Reply
  rest = listed h.finished (all_sound h table) (ltb last_time t) (ltb t h.latest) (trial h.attributes 0 table t h)

  module _ (r : Reply) (said : r ≡ admitted h nodes (length table)) where
    pub finish_unadmitted : accepted r ≡ false → r ≡ finish_refusal h t nodes table
    unfolding finish_refusal
    finish_unadmitted e = unadmitted h nodes (length table) rest r said e

    module _ (e : r ≡ R.Nothing) where
      after : rest ≡ finish_refusal h t nodes table
      unfolding finish_refusal
      after = after_head h nodes (length table) rest r said e

      pub finish_finished : h.finished ≡ true → R.Finished ≡ finish_refusal h t nodes table
      finish_finished a = first h.finished (all_sound h table) (ltb last_time t) (ltb t h.latest) (trial h.attributes 0 table t h) a ∙ after

      module _ (a : h.finished ≡ false) where
        module _ (x : Bool) (is : x ≡ all_sound h table) where
          pub finish_damaged : not x ≡ true → R.Damaged ≡ finish_refusal h t nodes table
          finish_damaged n = second h.finished (all_sound h table) (ltb last_time t) (ltb t h.latest) (trial h.attributes 0 table t h) a (sym is ∙ not-true x n) ∙ after

          module _ (m : not x ≡ false) where
            b : all_sound h table ≡ true
            b = sym is ∙ not-false x m

            pub finish_outside : last_time < t → R.Outside ≡ finish_refusal h t nodes table
            finish_outside lt = third h.finished (all_sound h table) (ltb last_time t) (ltb t h.latest) (trial h.attributes 0 table t h) a b (lt-ltb last_time t lt) ∙ after

            module _ (le : t ≤ last_time) where
              pub finish_early : t < h.latest → R.Early ≡ finish_refusal h t nodes table
              finish_early lt = fourth h.finished (all_sound h table) (ltb last_time t) (ltb t h.latest) (trial h.attributes 0 table t h) a b (le-ltb last_time t le) (lt-ltb t h.latest lt) ∙ after

              pub finish_tried : h.latest ≤ t → (z : Reply) → z ≡ trial h.attributes 0 table t h → z ≡ finish_refusal h t nodes table
              finish_tried ge z c = c ∙ none h.finished (all_sound h table) (ltb last_time t) (ltb t h.latest) (trial h.attributes 0 table t h) a b (le-ltb last_time t le) (le-ltb t h.latest ge) ∙ after

-- ═══ The call ═══

-- accepted: what the tests and the trial say
module _ (h : History) (t nodes : ℕ) (table : List ℕ) (r : Reply) (said : r ≡ finish_refusal h t nodes table) (e : r ≡ R.Nothing) where
  granted : (admitted h nodes (length table) ≡ R.Nothing) × (h.finished ≡ false) × (ltb last_time t ≡ false) × (trial h.attributes 0 table t h ≡ R.Nothing)
  unfolding finish_refusal admitted
  granted = go (sound h) (long_enough h nodes (length table)) h.finished (all_sound h table) (ltb last_time t) (ltb t h.latest) (trial h.attributes 0 table t h) (sym e ∙ said)
    where
      go : (a b f x y z : Bool) (s : Reply) → R.Nothing ≡ first_else ((not a, R.Damaged) ∷ (not b, R.Short) ∷ (f, R.Finished) ∷ (not x, R.Damaged) ∷ (y, R.Outside) ∷ (z, R.Early) ∷ []) s
          → (first_of ((not a, R.Damaged) ∷ (not b, R.Short) ∷ []) ≡ R.Nothing) × (f ≡ false) × (y ≡ false) × (s ≡ R.Nothing)
      go true true false true false false s k = (refl, refl, refl, sym k)
      go true true false true false true s k = no (cc)
      go true true false true true z s k = no (cc)
      go true true false false y z s k = no (cc)
      go true true true x y z s k = no (cc)
      go true false f x y z s k = no (cc)
      go false b f x y z s k = no (cc)

  -- what the writing needs
  pub finish_needs : Firm h × (h.shape.n * node_size h.shape ≤ nodes) × (h.attributes ≤ length table / entry_size) × (h.attributes ≤ 4096) × (t ≤ last_time)
  finish_needs =
      let f = admitted_facts h nodes (length table) granted.0 in
      (sound_firm h f.0 granted.1, f.1, f.2 granted.1, (sound_numbers h f.0).attributes, ltb-false last_time t granted.2)

-- An accepted finish stores every interval: none is refused on the record that the earlier ones leave.
pub finish_stores : (h : History) (t : ℕ) (nodes table : List ℕ) → finish_refusal h t (length nodes) table ≡ R.Nothing → (q : ℕ) → q < h.attributes
    → (let g = (stored_from q 0 table t (held h nodes)).history in plan_refusal g (settle g (ongoing_at table q).start) ≡ R.Nothing)
finish_stores h t nodes table e q lt =
    let g = (stored_from q 0 table t (held h nodes)).history in
    ap (λ (k : ℕ). plan_refusal g (settle g (ongoing_at table k).start)) (sym (zero-add q))
    ∙ none_dropped h.attributes 0 table t (held h nodes) (granted h t (length nodes) table _ refl e).3 q lt

module _ (h : History) (t : ℕ) (nodes table : List ℕ) (r : Reply) (said : r ≡ finish_refusal h t (length nodes) table) where
  pub finish_refused : accepted r ≡ false → outcome (answered r h) nodes table ≡ finish_of h t nodes table
  unfolding finish_of
  finish_refused e = comes_refused r _ said h nodes table _ e

  module _ (e : r ≡ R.Nothing) (g : History) (left : List ℕ) where
    module _ (both : held g left ≡ stored_from h.attributes 0 table t (held h nodes)) where
      pub close_needs : Firm g × Room g left
      close_needs =
          let n = finish_needs h t (length nodes) table r said e in
          subst (λ (σ : Held). Firm σ.history × Room σ.history σ.nodes) (sym both)
          (stored_firm h.attributes 0 table t (held h nodes) n.4 n.0, stored_room h.attributes 0 table t (held h nodes) n.1)

      pub finished_needs : g.top < 16
      finished_needs = omega (arith, close_needs.0.top)

      pub finish_done : (k : History) (last : List ℕ) → last ≡ close_all g t (g.top + 1 - g.low) g.low left → k ≡ finished_at g t → outcome (answered R.Nothing k) last table ≡ finish_of h t nodes table
      unfolding finish_of
      finish_done k last closed done = written ∙ ap end both ∙ comes_done r _ said h nodes table _ e
        where
          end : Held → Outcome
          end σ = outcome (answered R.Nothing (finished_at σ.history t)) (close_all σ.history t (σ.history.top + 1 - σ.history.low) σ.history.low σ.nodes) table

          written : outcome (answered R.Nothing k) last table ≡ end (held g left)
          written = λ i. outcome (answered R.Nothing (done i)) (closed i) table
