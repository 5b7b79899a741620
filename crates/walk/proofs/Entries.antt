-- R6 of an entry, as the questions test it: its times counted from the node's start on or compared, its kind and value with those before, bit by bit. Assumes nothing.
use Rattle.std.proofs.Common.{◌≡◌, ℕ, zero, suc, ◌+◌, ◌-◌, ◌<◌, ◌≤◌, Bool, true, false, not, ◌&&◌, eqb, ltb, leb, ℤ, sym, refl, ap, ◌∙◌, arith, ltb-true, ne_eqb, le-leb, leb-false, leb-true}
use lib.Bits.{bit_or, and_le_l, and_le_r, or_lt, or_add_and}
use borrow.Author.Tests.{lt-leb, not-false}
use Rattle.layout.specs.declared.Entry.{Entry}
use Rattle.layout.specs.declared.Header.{Header}
use Rattle.transient.specs.Transient.{state_sound}
use Rattle.transient.proofs.Sound.{kind_bad}
use Rattle.walk.specs.Rules.{entry_sound, covers}
use Rattle.walk.specs.Since.{since, entry_fits, reaches, spans}
use Rattle.walk.proofs.Broken.{and_left, and_right, and_no}

-- ---- a time counted from a start on

module _ (start x : ℕ) where
  since_from : start ≤ x → since start x ≡ x - start
  unfolding since
  since_from h = rw (le-leb start x h)

  since_before : x < start → since start x ≡ x + 18446744073709551616 - start
  unfolding since
  since_before h = rw (lt-leb start x h)

-- ---- all but its kind and value

record Fits (a start end : ℕ) (e : Entry) : Type 0 where
  pub known : e.quark.0 < a
  pub order : e.start ≤ e.end
  pub from : start ≤ e.start
  pub to : e.end ≤ end

module _ (a start end : ℕ) (e : Entry) where
  fits_facts : entry_fits a start end e ≡ true → Fits a start end e
  unfolding entry_fits
  fits_facts y =
      let f = and_left (ltb e.quark.0 a && leb e.start e.end && leb start e.start) _ y in
      let g = and_left (ltb e.quark.0 a && leb e.start e.end) _ f in
      record {
        known = ltb-true _ _ (and_left _ _ g);
        order = leb-true _ _ (and_right (ltb e.quark.0 a) _ g);
        from = leb-true _ _ (and_right (ltb e.quark.0 a && leb e.start e.end) _ f);
        to = leb-true _ _ (and_right (ltb e.quark.0 a && leb e.start e.end && leb start e.start) _ y);
      }

-- ---- its kind and value with those before, bit by bit

or_left : (a b : ℕ) → a ≤ bit_or a b
or_left a b = omega (arith, or_add_and a b, and_le_r a b)

or_right : (a b : ℕ) → b ≤ bit_or a b
or_right a b = omega (arith, or_add_and a b, and_le_l a b)

pub or_small : (a b : ℕ) → leb (bit_or a b) 1 ≡ (leb a 1 && leb b 1)
or_small a b = go (leb a 1) refl (leb b 1) refl
  where
    go : (x : Bool) → leb a 1 ≡ x → (y : Bool) → leb b 1 ≡ y → leb (bit_or a b) 1 ≡ (x && y)
    go true f true g = le-leb (bit_or a b) 1 (omega (arith, or_lt 1 a b (omega (arith, leb-true a 1 f)) (omega (arith, leb-true b 1 g))))
    go true f false g = lt-leb (bit_or a b) 1 (omega (arith, or_right a b, leb-false b 1 g))
    go false f y g = lt-leb (bit_or a b) 1 (omega (arith, or_left a b, leb-false a 1 f))

or_zero : (a b : ℕ) → eqb (bit_or a b) 0 ≡ (eqb a 0 && eqb b 0)
or_zero zero b = refl
or_zero (suc a) b = ne_eqb (bit_or (suc a) b) 0 (λ z. omega (arith, or_left (suc a) b, z)) ∙ sym (ap (λ (x : Bool). x && eqb b 0) (ne_eqb (suc a) 0 (λ z. omega (arith, z))))

pub or_null : (before kind x : ℕ) (v : ℤ) → (kind ≤ 1 → eqb x 0 ≡ state_sound kind v) → kind ≤ 1 → eqb (bit_or before x) 0 ≡ (eqb before 0 && state_sound kind v)
or_null before kind x v is k = or_zero before x ∙ ap (λ (y : Bool). eqb before 0 && y) (is k)

-- the two together
pub states_more : (nulls nulls' kinds kinds' : ℕ) (e : Entry) → leb kinds' 1 ≡ (leb kinds 1 && leb e.kind 1) → (e.kind ≤ 1 → eqb nulls' 0 ≡ (eqb nulls 0 && state_sound e.kind e.value))
    → (eqb nulls' 0 && leb kinds' 1) ≡ (eqb nulls 0 && leb kinds 1 && state_sound e.kind e.value)
states_more nulls nulls' kinds kinds' e k n = go (leb e.kind 1) refl
  where
    S : Bool
    S = state_sound e.kind e.value

    swap : (x y s : Bool) → (x && s && (y && true)) ≡ (x && y && s)
    swap true true s = go₁ s
      where
        go₁ : (s : Bool) → (s && true) ≡ s
        go₁ true = refl
        go₁ false = refl
    swap true false true = refl
    swap true false false = refl
    swap false y s = refl

    lost : (x y z : Bool) → (z && (y && false)) ≡ (x && y && false)
    lost x y z = and_no z _ (and_no y false refl) ∙ sym (and_no (x && y) false refl)

    go : (b : Bool) → leb e.kind 1 ≡ b → (eqb nulls' 0 && leb kinds' 1) ≡ (eqb nulls 0 && leb kinds 1 && S)
    go true y = rw (n (leb-true e.kind 1 y), k, y) (swap (eqb nulls 0) (leb kinds 1) S)
    go false y = rw (k, y, kind_bad e.kind e.value (leb-false e.kind 1 y)) (lost (eqb nulls 0) (leb kinds 1) (eqb nulls' 0))

-- ---- R6 of an entry is all of that

pub sound_both : (a : ℕ) (h : Header) (e : Entry) → entry_sound a h e ≡ (entry_fits a h.start h.end e && state_sound e.kind e.value)
unfolding entry_sound entry_fits
sound_both a h e = go (ltb e.quark.0 a) (state_sound e.kind e.value) (leb e.start e.end) (leb h.start e.start) (leb e.end h.end)
  where
    go : (q s o f t : Bool) → (q && s && o && f && t) ≡ (q && o && f && t && s)
    go false s o f t = refl
    go true true o f t = same (o && f && t)
      where
        same : (x : Bool) → x ≡ (x && true)
        same true = refl
        same false = refl
    go true false o f t = sym (and_no (o && f && t) false refl)

-- ---- an entry that fits covers t

reaches_covers : (t : ℕ) (e : Entry) → e.start ≤ e.end → e.end ≤ 18446744073709551615 → reaches t e ≡ covers t e
unfolding reaches covers
reaches_covers t e order last = ap (leb (since e.start t)) (since_from e.start e.end order) ∙ go (leb e.start t) refl
  where
    go : (b : Bool) → leb e.start t ≡ b → leb (since e.start t) (e.end - e.start) ≡ (b && leb t e.end)
    go true g =
        let h = leb-true e.start t g in
        ap (λ (x : ℕ). leb x (e.end - e.start)) (since_from e.start t h) ∙ both (leb t e.end) refl
      where
        both : (c : Bool) → leb t e.end ≡ c → leb (t - e.start) (e.end - e.start) ≡ c
        both true k = let l = leb-true t e.end k in le-leb (t - e.start) (e.end - e.start) (omega arith)
        both false k = let l = leb-false t e.end k in let m = leb-true e.start t g in lt-leb (t - e.start) (e.end - e.start) (omega arith)
    go false g =
        let h = leb-false e.start t g in
        let k = since_before e.start t h in
        lt-leb (since e.start t) (e.end - e.start) (omega arith)

spans_covers : (a start end t now : ℕ) (e : Entry) → Fits a start end e → e.end ≤ 18446744073709551615 → now ≡ since start t → spans start now e ≡ covers t e
unfolding spans covers
spans_covers a start end t now e f last is =
    ap (λ (x : ℕ). leb x now && leb now (since start e.end)) (since_from start e.start f.from)
    ∙ ap (λ (x : ℕ). leb (e.start - start) now && leb now x) (since_from start e.end (omega (arith, f.from, f.order)))
    ∙ go (leb start t) refl
  where
    both : (b : Bool) (x y x' y' : ℕ) → leb x y ≡ b → (x ≤ y → x' ≤ y') → (y < x → y' < x') → leb x y ≡ leb x' y'
    both true x y x' y' g u v = g ∙ sym (le-leb x' y' (u (leb-true x y g)))
    both false x y x' y' g u v = g ∙ sym (lt-leb x' y' (v (leb-false x y g)))

    go : (b : Bool) → leb start t ≡ b → (leb (e.start - start) now && leb now (e.end - start)) ≡ (leb e.start t && leb t e.end)
    go true g =
        let h = leb-true _ _ g in
        let k : now ≡ t - start = is ∙ since_from start t h in
        ap (λ (x : Bool). x && leb now (e.end - start)) (both (leb (e.start - start) now) (e.start - start) now e.start t refl (λ u. omega (arith, f.from)) (λ u. omega (arith, f.from)))
        ∙ ap (λ (x : Bool). leb e.start t && x) (both (leb now (e.end - start)) now (e.end - start) t e.end refl (λ u. omega (arith, f.from, f.order)) (λ u. omega (arith, f.from, f.order)))
    go false g =
        let h = leb-false _ _ g in
        let k : now ≡ t + 18446744073709551616 - start = is ∙ since_before start t h in
        and_no (leb (e.start - start) now) _ (lt-leb now (e.end - start) (omega (arith, f.from, f.order)))
        ∙ sym (ap (λ (x : Bool). x && leb t e.end) (lt-leb e.start t (omega (arith, f.from))))

module _ (a start end : ℕ) (e : Entry) (f : Bool) (gives : f ≡ entry_fits a start end e) (y : not f ≡ false) where
  fitting : Fits a start end e
  fitting = fits_facts a start end e (sym gives ∙ not-false f y)

  pub known_quark : e.quark.0 < a
  known_quark = fitting.known

  pub covers_told : (t : ℕ) (b : Bool) → e.end ≤ 18446744073709551615 → b ≡ reaches t e → b ≡ covers t e
  covers_told t b last r = r ∙ reaches_covers t e fitting.order last

  pub spans_told : (t now : ℕ) → e.end ≤ 18446744073709551615 → now ≡ since start t → (b : Bool) → b ≡ spans start now e → b ≡ covers t e
  spans_told t now last is b r = r ∙ spans_covers a start end t now e fitting last is
