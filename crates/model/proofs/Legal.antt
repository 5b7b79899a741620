-- Calls that a history could take, and that the accepted calls of any sequence are such.
use Prim.Native.Nat.{ℕ, ◌-◌, ◌^◌, ◌≤◌, ◌<◌}
use mathlib.Core.Bool.{Bool, true, false, cond}
use mathlib.Core.Path.{◌≡◌, refl}
use mathlib.Core.List.{List, [], ◌∷◌}
use native.Mathlib.Omega.{arith}
use lib.Dec.{leb, ltb, eqb}
use borrow.Author.Tests.{leb-true, leb-false, ltb-false, eqb-true}
use Rattle.model.specs.Transient.{Interval, Change, Call, change, add, finish, History, stores, history}
use Rattle.model.specs.Build.{Shape}
use Rattle.model.specs.Nodes.{tree_of}
use Rattle.model.specs.Refusals.{passes_top, limits, refuse, refuse_stated, accepted, asked, refuse_single, refuse_full}
use Rattle.model.proofs.Tests.{and_both, not_false, first_passed, sooner_passed}

-- What may be stored: an interval in order, not before the history's start o.
abbrev pub Sane : ℕ → Interval → Type 0
Sane o x = (o ≤ x.start) × (x.start ≤ x.end)

abbrev pub Sanes : ℕ → List Interval → Type 0
Sanes o [] = Unit {0}
Sanes o (x ∷ xs) = Sane o x × Sanes o xs

-- Calls, the latest first: times do not fall and are below 2^63, quarks are known, nothing follows a finish.
unfoldable pub Legal : ℕ → ℕ → List Call → Type 0
Legal s n [] = s < 2 ^ 63
Legal s n (change t q c ∷ cs) =
    ((history s n cs).finished ≡ false) × (q < (history s n cs).attributes) × ((history s n cs).latest ≤ t) × (t < 2 ^ 63) × Legal s n cs
Legal s n (add ∷ cs) = ((history s n cs).finished ≡ false) × Legal s n cs
Legal s n (finish t ∷ cs) = ((history s n cs).finished ≡ false) × ((history s n cs).latest ≤ t) × (t < 2 ^ 63) × Legal s n cs

pub legal_before : (s n : ℕ) (c : Call) (cs : List Call) → Legal s n (c ∷ cs) → ((history s n cs).finished ≡ false) × Legal s n cs
unfolding Legal
legal_before s n (change t q c) cs k = (k.0, k.4)
legal_before s n add cs k = (k.0, k.1)
legal_before s n (finish t) cs k = (k.0, k.3)

early : (t : ℕ) → ltb (2 ^ 63 - 1) t ≡ false → t < 2 ^ 63
early t e = omega (arith, ltb-false (2 ^ 63 - 1) t e)

-- what it tells that the calls alone refuse nothing
pub change_passed : (M : ℕ) (l : History) (t q : ℕ) (c : Change) → refuse_stated M l (change t q c) ≡ 0
    → (l.finished ≡ false) × (q < l.attributes) × (t < 2 ^ 63) × (l.latest ≤ t) × (passes_top c (l.table q).state ≡ false)
unfolding refuse_stated
change_passed M l t q c e =
    let a = first_passed _ _ _ e in
    let b = first_passed _ _ _ a.1 in
    let d = first_passed _ _ _ b.1 in
    let f = first_passed _ _ _ d.1 in
    let g = first_passed _ _ _ f.1 in
    (a.0, leb-false l.attributes q b.0, early t d.0, ltb-false t l.latest f.0, g.0)

pub add_passed : (M : ℕ) (l : History) → refuse_stated M l add ≡ 0 → l.finished ≡ false
unfolding refuse_stated
add_passed M l e = (first_passed _ _ _ e).0

pub finish_passed : (M : ℕ) (l : History) (t : ℕ) → refuse_stated M l (finish t) ≡ 0 → (l.finished ≡ false) × (t < 2 ^ 63) × (l.latest ≤ t)
unfolding refuse_stated
finish_passed M l t e =
    let a = first_passed _ _ _ e in
    let d = first_passed _ _ _ a.1 in
    let f = first_passed _ _ _ d.1 in
    (a.0, early t d.0, ltb-false t l.latest f.0)

pub accepted_stated_lem : (sh : Shape) (N M : ℕ) (l : History) (c : Call) → refuse sh N M l c ≡ 0 → refuse_stated M l c ≡ 0
unfolding refuse
accepted_stated_lem sh N M l c e = (sooner_passed _ _ e).0

pub accepted_fitting : (sh : Shape) (N M : ℕ) (l : History) (c : Call) → refuse sh N M l c ≡ 0 → limits sh N (stores c l) (tree_of sh l) ≡ 0
unfolding refuse
accepted_fitting sh N M l c e = (sooner_passed (refuse_stated M l c) (limits sh N (stores c l) (tree_of sh l)) e).1

-- a call that is answered 0 is one more that the history could take
stated_more : (M s n : ℕ) (c : Call) (cs : List Call) → refuse_stated M (history s n cs) c ≡ 0 → Legal s n cs → Legal s n (c ∷ cs)
unfolding Legal
stated_more M s n (change t q c) cs e k = let p = change_passed M (history s n cs) t q c e in (p.0, p.1, p.3, p.2, k)
stated_more M s n add cs e k = (add_passed M (history s n cs) e, k)
stated_more M s n (finish t) cs e k = let p = finish_passed M (history s n cs) t e in (p.0, p.2, p.1, k)

pub legal_more : (sh : Shape) (N M s n : ℕ) (c : Call) (cs : List Call) → refuse sh N M (history s n cs) c ≡ 0 → Legal s n cs → Legal s n (c ∷ cs)
legal_more sh N M s n c cs e k = stated_more M s n c cs (accepted_stated_lem sh N M (history s n cs) c e) k

pub legal_accepted : (sh : Shape) (N M s n : ℕ) (cs : List Call) → s < 2 ^ 63 → Legal s n (accepted sh N M s n cs)
unfolding accepted Legal
legal_accepted sh N M s n [] h = h
legal_accepted sh N M s n (c ∷ cs) h = go (eqb (refuse sh N M (history s n (accepted sh N M s n cs)) c) 0) refl (legal_accepted sh N M s n cs h)
  where
    go : (b : Bool) → eqb (refuse sh N M (history s n (accepted sh N M s n cs)) c) 0 ≡ b → Legal s n (accepted sh N M s n cs)
        → Legal s n (cond b (c ∷ accepted sh N M s n cs) (accepted sh N M s n cs))
    go true e k = legal_more sh N M s n c (accepted sh N M s n cs) (eqb-true _ 0 e) k
    go false e k = k

-- an accepted question is about a known attribute and a time from the start to the latest
pub asked_full : (l : History) (t : ℕ) → refuse_full l t ≡ 0 → (l.start ≤ t) × (t ≤ l.latest)
asked_full l t e =
    let d = and_both (leb l.start t) (leb t l.latest) (not_false (asked l t) (first_passed _ _ _ e).0) in
    (leb-true l.start t d.0, leb-true t l.latest d.1)

pub asked_single : (l : History) (q t : ℕ) → refuse_single l q t ≡ 0 → (q < l.attributes) × (l.start ≤ t) × (t ≤ l.latest)
asked_single l q t e =
    let a = first_passed (leb l.attributes q) 6 (refuse_full l t) e in
    let d = asked_full l t a.1 in
    (leb-false l.attributes q a.0, d.0, d.1)
