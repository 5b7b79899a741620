-- Values stay within an i64: a set gives one, and an increment of 2^63-1 is refused.
use Prim.Native.Nat.{ℕ, zero, suc, ◌-◌, ◌^◌}
use mathlib.Core.Bool.{Bool, true, false, cond}
use mathlib.Core.Path.{◌≡◌, refl, sym, subst}
use mathlib.Core.List.{List, [], ◌∷◌, ◌++◌, Permᴰ}
use native.Mathlib.Omega.{arith}
use lib.Dec.{eqb}
use lib.IntN.{ℤ, pos, negsuc}
use mir.Syntax.{w64}
use mir.Val.{SFits}
use borrow.Author.Tests.{eqb-true, eqb-false}
use Rattle.model.specs.State.{State, null, int, incremented, is_top, Within64}
use Rattle.model.specs.Transient.{Interval, Change, set, remove, increment, becomes, Call, change, add, finish, Ongoing, History, unset, Effect, stays, replaced, ended, effect, after, to_store, last_intervals, stores, step, history}
use Rattle.model.specs.Build.{Shape}
use Rattle.model.specs.Refusals.{passes_top, refuse_stated, refuse, accepted}
use Rattle.model.specs.Theorems.{Change64, Calls64, All64}
use Rattle.model.proofs.Legal.{change_passed, accepted_stated_lem}

-- what the layout's i64 asks for
pub within_fits : (z : ℤ) → Within64 (int z) → SFits w64 z
within_fits (pos n) h = record { sfits = h }
within_fits (negsuc n) h = record { sfits = h }

within_more : (s : State) → is_top s ≡ false → Within64 s → Within64 (incremented s)
within_more null e h = omega arith
within_more (int (pos n)) e h = let d = eqb-false n (2 ^ 63 - 1) e in omega arith
within_more (int (negsuc zero)) e h = omega arith
within_more (int (negsuc (suc n))) e h = omega arith

within_becomes : (c : Change) (s : State) → Change64 c → passes_top c s ≡ false → Within64 s → Within64 (becomes c s)
within_becomes (set v) s a e h = a
within_becomes remove s a e h = tt
within_becomes increment s a e h = within_more s e h

-- what is known of a history
record Small (l : History) : Type 0 where
  table : (q : ℕ) → Within64 (l.table q).state
  stored : All64 l.stored

small_after : (e : Effect) (o : Ongoing) (v : State) (t : ℕ) → Within64 o.state → Within64 v → Within64 (after e o v t).state
small_after stays o v t a b = a
small_after replaced o v t a b = b
small_after ended o v t a b = b

small_store : (e : Effect) (q : ℕ) (o : Ongoing) (t : ℕ) (r : List Interval) → Within64 o.state → All64 r → All64 (to_store e q o t ++ r)
small_store stays q o t r a b = b
small_store replaced q o t r a b = b
small_store ended q o t r a b = (a, b)

small_last : (f : ℕ → Ongoing) (T n : ℕ) (r : List Interval) → ((q : ℕ) → Within64 (f q).state) → All64 r → All64 (last_intervals f T n ++ r)
small_last f T zero r a b = b
small_last f T (suc n) r a b = (a n, small_last f T n r a b)

-- a call that is answered 0
small_step : (M : ℕ) (c : Call) (l : History) → Calls64 (c ∷ []) → refuse_stated M l c ≡ 0 → Small l → Small (step c l)
unfolding step stores
small_step M (change t q c) l a e s =
    let o = l.table q in
    let v = becomes c o.state in
    let b = within_becomes c o.state a.0 (change_passed M l t q c e).4 (s.table q) in
    record {
      table = λ x. go x (eqb q x) (small_after (effect v o t) o v t (s.table q) b);
      stored = small_store (effect v o t) q o t l.stored (s.table q) s.stored;
    }
  where
    go : (x : ℕ) (b : Bool) → let o = l.table q in let v = becomes c o.state in Within64 (after (effect v o t) o v t).state
        → Within64 (cond b (after (effect v o t) o v t) (l.table x)).state
    go x true h = h
    go x false h = s.table x
small_step M add l a e s = record { table = λ x. go x (eqb l.attributes x); stored = s.stored }
  where
    go : (x : ℕ) (b : Bool) → Within64 (cond b (unset l.start) (l.table x)).state
    go x true = tt
    go x false = s.table x
small_step M (finish t) l a e s = record { table = s.table; stored = small_last l.table t l.attributes l.stored s.table s.stored }

calls_first : (c : Call) (cs : List Call) → Calls64 (c ∷ cs) → Calls64 (c ∷ []) × Calls64 cs
calls_first (change t q c) cs a = ((a.0, tt), a.1)
calls_first add cs a = (tt, a)
calls_first (finish t) cs a = (tt, a)

small : (sh : Shape) (N M s n : ℕ) (cs : List Call) → Calls64 cs → Small (history s n (accepted sh N M s n cs))
unfolding accepted history
small sh N M s n [] a = record { table = λ q. tt; stored = tt }
small sh N M s n (c ∷ cs) a = go (eqb (refuse sh N M (history s n (accepted sh N M s n cs)) c) 0) refl (small sh N M s n cs (calls_first c cs a).1)
  where
    go : (b : Bool) → eqb (refuse sh N M (history s n (accepted sh N M s n cs)) c) 0 ≡ b → Small (history s n (accepted sh N M s n cs))
        → Small (history s n (cond b (c ∷ accepted sh N M s n cs) (accepted sh N M s n cs)))
    go true e k = small_step M c (history s n (accepted sh N M s n cs)) (calls_first c cs a).0 (accepted_stated_lem sh N M _ c (eqb-true _ 0 e)) k
    go false e k = k

pub table_within : (sh : Shape) (N M s n : ℕ) (cs : List Call) → Calls64 cs → (q : ℕ) → Within64 ((history s n (accepted sh N M s n cs)).table q).state
table_within sh N M s n cs a = (small sh N M s n cs a).table

pub stored_within : (sh : Shape) (N M s n : ℕ) (cs : List Call) → Calls64 cs → All64 (history s n (accepted sh N M s n cs)).stored
stored_within sh N M s n cs a = (small sh N M s n cs a).stored

-- in any order
pub perm_within : {xs ys : List Interval} → Permᴰ xs ys → All64 ys → All64 xs
perm_within Permᴰ.nil k = k
perm_within (Permᴰ.cons e d) k = (subst (λ z. Within64 z.state) (sym e) k.0, perm_within d k.1)
perm_within (Permᴰ.swap e₁ e₂) k = (subst (λ z. Within64 z.state) (sym e₁) k.1.0, (subst (λ z. Within64 z.state) (sym e₂) k.0, k.1.1))
perm_within (Permᴰ.trans c d) k = perm_within c (perm_within d k)
