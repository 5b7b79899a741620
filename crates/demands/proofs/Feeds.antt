-- A feed's records are the run's calls. Assumes nothing.
use Prim.Native.Nat.{ℕ, zero, suc, ◌+◌, ◌-◌, ◌^◌, ◌≤◌}
use mathlib.Core.Bool.{Bool, true, false, cond, not}
use mathlib.Core.Path.{◌≡◌, refl, sym, ap, ◌∙◌}
use mathlib.Core.List.{List, [], ◌∷◌, ◌++◌, map, append_assoc, append-nil}
use native.Mathlib.Omega.{arith}
use lib.Dec.{ltb, leb, eqb}
use lib.IntN.{pos, negsuc}
use lib.ListN.{length, length-append}
use borrow.Author.Tests.{ltb-true, ltb-false, le-leb}
use mir.Syntax.{w64}
use mir.Val.{to_z, sel}
use Rattle.std.specs.Prelude.{Option, Some, None, Result, Ok, Err}
use Rattle.words.specs.Words.{num}
use Rattle.words.proofs.Numbers.{length_le}
use Rattle.record.specs.declared.Refusal.{Refusal}
use Rattle.record.specs.declared.Refusal.TheVariants.{NoTag, WrongLength, Cut, LongFeed}
use Rattle.feed.specs.declared.Record.{Record}
use Rattle.feed.specs.declared.Record.TheVariants.{Remove, Increment, Add, Finish, Single, Full}
use Rattle.feed.specs.declared.Reading.{Reading}
use Rattle.feed.specs.Feed.{longest, tag_known, length_allowed, tag_at, size_at, quark_at, open_at, set_at, payload_at, whole_at, reading, reading_at, tag_of, record_bytes}
use Rattle.feed.proofs.Written.{read_back}
use Rattle.model.specs.State.{int, Within64}
use Rattle.demands.specs.Sequences.{Fits, AllFit}
use Rattle.demands.specs.Feeds.{call_of, before, go_on, records_from, calls_of, feed_of, AllRecordsFit, FeedRead, FeedFits}

-- ---- written records are read back

past_end : (l : List ℕ) (p : ℕ) → length l ≤ p → reading_at l p ≡ None
unfolding reading_at
past_end l p e = rw (le-leb (length l) p e)

record_long : (r : Record) → 1 ≤ length (record_bytes r)
unfolding record_bytes
record_long r = simp length-append (omega (arith, length_le 1 (tag_of r)))

records_long : (rs : List Record) → length rs ≤ length (feed_of rs)
records_long [] = omega arith
records_long (r ∷ rs) = simp length-append (omega (arith, record_long r, records_long rs))

records_back : (n : ℕ) (xs : List ℕ) (rs : List Record) → length rs ≤ n → AllRecordsFit rs → length (xs ++ feed_of rs) ≤ longest
    → records_from n (xs ++ feed_of rs) (length xs) ≡ rs
unfolding records_from
records_back zero xs [] few fit short = refl
records_back zero xs (r ∷ rs) few fit short = absurd (omega arith)
records_back (suc n) xs [] few fit short =
    let e : length (xs ++ []) ≡ length xs = ap (λ (z : List ℕ). length z) (append-nil xs) in
    ap (λ (x : Option Reading). go_on x (records_from n (xs ++ []))) (past_end (xs ++ []) (length xs) (omega arith))
records_back (suc n) xs (r ∷ rs) few fit short =
    let l = xs ++ (record_bytes r ++ feed_of rs) in
    let ys = xs ++ record_bytes r in
    let same : l ≡ ys ++ feed_of rs = sym (append_assoc xs (record_bytes r) (feed_of rs)) in
    let later = records_back n ys rs (omega arith) fit.1 (omega (arith, ap (λ (z : List ℕ). length z) same)) in
    ap (λ (x : Option Reading). go_on x (records_from n l)) (read_back xs r (feed_of rs) fit.0 short)
    ∙ ap (λ (z : List Record). r ∷ z) (ap (records_from n l) (sym (length-append xs (record_bytes r))) ∙ (ap (λ (z : List ℕ). records_from n z (length ys)) same ∙ later))

pub feed_read : FeedRead
unfolding calls_of
feed_read rs fit short = ap (map call_of) (records_back (length (feed_of rs)) [] rs (records_long rs) fit short)

-- ---- what a feed sets is an i64

read_within : (n : ℕ) → Within64 (int (to_z w64 n))
read_within n = go (ltb n (2 ^ 63)) refl
  where
    go : (b : Bool) → ltb n (2 ^ 63) ≡ b → Within64 (int (sel b (pos n) (negsuc (2 ^ 64 - suc n))))
    go true e = ltb-true n (2 ^ 63) e
    go false e = let k = ltb-false n (2 ^ 63) e in omega arith

payload_fits : (l : List ℕ) (tag p : ℕ) → Fits (call_of (payload_at l tag p))
unfolding payload_at open_at set_at
payload_fits l tag p = go (eqb tag 1) (eqb tag 2) (eqb tag 3) (eqb tag 4) (eqb tag 5) (eqb tag 6) (eqb tag 7)
  where
    go : (a b c d e f g : Bool) → Fits (call_of (cond a (open_at l p) (cond b (set_at l p) (cond c (Remove (num l p 8) (quark_at l (p + 8))) (cond d (Increment (num l p 8) (quark_at l (p + 8)))
        (cond e Add (cond f (Finish (num l p 8)) (cond g (Single (num l p 8) (quark_at l (p + 8))) (Full (num l p 8))))))))))
    go true b c d e f g = tt
    go false true c d e f g = read_within (num l (p + 12) 8)
    go false false true d e f g = tt
    go false false false true e f g = tt
    go false false false false true f g = tt
    go false false false false false true g = tt
    go false false false false false false true = tt
    go false false false false false false false = tt

-- a reading of a record whose call fits
abbrev Taken : Result Record Refusal → Type 0
Taken (Ok r) = Fits (call_of r)
Taken (Err n) = Unit {0}

abbrev Reads : Option Reading → Type 0
Reads None = Unit {0}
Reads (Some x) = Taken x.what

reading_fits : (l : List ℕ) (p : ℕ) → Reads (reading_at l p)
unfolding reading_at whole_at
reading_fits l p = go (leb (length l) p) (ltb longest (length l)) (ltb (length l) (p + 3 + size_at l p)) (not (tag_known (tag_at l p))) (not (length_allowed (tag_at l p) (size_at l p)))
  where
    go : (a b c d e : Bool) → Reads (cond a None (cond b (reading (Err LongFeed) (length l)) (cond c (reading (Err Cut) (length l))
        (reading (cond d (Err NoTag) (cond e (Err WrongLength) (Ok (payload_at l (tag_at l p) (p + 3))))) (p + 3 + size_at l p)))))
    go true b c d e = tt
    go false true c d e = tt
    go false false true d e = tt
    go false false false true e = tt
    go false false false false true = tt
    go false false false false false = payload_fits l (tag_at l p) (p + 3)

before_fits : (x : Result Record Refusal) (rs : List Record) → Taken x → AllFit (map call_of rs) → AllFit (map call_of (before x rs))
before_fits (Ok r) rs a f = (a, f)
before_fits (Err n) rs a f = f

next_fits : (x : Option Reading) (rest : ℕ → List Record) → Reads x → ((p : ℕ) → AllFit (map call_of (rest p))) → AllFit (map call_of (go_on x rest))
next_fits None rest a f = tt
next_fits (Some x) rest a f = before_fits x.what (rest x.next) a (f x.next)

records_fit : (n : ℕ) (l : List ℕ) (p : ℕ) → AllFit (map call_of (records_from n l p))
unfolding records_from
records_fit zero l p = tt
records_fit (suc n) l p = next_fits (reading_at l p) (records_from n l) (reading_fits l p) (records_fit n l)

pub feed_fits : FeedFits
unfolding calls_of
feed_fits l = records_fit (length l) l 0
