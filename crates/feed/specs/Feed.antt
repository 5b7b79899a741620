-- The feed. Document 01, "The feed and the program".
use Rattle.std.specs.Prelude.{ℕ, ◌+◌, ◌^◌, ◌<◌, ◌≤◌, ◌≡◌, Bool, true, false, cond, not, ◌&&◌, ◌||◌, List, [], ◌++◌, length, ltb, leb, eqb, Option, Some, None, Result, Ok, Err, MatchOption, MatchResult}
use Rattle.std.specs.Int.{w64}
use Rattle.std.proofs.Common.{to_z, of_z, SFits}
use Rattle.words.specs.Words.{le, num}
use Rattle.layout.specs.declared.Quark.{Quark}
use Rattle.record.specs.declared.Refusal.{Refusal}
use Rattle.record.specs.declared.Refusal.TheVariants.{NoTag, WrongLength, Cut, LongFeed}
use Rattle.feed.specs.declared.Record.{Record}
use Rattle.feed.specs.declared.Record.TheVariants.{Open, Set, Remove, Increment, Add, Finish, Single, Full}
use Rattle.feed.specs.declared.Reading.{Reading}
use Rattle.feed.specs.declared.Head.{Head}
use Rattle.feed.specs.declared.Tag.{Tag}
use Rattle.feed.specs.declared.Tag.TheVariants as T

-- ═══ The parts of a record ═══

-- "16: feed longer than 65,536 bytes"
abbrev pub longest : ℕ
longest = 65536

-- "12: unknown tag": the tags are 1 to 8
unfoldable pub tag_known : ℕ → Bool
tag_known tag = leb 1 tag && leb tag 8

-- "13: wrong length for the tag": 20 bytes for open and set, 12 for a time and a quark, 8 for a time, none for add
unfoldable pub length_allowed : ℕ → ℕ → Bool
length_allowed tag n =
    ((eqb tag 1 || eqb tag 2) && eqb n 20)
    || ((eqb tag 3 || eqb tag 4 || eqb tag 7) && eqb n 12)
    || (eqb tag 5 && eqb n 0)
    || ((eqb tag 6 || eqb tag 8) && eqb n 8)

-- "tag u8, payload length u16, payload", from index p on
abbrev pub tag_at : List ℕ → ℕ → ℕ
tag_at l p = num l p 1

abbrev pub size_at : List ℕ → ℕ → ℕ
size_at l p = num l (p + 1) 2

-- ═══ A payload, from index p on ═══

abbrev pub quark_at : List ℕ → ℕ → Quark
quark_at l p = record { 0 = num l p 4 }

-- "1 open: start u64, attributes u32, K u16, C u16, N u32."
unfoldable pub open_at : List ℕ → ℕ → Record
open_at l p = Open (num l p 8) (num l (p + 8) 4) (num l (p + 12) 2) (num l (p + 14) 2) (num l (p + 16) 4)

-- "2 set: t u64, quark u32, value i64."
unfoldable pub set_at : List ℕ → ℕ → Record
set_at l p = Set (num l p 8) (quark_at l (p + 8)) (to_z w64 (num l (p + 12) 8))

-- "3 remove and 4 increment: t, quark. 5 add: empty. 6 finish: t. 7 single: t, quark. 8 full: t."
unfoldable pub payload_at : List ℕ → ℕ → ℕ → Record
payload_at l tag p =
    cond (eqb tag 1) (open_at l p)
    (cond (eqb tag 2) (set_at l p)
    (cond (eqb tag 3) (Remove (num l p 8) (quark_at l (p + 8)))
    (cond (eqb tag 4) (Increment (num l p 8) (quark_at l (p + 8)))
    (cond (eqb tag 5) Add
    (cond (eqb tag 6) (Finish (num l p 8))
    (cond (eqb tag 7) (Single (num l p 8) (quark_at l (p + 8)))
    (Full (num l p 8))))))))

-- a payload of the tag stands in l from index p on, whole
pub record Payload (l : List ℕ) (tag p : ℕ) : Type 0 where
  pub n : ℕ
  pub allowed : length_allowed tag n ≡ true
  pub inside : p + n ≤ length l

-- ═══ What stands at a place ═══

-- "A record with an unknown tag is answered 12 and passed over; 13 likewise": the payload of n bytes stands from index p on
unfoldable pub whole_at : List ℕ → ℕ → ℕ → ℕ → Result Record Refusal
whole_at l tag p n =
    cond (not (tag_known tag)) (Err NoTag)
    (cond (not (length_allowed tag n)) (Err WrongLength)
    (Ok (payload_at l tag p)))

-- a record or what refuses it, with the next place
abbrev pub reading : Result Record Refusal → ℕ → Option Reading
reading what next = Some (record { what = what; next = next })

-- "The order is 16, 14, 12, 13, 15; a place at or past the feed's end has no record left"; "14 ends the feed". 15 is no matter of the feed's.
unfoldable pub reading_at : List ℕ → ℕ → Option Reading
reading_at l p =
    cond (leb (length l) p) None
    (cond (ltb longest (length l)) (reading (Err LongFeed) (length l))
    (cond (ltb (length l) (p + 3 + size_at l p)) (reading (Err Cut) (length l))
    (reading (whole_at l (tag_at l p) (p + 3) (size_at l p)) (p + 3 + size_at l p))))

-- the test for 14 by itself: bytes past the feed's end count as zeros, so that fewer than three left are too few too
unfoldable pub head_at : List ℕ → ℕ → Option Head
head_at l p = cond (ltb (length l) (p + 3 + size_at l p)) None (Some (record { tag = tag_at l p; n = size_at l p }))

-- one step of a reader of l at place p: r comes, and it is then a reader of k at place q
abbrev pub GoesOn : List ℕ → ℕ → Option (Result Record Refusal) → List ℕ → ℕ → Type 0
GoesOn l p r k q = (k ≡ l) × MatchOption r ((reading_at l p ≡ None) × (q ≡ p)) (λ what. reading_at l p ≡ reading what q)

-- ═══ A tag that is known ═══

abbrev pub tag_number : Tag → ℕ
tag_number T.Open = 1
tag_number T.Set = 2
tag_number T.Remove = 3
tag_number T.Increment = 4
tag_number T.Add = 5
tag_number T.Finish = 6
tag_number T.Single = 7
tag_number T.Full = 8

-- the tag with this number, or 12 where it is not known
abbrev pub Decodes : ℕ → Result Tag Refusal → Type 0
Decodes byte r = MatchResult r (λ tag. tag_number tag ≡ byte) (λ e. (e ≡ NoTag) × (tag_known byte ≡ false))

-- ═══ A record as bytes ═══

unfoldable pub tag_of : Record → ℕ
tag_of (Open start attributes k c n) = 1
tag_of (Set t q v) = 2
tag_of (Remove t q) = 3
tag_of (Increment t q) = 4
tag_of Add = 5
tag_of (Finish t) = 6
tag_of (Single t q) = 7
tag_of (Full t) = 8

unfoldable pub payload_bytes : Record → List ℕ
payload_bytes (Open start attributes k c n) = le 8 start ++ (le 4 attributes ++ (le 2 k ++ (le 2 c ++ le 4 n)))
payload_bytes (Set t q v) = le 8 t ++ (le 4 q.0 ++ le 8 (of_z w64 v))
payload_bytes (Remove t q) = le 8 t ++ le 4 q.0
payload_bytes (Increment t q) = le 8 t ++ le 4 q.0
payload_bytes Add = []
payload_bytes (Finish t) = le 8 t
payload_bytes (Single t q) = le 8 t ++ le 4 q.0
payload_bytes (Full t) = le 8 t

-- "Records, little-endian: tag u8, payload length u16, payload."
unfoldable pub record_bytes : Record → List ℕ
record_bytes r = le 1 (tag_of r) ++ (le 2 (length (payload_bytes r)) ++ payload_bytes r)

-- a record whose numbers fit their fields, and so is read back as it was written
unfoldable pub RecordFits : Record → Type 0
RecordFits (Open start attributes k c n) = (start < 2 ^ 64) × (attributes < 2 ^ 32) × (k < 2 ^ 16) × (c < 2 ^ 16) × (n < 2 ^ 32)
RecordFits (Set t q v) = (t < 2 ^ 64) × (q.0 < 2 ^ 32) × SFits w64 v
RecordFits (Remove t q) = (t < 2 ^ 64) × (q.0 < 2 ^ 32)
RecordFits (Increment t q) = (t < 2 ^ 64) × (q.0 < 2 ^ 32)
RecordFits Add = Unit {0}
RecordFits (Finish t) = t < 2 ^ 64
RecordFits (Single t q) = (t < 2 ^ 64) × (q.0 < 2 ^ 32)
RecordFits (Full t) = t < 2 ^ 64
