-- Feeds written out by hand, byte for byte, and what stands in them. Assumes nothing.
use Prim.Native.Nat.{ℕ}
use mathlib.Core.Path.{◌≡◌, refl}
use mathlib.Core.List.{List, [], ◌∷◌, ◌++◌}
use lib.IntN.{negsuc}
use Rattle.std.specs.Prelude.{None, Ok, Err}
use Rattle.words.specs.Words.{num}
use Rattle.record.specs.declared.Refusal.TheVariants.{NoTag, WrongLength, Cut}
use Rattle.feed.specs.declared.Record.TheVariants.{Open, Set, Remove, Add, Full}
use Rattle.feed.specs.Feed.{tag_known, length_allowed, open_at, set_at, payload_at, whole_at, reading, reading_at}

-- seven zero bytes: the upper bytes of a small u64
abbrev z : List ℕ
z = 0 ∷ 0 ∷ 0 ∷ 0 ∷ 0 ∷ 0 ∷ 0 ∷ []

-- open(7, 4, K 3, C 5, N 257), set(10, q2, -1), add, remove(300, q1), full(9)
abbrev feed : List ℕ
feed =
    (1 ∷ 20 ∷ 0 ∷ 7 ∷ z) ++ (4 ∷ 0 ∷ 0 ∷ 0 ∷ 3 ∷ 0 ∷ 5 ∷ 0 ∷ 1 ∷ 1 ∷ 0 ∷ 0 ∷ [])
    ++ ((2 ∷ 20 ∷ 0 ∷ 10 ∷ z) ++ (2 ∷ 0 ∷ 0 ∷ 0 ∷ 255 ∷ 255 ∷ 255 ∷ 255 ∷ 255 ∷ 255 ∷ 255 ∷ 255 ∷ [])
    ++ (5 ∷ 0 ∷ 0 ∷ (3 ∷ 12 ∷ 0 ∷ 44 ∷ 1 ∷ 0 ∷ 0 ∷ 0 ∷ 0 ∷ 0 ∷ 0 ∷ 1 ∷ 0 ∷ 0 ∷ 0 ∷ (8 ∷ 8 ∷ 0 ∷ 9 ∷ z))))

-- one record after the other, each at the place that the one before it gives, to the feed's end
pub five_records :
    (reading_at feed 0 ≡ reading (Ok (Open 7 4 3 5 257)) 23)
    × (reading_at feed 23 ≡ reading (Ok (Set 10 (record { 0 = 2 }) (negsuc 0))) 46)
    × (reading_at feed 46 ≡ reading (Ok Add) 49)
    × (reading_at feed 49 ≡ reading (Ok (Remove 300 (record { 0 = 1 }))) 64)
    × (reading_at feed 64 ≡ reading (Ok (Full 9)) 75)
    × (reading_at feed 75 ≡ None)
    × (reading_at feed 1000 ≡ None)
unfolding reading_at whole_at tag_known length_allowed payload_at open_at set_at num
five_records = (refl, refl, refl, refl, refl, refl, refl)

-- 14 before 12, 12 before 13, and where each goes on
pub refused_records :
    (reading_at [] 0 ≡ None)
    × (reading_at (9 ∷ []) 0 ≡ reading (Err Cut) 1)
    × (reading_at (9 ∷ 0 ∷ []) 0 ≡ reading (Err Cut) 2)
    × (reading_at (9 ∷ 2 ∷ 0 ∷ 7 ∷ []) 0 ≡ reading (Err Cut) 4)
    × (reading_at (9 ∷ 2 ∷ 0 ∷ 7 ∷ 7 ∷ []) 0 ≡ reading (Err NoTag) 5)
    × (reading_at (0 ∷ 0 ∷ 0 ∷ 5 ∷ []) 0 ≡ reading (Err NoTag) 3)
    × (reading_at (5 ∷ 1 ∷ 0 ∷ 7 ∷ 7 ∷ []) 0 ≡ reading (Err WrongLength) 4)
    × (reading_at (5 ∷ 0 ∷ 1 ∷ 7 ∷ []) 0 ≡ reading (Err Cut) 4)
unfolding reading_at whole_at tag_known length_allowed payload_at num
refused_records = (refl, refl, refl, refl, refl, refl, refl, refl)
