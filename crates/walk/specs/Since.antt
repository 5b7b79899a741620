-- How the questions go about an entry: times counted from a start on. The promise does not speak of it: laws tie it to R6 and to what covers t.
use Rattle.std.specs.Prelude.{ℕ, ◌+◌, ◌-◌, Bool, cond, ◌&&◌, nat_le, nat_lt}
use Rattle.layout.specs.declared.Entry.{Entry}

-- around 2^64: a time before the start comes out behind every time from it on
unfoldable pub since : ℕ → ℕ → ℕ
since start x = cond (nat_le start x) (x - start) (x + 18446744073709551616 - start)

-- R6 of an entry but for its kind and value, in a node with these bounds
unfoldable pub entry_fits : ℕ → ℕ → ℕ → Entry → Bool
entry_fits attributes start end e = nat_lt e.quark.0 attributes && nat_le e.start e.end && nat_le start e.start && nat_le e.end end

-- t counted from the entry's own start on is no further than its end: what is before the start comes out behind it
unfoldable pub reaches : ℕ → Entry → Bool
reaches t e = nat_le (since e.start t) (since e.start e.end)

-- an entry's times, counted from `start` on, lie on either side of `now`
unfoldable pub spans : ℕ → ℕ → Entry → Bool
spans start now e = nat_le (since start e.start) now && nat_le now (since start e.end)
