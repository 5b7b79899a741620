-- A state, and all functions by cases on one. "Values are null (kind 0) and signed 64-bit integers (kind 1)."
use Rattle.std.specs.Prelude.{ℕ, ◌-◌, ◌^◌, ◌<◌, Bool, true, false, eqb, ℤ, pos, negsuc}
use Rattle.std.proofs.Math.IntN.{suc_ℤ}

-- `pos n` is n, `negsuc n` is -(n + 1).
pub data State : Type 0 where
  null : State
  int : ℤ → State

-- "null (kind 0)", "integers (kind 1)"
abbrev pub kind_of : State → ℕ
kind_of null = 0
kind_of (int z) = 1

-- "value i64 (0 for null)"
abbrev pub value_of : State → ℤ
value_of null = pos 0
value_of (int z) = z

abbrev pub sameℤ : ℤ → ℤ → Bool
sameℤ (pos m) (pos n) = eqb m n
sameℤ (pos m) (negsuc n) = false
sameℤ (negsuc m) (pos n) = false
sameℤ (negsuc m) (negsuc n) = eqb m n

-- "If kind and value equal the ongoing ones": null is not the integer 0.
abbrev pub same : State → State → Bool
same null null = true
same null (int b) = false
same (int a) null = false
same (int a) (int b) = sameℤ a b

-- "increment (adds 1, null counts as 0)"
abbrev pub incremented : State → State
incremented null = int (pos 1)
incremented (int z) = int (suc_ℤ z)

-- the largest integer of 64 bits, 2^63-1, whose increment is refused
abbrev pub is_top : State → Bool
is_top null = false
is_top (int (pos n)) = eqb n (2 ^ 63 - 1)
is_top (int (negsuc n)) = false

-- within an i64: from -2^63, which is `negsuc (2 ^ 63 - 1)`, to 2^63-1
abbrev pub Within64 : State → Type 0
Within64 null = Unit {0}
Within64 (int (pos n)) = n < 2 ^ 63
Within64 (int (negsuc n)) = n < 2 ^ 63
