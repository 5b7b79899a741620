-- The question put to a new root.
use Prim.Native.Nat.{ℕ, suc}
use mathlib.Core.Bool.{cond}
use mathlib.Core.Path.{◌≡◌}
use mathlib.Core.List.{[]}
use native.Mathlib.Omega.{arith}
use lib.Dec.{ltb}
use borrow.Author.Tests.{le-leb}
use Rattle.model.specs.Build.{Open, Shape, new_root, grow, keep, due, verdict}
use Rattle.model.specs.Invariant.{Shaped}

-- it has one child, fewer than C, and no interval, fewer than K
pub new_root_asked : (sh : Shape) → Shaped sh → (o S q s : ℕ) (f : Open) → verdict sh [] (new_root o S q f) s ≡ cond (due [] (new_root o S q f) s) grow keep
new_root_asked sh d o S q s f = rw (le-leb 2 sh.C d.children, le-leb 1 sh.K d.intervals)

-- a child is due below it when the interval starts after S
pub new_root_due : (o S q s : ℕ) (f : Open) → due [] (new_root o S q f) s ≡ ltb S s
new_root_due o S q s f = rw (le-leb 1 (suc f.head.level) (omega arith))
