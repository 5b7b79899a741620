-- A node lies within what all nodes take: the only facts of the record about products. Assumes nothing.
use Prim.Native.Nat.{ℕ, suc, ◌+◌, ◌*◌, ◌≤◌, ◌<◌}
use mathlib.Core.Path.{◌≡◌}
use native.Mathlib.Nat.{mul-le-mul_right, mul-le-mul, suc-mul}
use native.Mathlib.Omega.{arith}

-- the node at a place below n ends where the n nodes end, or before
pub node_inside : (place n size : ℕ) → place < n → place * size + size ≤ n * size
node_inside place n size h =
    let e : suc place * size ≡ place * size + size = suc-mul place size in
    let p : suc place * size ≤ n * size = mul-le-mul_right size h in
    omega arith

-- so it lies in a buffer that holds the n nodes
pub node_in_buffer : (place n size long : ℕ) → place < n → n * size ≤ long → place * size + size ≤ long
node_in_buffer place n size long h g = omega (arith, node_inside place n size h)

-- what the nodes of an allowed shape take
pub nodes_room : (n size : ℕ) → n ≤ 65536 → size ≤ 65536 → n * size ≤ 4294967296
nodes_room n size h g = mul-le-mul h g
