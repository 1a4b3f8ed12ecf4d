-- The elements of a table fit its slot.
use Rattle.std.proofs.Common.{ℕ, ◌*◌, ◌/◌, ◌≤◌, min, arith}
use Rattle.std.proofs.Math.Nat.{div-mul-le_self, mul-le-mul_right}

pub data_fits : (n t s : ℕ) → min n (t / s) * s ≤ t
data_fits n t s =
    let least : min n (t / s) * s ≤ t / s * s = mul-le-mul_right s (omega arith) in
    let below : t / s * s ≤ t = div-mul-le_self t s in
    omega arith
