-- The bound of the number that digits write.
use Rattle.std.proofs.Common.{ℕ, ◌+◌, ◌*◌, ◌^◌, ◌<◌, ◌≤◌, pow-suc, add-one, arith}
use native.Mathlib.Nat.{pow-le-pow_right}

-- one digit more keeps a number of fewer than 14 digits under 10 ^ 14
pub ten_fits : (v i d : ℕ) → v < 10 ^ i → i < 14 → d ≤ 9 → v * 10 + d < 10 ^ 14
ten_fits v i d h l e = let k : i ≤ 13 = omega arith in let m : 10 ^ i ≤ 10 ^ 13 = pow-le-pow_right (omega arith) k in omega arith

pub ten_more : (v i d : ℕ) → v < 10 ^ i → d ≤ 9 → v * 10 + d < 10 ^ (i + 1)
ten_more v i d h e = rw (add-one, pow-suc) (omega arith)
