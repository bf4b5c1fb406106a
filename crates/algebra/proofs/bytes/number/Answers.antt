use Rattle.std.proofs.Common.{ℕ, ◌^◌, ◌<◌, ◌≤◌, arith, lit<}
use Rattle.std.proofs.Math.Nat.{pow-le-pow_right}
use Rattle.algebra.proofs.bytes.number.Goals as goal

-- what was read so far is small
small : (n i : ℕ) → i ≤ 6 → n < 256 ^ i → n < 281474976710656
small n i h k = let most : 256 ^ i ≤ 281474976710656 = pow-le-pow_right (lit< tt) h in omega arith

pub overflow_mul-n : goal.overflow_mul-n
overflow_mul-n c = let s = small c.loop-byte.n c.loop-byte.byte-index (omega arith) c.loop-byte.invariant.fits in omega arith
