use Rattle.std.proofs.Common.{◌≡◌, ◌-◌, ◌≤◌, ◌++◌, length, take}
use Rattle.algebra.specs.Varint.{varint_in}
use Rattle.algebra.proofs.Varints.{most}
use Rattle.algebra.proofs.varint.encode.Given as goal

abbrev pub invariant-loop-rest : goal.invariant-loop-rest
invariant-loop-rest l = (l.len ≤ 9) × (l.rest ≤ most l.len) × (take l.len l.bytes ++ varint_in (9 - l.len) l.rest ≡ varint_in 9 l.n) × (length l.bytes ≡ 10)

abbrev pub decreases-loop-rest : goal.decreases-loop-rest
decreases-loop-rest l = l.rest
