use Rattle.std.proofs.Common.{◌<◌}
use Rattle.algebra.proofs.Varints.{Scanned}
use Rattle.algebra.proofs.varint.front.Given as goal

abbrev pub invariant-loop-i : goal.invariant-loop-i
invariant-loop-i l = Scanned l.bytes l.i l.n l.scale × (l.i < 5)
