use Rattle.std.proofs.Common.{◌≡◌, ◌*◌, ◌%◌, ◌^◌}
use Rattle.modular.proofs.number.Modular.pow.Given as goal

abbrev pub invariant-loop-bits : goal.invariant-loop-bits
invariant-loop-bits g l = (l.product.value * l.square.value ^ l.bits) % g.row.P ≡ l.fn.self.value ^ l.exponent % g.row.P

abbrev pub decreases-loop-bits : goal.decreases-loop-bits
decreases-loop-bits g l = l.bits
