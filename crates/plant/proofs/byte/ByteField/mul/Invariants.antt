use Rattle.std.proofs.Common.{◌≡◌, ◌-◌, ◌<◌}
use Rattle.std.specs.Int.Bits.{bit_xor}
use Rattle.plant.specs.ByteLaws.{quick}
use Rattle.plant.proofs.byte.ByteField.mul.Given as goal

abbrev pub invariant-loop : goal.invariant-loop
invariant-loop l = (bit_xor l.sum (quick (8 - l.counter) l.left l.shifted) ≡ quick 8 l.initial.left l.initial.shifted) × (l.shifted < 256)
