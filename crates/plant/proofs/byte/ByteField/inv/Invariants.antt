use Rattle.std.proofs.Common.{◌≡◌, ◌-◌}
use Rattle.plant.specs.ByteField.{times, squares, inverse}
use Rattle.plant.proofs.byte.ByteField.inv.Given as goal

abbrev pub invariant-loop : goal.invariant-loop
invariant-loop l = times l.inverse (squares (7 - l.counter) l.square) ≡ inverse l.initial.square
