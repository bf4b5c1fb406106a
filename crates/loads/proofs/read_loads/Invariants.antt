-- The loads so far and the lines that are left give the reading.
use Rattle.std.proofs.Common.{length, vec_items}
use Rattle.loads.proofs.Readings.{Sofar}
use Rattle.loads.proofs.read_loads.Given as goal

abbrev pub invariant-loop-before : goal.invariant-loop-before
invariant-loop-before l = Sofar l.text (vec_items l.loads) (length l.yielded)
