use Rattle.algebra.proofs.Running.{Going}
use Rattle.algebra.proofs.run.read_run.Given as goal

abbrev pub invariant-loop-j : goal.invariant-loop-j
invariant-loop-j g l = Going g.G.Space.codec g.G.Space.means l.order l.count l.initial.input l.initial.area l.j l.input l.area
