use Rattle.algebra.proofs.InOrder.{Wrote}
use Rattle.algebra.proofs.run.write_run.Given as goal

abbrev pub invariant-loop-j : goal.invariant-loop-j
invariant-loop-j g l = Wrote g.G.Space.codec g.G.Space.means l.order l.area l.initial.out l.j l.end l.out
