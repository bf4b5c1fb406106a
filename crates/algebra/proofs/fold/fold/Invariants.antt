use Rattle.std.proofs.Common.{◌++◌}
use Rattle.algebra.specs.Over.{space_over}
use Rattle.algebra.proofs.Folding.{Folding}
use Rattle.algebra.proofs.fold.fold.Given as goal

abbrev pub invariant-loop-i : goal.invariant-loop-i
invariant-loop-i g l =
    let f = g.F.Field in
    let s = g.G.Space in
    Folding (space_over f s) (f.means l.u) (f.means l.v) s.means l.mid l.fn.values l.i (l.low ++ l.high)
