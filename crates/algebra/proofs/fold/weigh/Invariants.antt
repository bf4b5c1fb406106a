use Rattle.std.proofs.Common.{◌≤◌, length}
use Rattle.algebra.specs.Over.{space_over}
use Rattle.algebra.proofs.Weighing.{Weighing}
use Rattle.algebra.proofs.fold.weigh.Given as goal

abbrev pub invariant-loop-i : goal.invariant-loop-i
invariant-loop-i g l =
    let f = g.F.Field in
    let s = g.G.Space in
    (l.i ≤ length l.out) × Weighing f.field (space_over f s) s.means (f.means l.y) l.values l.initial.out l.i (f.means l.power) l.out
