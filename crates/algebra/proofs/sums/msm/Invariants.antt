use Rattle.std.proofs.Common.{◌≡◌, drop}
use Rattle.algebra.specs.Over.{space_over, numbers, elements}
use Rattle.algebra.specs.Sums.{lin}
use Rattle.algebra.proofs.sums.msm.Given as goal

abbrev pub invariant-loop-i : goal.invariant-loop-i
invariant-loop-i g l =
    let f = g.F.Field in
    let s = g.G.Space in
    s.group.add (s.means l.sum) (lin (space_over f s) (numbers f (drop l.i l.scalars)) (elements s (drop l.i l.points)))
    ≡ lin (space_over f s) (numbers f l.scalars) (elements s l.points)
