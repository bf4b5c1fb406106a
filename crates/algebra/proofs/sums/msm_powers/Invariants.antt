use Rattle.std.proofs.Common.{◌≡◌, ◌-◌, map, length, drop}
use Rattle.algebra.specs.Over.{space_over, numbers, elements}
use Rattle.algebra.specs.Sums.{lin, products, powers}
use Rattle.algebra.proofs.sums.msm_powers.Given as goal

abbrev pub invariant-loop-i : goal.invariant-loop-i
invariant-loop-i g l =
    let f = g.F.Field in
    let s = g.G.Space in
    let K = f.field in
    let rest = map (K.mul (f.means l.power)) (powers K (f.means l.y) (length l.scalars - l.i)) in
    s.group.add (s.means l.sum) (lin (space_over f s) (products K rest (numbers f (drop l.i l.scalars))) (elements s (drop l.i l.points)))
    ≡ lin (space_over f s) (products K (powers K (f.means l.y) (length l.scalars)) (numbers f l.scalars)) (elements s l.points)
