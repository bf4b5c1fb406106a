use Rattle.std.proofs.Common.{ap, ◌∙◌}
use Rattle.algebra.specs.Over.{numbers}
use Rattle.algebra.specs.Sums.{lin}
use Rattle.algebra.proofs.Spaces.{picked_multiples}
use Rattle.algebra.proofs.sums.dot.Goals as goal

pub returns : goal.returns
returns g c =
    let f = g.F.Field in
    c.msm.ensures ∙ ap (λ S. lin S (numbers f c.args.a.now) (numbers f c.args.b.now)) (picked_multiples f.field f.means f.pick g.met.F.Field.picked)
