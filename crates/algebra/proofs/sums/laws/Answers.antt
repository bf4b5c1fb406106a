use Rattle.algebra.specs.Over.{space_over}
use Rattle.algebra.proofs.Spaces.{gathered, sums_of_mixes}
use Rattle.algebra.proofs.sums.laws.Goals as goal

pub returns : goal.returns
returns g c =
    let space = gathered g.F.Field.field (space_over g.F.Field g.G.Space).scale g.met.G.Space.lawful c.scale_over_sum.ensures c.scale_over_add.ensures c.scale_over_mul.ensures c.scale_by_one.ensures in
    record { space = space; sums = sums_of_mixes g.met.F.Field.lawful space }
