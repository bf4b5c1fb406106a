use Rattle.algebra.proofs.Spaces.{picked_multiples}
use Rattle.algebra.proofs.sums.itself.Goals as goal

pub returns : goal.returns
returns g c = let f = g.F.Field in picked_multiples f.field f.means f.pick g.met.F.Field.picked
