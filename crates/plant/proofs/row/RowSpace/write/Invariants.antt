use Rattle.plant.proofs.Writing.{Holds}
use Rattle.plant.proofs.row.RowSpace.write.Given as goal

abbrev pub invariant-loop-number : goal.invariant-loop-number
invariant-loop-number g l =
    let f = g.F.Field in
    Holds (λ x. f.codec.encode (f.means x.now)) f.codec.size l.number-items l.initial.out l.number-index l.at l.out
