use Rattle.algebra.proofs.Residues.{by_value}
use Rattle.modular.proofs.number.ModularField.mul.Goals as goal

pub returns : goal.returns
returns g c = by_value _ _ c.times.ensures
