use Rattle.std.proofs.Common.{rules}
use Rattle.algebra.proofs.Residues.{by_value}
use Rattle.modular.proofs.number.ModularField.add.Goals as goal

pub returns : goal.returns
returns g c = by_value _ _ (search rules)
