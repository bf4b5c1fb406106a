use Rattle.std.proofs.Common.{refl}
use Rattle.algebra.proofs.Residues.{by_value}
use Rattle.modular.proofs.number.ModularField.zero.Goals as goal

pub returns : goal.returns
returns g c = by_value _ _ refl
