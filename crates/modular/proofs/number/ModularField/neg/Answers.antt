use Rattle.std.proofs.Common.{◌-◌, ◌%◌, ap}
use Rattle.algebra.specs.Modular.{Residue}
use Rattle.algebra.proofs.Residues.{by_value}
use Rattle.modular.proofs.number.ModularField.neg.Goals as goal

pub returns : goal.returns
returns g c = by_value _ _ (ap (λ (x : Residue g.row.P). (g.row.P - x.value) % g.row.P) c.self.view_is)
