use Rattle.algebra.proofs.Residues.{by_value}
use Rattle.modular.proofs.mod65537.Mod65537Prime65537.inverse.Goals as goal

pub returns : goal.returns
returns c = by_value _ _ c.pow.ensures
