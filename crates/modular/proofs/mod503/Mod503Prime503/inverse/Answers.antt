use Rattle.algebra.proofs.Residues.{by_value}
use Rattle.modular.proofs.mod503.Mod503Prime503.inverse.Goals as goal

pub returns : goal.returns
returns c = by_value _ _ c.pow.ensures
