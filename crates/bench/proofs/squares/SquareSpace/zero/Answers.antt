use Rattle.std.proofs.Common.{ap}
use Rattle.algebra.specs.Modular.{Residue}
use Rattle.bench.specs.SquareLaws.{by_value}
use Rattle.bench.proofs.squares.SquareSpace.zero.Goals as goal

pub returns : goal.returns
returns c = by_value _ _ (ap (λ (x : Residue 503). x.value) c.draw.ensures)
