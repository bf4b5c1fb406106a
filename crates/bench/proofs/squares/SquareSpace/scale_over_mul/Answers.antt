use Rattle.bench.specs.SquareLaws.{over_mul}
use Rattle.bench.proofs.squares.SquareSpace.scale_over_mul.Goals as goal

pub returns : goal.returns
returns c = over_mul
