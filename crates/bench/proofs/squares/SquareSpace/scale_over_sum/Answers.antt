use Rattle.bench.specs.SquareLaws.{over_sum}
use Rattle.bench.proofs.squares.SquareSpace.scale_over_sum.Goals as goal

pub returns : goal.returns
returns c = over_sum
