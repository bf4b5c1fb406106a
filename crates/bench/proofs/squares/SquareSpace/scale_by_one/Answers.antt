use Rattle.bench.specs.SquareLaws.{by_one}
use Rattle.bench.proofs.squares.SquareSpace.scale_by_one.Goals as goal

pub returns : goal.returns
returns c = by_one
