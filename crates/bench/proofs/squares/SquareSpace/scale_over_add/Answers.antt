use Rattle.bench.specs.SquareLaws.{over_add}
use Rattle.bench.proofs.squares.SquareSpace.scale_over_add.Goals as goal

pub returns : goal.returns
returns c = over_add
