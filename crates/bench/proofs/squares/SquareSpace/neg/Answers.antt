use Rattle.std.proofs.Common.{◌%◌, ◌^◌, refl, ap, ◌∙◌}
use Rattle.algebra.specs.Powers.{power_unit}
use Rattle.bench.specs.Squares.{Square}
use Rattle.bench.specs.SquareLaws.{by_value}
use Rattle.bench.proofs.squares.SquareSpace.neg.Goals as goal

pub invariant_of-result : goal.invariant_of-result
invariant_of-result c = (rw c.pow.ensures (power_unit 503 251 c.self.inside.value.value 250 refl c.self.inside.unit), tt)

pub returns : goal.returns
returns c = by_value _ _ (c.pow.ensures ∙ ap (λ (x : Square). x.value ^ 250 % 503) c.self.view_is)
