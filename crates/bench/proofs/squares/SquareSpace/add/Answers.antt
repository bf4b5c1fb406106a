use Rattle.std.proofs.Common.{◌*◌, ◌%◌, ◌^◌, refl, ap, ap₂, ◌∙◌}
use Rattle.algebra.specs.Modular.{Residue}
use Rattle.algebra.specs.Powers.{product_unit}
use Rattle.bench.specs.Squares.{Square}
use Rattle.bench.specs.SquareLaws.{by_value}
use Rattle.bench.proofs.squares.SquareSpace.add.Goals as goal

pub invariant_of-result : goal.invariant_of-result
invariant_of-result c =
    let v = c.self.inside in
    let w = c.other.inside in
    (ap (λ (x : Residue 503). x.value ^ 251 % 503) c.mul.ensures ∙ product_unit 503 251 v.value.value w.value.value refl v.unit w.unit, tt)

pub returns : goal.returns
returns c = by_value _ _ (
    ap (λ (x : Residue 503). x.value) c.mul.ensures ∙ ap₂ (λ (x y : Square). x.value * y.value % 503) c.self.view_is c.other.view_is)
