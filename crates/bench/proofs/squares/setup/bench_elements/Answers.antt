use Rattle.std.proofs.Common.{◌≡◌, map, get_or, arith, refl, ◌∙◌, lit<}
use Rattle.std.proofs.lemmas.List.{length-map, get_or-map}
use Rattle.std.proofs.lemmas.List.FromFn.{fill_by_all}
use Rattle.bench.specs.Squares.{Square, square}
use Rattle.bench.specs.Bench.{bench_value}
use Rattle.bench.proofs.squares.setup.bench_elements.Goals as goal

pub returns : goal.returns
returns c =
    let made = c.from_fn.ensures.items in
    let row = c.from_fn.result in
    let value = λ (x : Square). x.value in
    let some : Square = square 1 (lit< tt) refl in
    fill_by_all bench_value (map value row) 65 0 (length-map row value ∙ made.long) (λ k h.
    let one : value (get_or row k some) ≡ bench_value k = (made.at k some h).2.met in
    get_or-map value row k some 0 (omega (arith, made.long)) ∙ one)
