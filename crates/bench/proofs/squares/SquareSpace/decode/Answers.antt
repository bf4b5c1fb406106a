use Rattle.std.proofs.Common.{◌≡◌, ℕ, false, Option, Some, None, MatchOption, option_map, sym, ap, ◌∙◌}
use Rattle.algebra.proofs.BigEndian.{decode_digits}
use Rattle.bench.specs.Squares.{Square, is_square, square_at}
use Rattle.bench.specs.SquareLaws.{found, not_found}
use Rattle.bench.proofs.squares.SquareSpace.decode.Goals as goal

-- what is made of a number is the element that it is
made : (n : ℕ) (r : Option Square) → MatchOption r (is_square n ≡ false) (λ x. x.value ≡ n) → option_map (λ x. x) r ≡ square_at n
made n None h = sym (not_found n h)
made n (Some x) h = sym (ap square_at (sym h) ∙ found x)

pub returns : goal.returns
returns c =
    let n = c.in_ok-number.field-0 in
    let read = c.in_ok-number.ensures in
    made n c.new.result c.new.ensures ∙ sym (decode_digits 2 (λ (x : Square). x.value) square_at c.args.code.now n read.1 read.2)
