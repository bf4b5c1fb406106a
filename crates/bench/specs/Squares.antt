-- The squares modulo 503: a group of 251 elements, written as sums, and so a space over the integers modulo 251.
-- Assumes nothing.
use Rattle.std.specs.Prelude.{◌≡◌, ℕ, ◌*◌, ◌%◌, ◌^◌, ◌<◌, Bool, ◌&&◌, ◌==◌, nat_lt, refl, Option}
use Rattle.std.proofs.Common.{mod-lt, lit<}
use Rattle.std.proofs.lemmas.Bool.{ltb-true, eqb-true, and_parts}
use Rattle.algebra.specs.Structures.{GroupOps}
use Rattle.algebra.specs.Codec.{Codec}
use Rattle.algebra.specs.Numbered.{by_number, if_passed}
use Rattle.algebra.specs.Powers.{product_unit, power_unit}

-- A number below 503 whose power of 251 is 1 modulo 503. Zero has none, so it is 1 to 502.
pub record Square : Type 0 where
  pub value : ℕ
  pub below : value < 503
  pub unit : value ^ 251 % 503 ≡ 1

abbrev pub square : (n : ℕ) → n < 503 → n ^ 251 % 503 ≡ 1 → Square
square n h u = record { value = n; below = h; unit = u }

-- The sum of two elements is their product modulo 503, and s times v is v^s.
abbrev pub product : Square → Square → Square
product x y = square (x.value * y.value % 503) (mod-lt _ (lit< tt)) (product_unit 503 251 x.value y.value refl x.unit y.unit)

abbrev pub power : ℕ → Square → Square
power s x = square (x.value ^ s % 503) (mod-lt _ (lit< tt)) (power_unit 503 251 x.value s refl x.unit)

-- Zero is 1, and x^250 is opposite to x.
abbrev pub squares : GroupOps Square
squares = record { zero = square 1 (lit< tt) refl; add = product; neg = power 250 }

abbrev pub is_square : ℕ → Bool
is_square n = nat_lt n 503 && n ^ 251 % 503 == 1

-- The element that a number is, if any.
abbrev pub square_at : ℕ → Option Square
square_at n = if_passed (is_square n) (λ passed.
    let both = and_parts (nat_lt n 503) (n ^ 251 % 503 == 1) passed in
    square n (ltb-true n 503 both.0) (eqb-true (n ^ 251 % 503) 1 both.1))

-- Two bytes, highest first.
abbrev pub codec503 : Codec Square
codec503 = by_number 2 (λ x. x.value) square_at
