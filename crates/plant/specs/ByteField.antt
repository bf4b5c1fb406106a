-- The field of 256 elements of FIPS 197: polynomials over the field of two elements, modulo x^8 + x^4 + x^3 + x + 1.
-- Assumes nothing.
use Rattle.std.specs.Prelude.{ℕ, zero, suc, ◌+◌, ◌*◌, ◌/◌, ◌%◌, Bool, true, false, if◌then◌else◌, not, ◌&&◌, List, [], ◌∷◌, map, take, replicate, ◌==◌, slice_index_or}
use Rattle.std.proofs.Common.{lit<}
use Rattle.algebra.specs.Structures.{FieldOps}
use Rattle.algebra.specs.Codec.{Codec}
use Rattle.algebra.specs.Modular.{Residue, reduced, below_p}
use Rattle.algebra.specs.Numbered.{by_number}

-- The field of two elements has the sum `xor` and the product `&&`.
abbrev pub xor : Bool → Bool → Bool
xor a false = a
xor a true = not a

-- A polynomial is the list of its coefficients, that of 1 first; the sum is by coefficient.
abbrev pub plus : List Bool → List Bool → List Bool
plus [] q = q
plus (a ∷ p) [] = a ∷ p
plus (a ∷ p) (b ∷ q) = xor a b ∷ plus p q

-- b p
abbrev pub scaled : Bool → List Bool → List Bool
scaled b p = map (λ a. b && a) p

-- (b + x p) q = b q + x (p q)
abbrev pub product : List Bool → List Bool → List Bool
product [] q = []
product (b ∷ p) q = plus (scaled b q) (false ∷ product p q)

-- What x^8 leaves modulo x^8 + x^4 + x^3 + x + 1, which is 11b in hex.
abbrev pub eighth : List Bool
eighth = true ∷ true ∷ false ∷ true ∷ true ∷ []

-- What x p leaves, for a p of degree below 8.
abbrev pub times_x : List Bool → List Bool
times_x p = plus (false ∷ take 7 p) (scaled (slice_index_or p 7 false) eighth)

-- What a polynomial leaves, in eight coefficients: b + x p leaves b plus what x times the remainder of p does.
abbrev pub remainder : List Bool → List Bool
remainder [] = replicate 8 false
remainder (b ∷ p) = plus (b ∷ []) (times_x (remainder p))

-- The last w bits of a number, the lowest first, and the number whose bits these are.
abbrev pub bits : ℕ → ℕ → List Bool
bits zero n = []
bits (suc w) n = (n % 2 == 1) ∷ bits w (n / 2)

abbrev pub number : List Bool → ℕ
number [] = 0
number (b ∷ p) = (if b then 1 else 0) + number p * 2

-- An element is a number below 256: bit k is the coefficient of x^k.
abbrev pub Byte : Type 0
Byte = Residue 256

-- The element whose coefficients are the last eight bits of n.
abbrev pub byte : ℕ → Byte
byte n = reduced (lit< tt) n

abbrev pub coefficients : Byte → List Bool
coefficients x = bits 8 x.value

unfoldable pub sum : Byte → Byte → Byte
sum x y = byte (number (plus (coefficients x) (coefficients y)))

unfoldable pub times : Byte → Byte → Byte
times x y = byte (number (remainder (product (coefficients x) (coefficients y))))

-- x^2 x^4 .. x^(2^k)
abbrev pub squares : ℕ → Byte → Byte
squares zero x = byte 1
squares (suc k) x = let square = times x x in times square (squares k square)

-- Since x^255 is 1 for each x but zero, x^254 is the inverse of x; and 254 is 2 + 4 + .. + 128.
unfoldable pub inverse : Byte → Byte
inverse x = squares 7 x

abbrev pub byte_field : FieldOps Byte
byte_field = record { zero = byte 0; one = byte 1; add = sum; mul = times; neg = λ x. x; inv = inverse }

-- One byte.
abbrev pub byte_codec : Codec Byte
byte_codec = by_number 1 (λ x. x.value) (below_p 256)
