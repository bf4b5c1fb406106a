-- Numbers as bytes, highest first, and elements that are written by their number. Assumes nothing.
use Rattle.std.specs.Prelude.{◌≡◌, ℕ, zero, suc, ◌+◌, ◌*◌, ◌/◌, ◌%◌, ◌^◌, ◌<◌, ◌≤◌, Bool, true, false, if◌then◌else◌, ◌&&◌, List, [], ◌∷◌, ◌++◌, length, take, ◌==◌, refl, Option, None, Some}
use Rattle.algebra.specs.Codec.{Codec}

-- The last `w` digits of n in base 256.
abbrev pub big_endian : ℕ → ℕ → List ℕ
big_endian zero n = []
big_endian (suc w) n = big_endian w (n / 256) ++ (n % 256 ∷ [])

-- The bytes begin with the `w` digits of n.
pub record Digits (w : ℕ) (bytes : List ℕ) (n : ℕ) : Type 0 where
  pub long : w ≤ length bytes
  pub digits : take w bytes ≡ big_endian w n
  pub fits : n < 256 ^ w

-- The number whose digits in base 256 are those of `high` and then the bytes.
abbrev pub number_after : ℕ → List ℕ → ℕ
number_after high [] = high
number_after high (b ∷ bs) = number_after (high * 256 + b) bs

abbrev pub same_bytes : List ℕ → List ℕ → Bool
same_bytes [] [] = true
same_bytes [] (y ∷ ys) = false
same_bytes (x ∷ xs) [] = false
same_bytes (x ∷ xs) (y ∷ ys) = x == y && same_bytes xs ys

-- A value that rests on a test, if the test passes.
abbrev pub if_passed : {X : Type 0} (b : Bool) → (b ≡ true → X) → Option X
if_passed true f = Some (f refl)
if_passed false f = None

-- Each element by its number in `w` bytes; `find` is the element that a number is, if any.
abbrev pub by_number : {X : Type 0} → ℕ → (number : X → ℕ) (find : ℕ → Option X) → Codec X
by_number w number find = record {
  size = w;
  encode = λ x. big_endian w (number x);
  decode = λ bytes. let n = number_after 0 bytes in if same_bytes (big_endian w n) bytes then find n else None;
}
