-- Which words are numbers, and of what value. Assumes nothing.
use Rattle.std.specs.Prelude.{ℕ, ◌+◌, ◌-◌, ◌*◌, ◌^◌, if◌then◌else◌, ◌&&◌, List, [], ◌∷◌, Some, None, fold, Option, nat_lt}
use Rattle.std.specs.Str.{all_ascii_digits}

-- the value of decimal digits, the first digit the highest
abbrev pub value_of : List ℕ → ℕ
value_of bs = fold (λ n b. n * 10 + (b - 48)) 0 bs

-- the number that a word writes: it has digits only, one at least, and fits 32 bits
unfoldable pub number_of : List ℕ → Option ℕ
number_of [] = None
number_of (b ∷ bs) = if all_ascii_digits (b ∷ bs) && nat_lt (value_of (b ∷ bs)) (2 ^ 32) then Some (value_of (b ∷ bs)) else None
