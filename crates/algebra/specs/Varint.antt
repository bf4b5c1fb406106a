-- Counts as bytes: seven bits each, lowest first, the top bit set on all but the last. Assumes nothing.
use Rattle.std.specs.Prelude.{◌≡◌, ℕ, zero, suc, ◌+◌, ◌*◌, ◌/◌, ◌%◌, ◌<◌, Bool, if◌then◌else◌, ◌&&◌, List, [], ◌∷◌, ◌++◌, length, take, Ok, Err, Result, nat_lt, Option, None, Some}
use Rattle.algebra.specs.declared.fault.ByteFault.{ByteFault}
use Rattle.algebra.specs.declared.fault.ByteFault.TheVariants.{Ends, NotCount}
use Rattle.algebra.specs.Numbered.{same_bytes}

-- The shortest such bytes of n, where at most `more` come before the last.
unfoldable pub varint_in : ℕ → ℕ → List ℕ
varint_in zero n = n ∷ []
varint_in (suc more) n = if nat_lt n 128 then n ∷ [] else (n % 128 + 128) ∷ varint_in more (n / 128)

-- A number of 64 bits takes at most ten.
unfoldable pub varint : ℕ → List ℕ
varint n = varint_in 9 n

-- The number that bytes write, seven bits each.
abbrev pub count_of : List ℕ → ℕ
count_of [] = 0
count_of (b ∷ bytes) = b % 128 + 128 * count_of bytes

abbrev pub prefixed : List ℕ → Option (List ℕ) → Option (List ℕ)
prefixed front None = None
prefixed front (Some bytes) = Some (front ++ bytes)

-- The field of a count that begins the bytes: up to the first whose top bit is not set, and `most` of them at most; none if the bytes end inside it.
abbrev pub count_field : ℕ → List ℕ → Option (List ℕ)
count_field zero bytes = Some []
count_field (suc most) [] = None
count_field (suc most) (b ∷ bytes) = if nat_lt b 128 then Some (b ∷ []) else prefixed (b ∷ []) (count_field most bytes)

-- The field is a shortest varint, and its count is below 2^32.
abbrev pub is_count : List ℕ → Bool
is_count field = same_bytes (varint (count_of field)) field && nat_lt (count_of field) 4294967296

abbrev pub count_at : ℕ → Option (List ℕ) → Result (ℕ × ℕ) ByteFault
count_at at None = Err (Ends at)
count_at at (Some field) = if is_count field then Ok (count_of field, length field) else Err (NotCount at)

-- The count that begins the bytes, in five bytes at most, and how many it takes.
unfoldable pub read_count : ℕ → List ℕ → Result (ℕ × ℕ) ByteFault
read_count at bytes = count_at at (count_field 5 bytes)

-- Reading accepts a byte list exactly when the varint of a count below 2^32 begins it, and answers that count.
pub record AcceptsCounts (bytes : List ℕ) (r : Result (ℕ × ℕ) ByteFault) : Type 0 where
  pub only : (n k : ℕ) → r ≡ Ok (n, k) → (n < 4294967296) × (k ≡ length (varint n)) × (take k bytes ≡ varint n)
  pub each : (n : ℕ) → n < 4294967296 → take (length (varint n)) bytes ≡ varint n → r ≡ Ok (n, length (varint n))
