-- Reading and writing one element at the front of a byte list, and reading one thing after another. Assumes nothing.
use Rattle.std.specs.Prelude.{◌≡◌, ℕ, ◌<◌, ◌≤◌, if◌then◌else◌, List, [], ◌∷◌, ◌++◌, ◌+◌, ◌-◌, length, take, drop, Ok, Err, Result, nat_le, Option, None, Some}
use Rattle.algebra.specs.Codec.{Codec}
use Rattle.algebra.specs.declared.fault.ByteFault.{ByteFault}
use Rattle.algebra.specs.declared.fault.ByteFault.TheVariants.{Ends, NotElement, Output}

-- Bytes, of which the first `at` were read.
pub record Input : Type 0 where
  pub bytes : List ℕ
  pub at : ℕ

-- What is left of them.
abbrev pub left : Input → List ℕ
left i = drop i.at i.bytes

-- A field of n bytes was read, or it was refused and nothing was.
abbrev pub Takes : {X : Type 0} → ℕ → (before after : Input) → Result X ByteFault → Type 0
Takes n before after (Ok x) = after ≡ record { bytes = before.bytes; at = before.at + n }
Takes n before after (Err e) = after ≡ before

-- What was read is a count with its width, and the reader stands behind it; or it was refused, and nothing was read.
abbrev pub Counts : (before after : Input) (r : Result ℕ ByteFault) (read : Result (ℕ × ℕ) ByteFault) → Type 0
Counts before after (Ok n) read = (read ≡ Ok (n, after.at - before.at)) × (before.at ≤ after.at) × (after.bytes ≡ before.bytes)
Counts before after (Err e) read = (read ≡ Err e) × (after ≡ before)

-- What a call answered, by the meaning of what it made.
abbrev pub meant : {S X Y : Type 0} → (S → X) → Result S Y → Result X Y
meant f (Ok s) = Ok (f s)
meant f (Err e) = Err e

-- The element that was decoded, or the refusal of bytes that are no element, for a field that begins at `at`.
abbrev pub element_at : {X : Type 0} → ℕ → Option X → Result X ByteFault
element_at at (Some x) = Ok x
element_at at None = Err (NotElement at)

-- The element whose encoding begins the bytes, for a field that begins at `at`; what follows is ignored.
unfoldable pub read_one : {X : Type 0} → Codec X → ℕ → List ℕ → Result X ByteFault
read_one c at bytes = if nat_le c.size (length bytes) then element_at at (c.decode (take c.size bytes)) else Err (Ends at)

-- The byte that begins the bytes.
abbrev pub read_byte : ℕ → List ℕ → Result ℕ ByteFault
read_byte at [] = Err (Ends at)
read_byte at (b ∷ bytes) = Ok b

-- The k bytes that begin the bytes.
abbrev pub read_bytes : ℕ → ℕ → List ℕ → Result (List ℕ) ByteFault
read_bytes k at bytes = if nat_le k (length bytes) then Ok (take k bytes) else Err (Ends at)

-- What was read goes on to the next step; a refusal stands.
abbrev pub and_then : {X Y : Type 0} → Result X ByteFault → (X → Result Y ByteFault) → Result Y ByteFault
and_then (Ok x) f = f x
and_then (Err e) f = Err e

-- The encoding was written to the front of `before`, which was long enough, or nothing was changed.
pub record Written (code before after : List ℕ) (r : Result ℕ ByteFault) : Type 0 where
  pub fits : length code ≤ length before → (r ≡ Ok (length code)) × (after ≡ code ++ drop (length code) before)
  pub short : length before < length code → (r ≡ Err Output) × (after ≡ before)
