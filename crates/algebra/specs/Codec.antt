-- Encodings with one form for each element. Assumes nothing.
use Rattle.std.specs.Prelude.{◌≡◌, ℕ, List, length, Option, Some}

-- How elements are written in `size` bytes, and which element bytes are, if any.
pub record Codec (X : Type 0) : Type 0 where
  pub size : ℕ
  pub encode : X → List ℕ
  pub decode : List ℕ → Option X

-- Each element has one encoding, of `size` bytes, and no other bytes are an element.
pub record IsCodec {X : Type 0} (c : Codec X) : Type 0 where
  pub sized : (x : X) → length (c.encode x) ≡ c.size
  pub back : (x : X) → c.decode (c.encode x) ≡ Some x
  pub only : (x : X) (bytes : List ℕ) → c.decode bytes ≡ Some x → bytes ≡ c.encode x
