-- Taking an element from the bytes at the front. Assumes nothing.
use Rattle.std.proofs.Common.{◌≡◌, ℕ, Bool, true, false, cond, leb, List, length, take, Ok, Err, Result, sym, refl, ap, ◌∙◌, Option, None, Some}
use Rattle.std.specs.Option.{option_map, ok_or}
use Rattle.algebra.specs.declared.fault.ByteFault.{ByteFault}
use Rattle.algebra.specs.declared.fault.ByteFault.TheVariants.{Ends, NotElement}
use Rattle.algebra.specs.Codec.{Codec}
use Rattle.algebra.specs.Bytes.{meant, read_bytes, read_one, element_at, and_then}

decoded_then : {X Y : Type 0} (b : Bool) (f : X → Result Y ByteFault) (x : X) (e : ByteFault) → cond b (f x) (Err e) ≡ and_then (cond b (Ok x) (Err e)) f
decoded_then true f x e = refl
decoded_then false f x e = refl

-- What is read of an element, where n bytes are its size.
module _ {X : Type 0} (c : Codec X) (n at : ℕ) (bytes : List ℕ) (size : c.size ≡ n) where
  one_of_bytes : read_one c at bytes ≡ and_then (read_bytes n at bytes) (λ code. element_at at (c.decode code))
  unfolding read_one
  one_of_bytes = decoded_then (leb c.size (length bytes)) (λ code. element_at at (c.decode code)) (take c.size bytes) (Ends at) ∙ ap (λ t. and_then (read_bytes t at bytes) (λ code. element_at at (c.decode code))) size

  pub bytes_end : (d : ByteFault) → Err d ≡ read_bytes n at bytes → read_one c at bytes ≡ Err d
  bytes_end d e = one_of_bytes ∙ ap (λ r. and_then r (λ code. element_at at (c.decode code))) (sym e)

  module _ (code : List ℕ) (e : Ok code ≡ read_bytes n at bytes) (found : Option X) (is : found ≡ c.decode code) where
    pub as_decoded : read_one c at bytes ≡ element_at at found
    as_decoded = one_of_bytes ∙ ap (λ r. and_then r (λ code. element_at at (c.decode code))) (sym e) ∙ ap (element_at at) (sym is)

-- What is decoded of values, by what they mean.
pub meant_element : {S X : Type 0} (means : S → X) (at : ℕ) (found : Option S) → meant means (ok_or found (NotElement at)) ≡ element_at at (option_map means found)
meant_element means at None = refl
meant_element means at (Some x) = refl
