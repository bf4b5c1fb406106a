-- The operations and meanings that a field and a space name as traits. Assumes nothing.
use Rattle.std.specs.Prelude.{ℕ, List, map, Result}
use Rattle.algebra.specs.declared.fault.ByteFault.{ByteFault}
use Rattle.algebra.specs.declared.claim.Claim.{Claim}
use Rattle.algebra.specs.Structures.{SpaceOps, with_multiples}
use Rattle.algebra.specs.Bytes.{meant}
use Rattle.algebra.specs.Claims.{ClaimOf, claim_of, encode_claim}
use Rattle.algebra.specs.declared.field.Field as field
use Rattle.algebra.specs.declared.space.Space as space

-- The space with its multiples by elements of the field.
abbrev pub space_over : {F G : Type 0} (f : field.Ghosts F) (s : space.Ghosts G F) → SpaceOps f.Elem s.Elem
space_over f s = with_multiples s.group (λ x. s.times (f.pick x))

-- What a list of values means.
abbrev pub numbers : {F : Type 0} (f : field.Ghosts F) → List F → List f.Elem
numbers f = map f.means

abbrev pub elements : {F G : Type 0} (s : space.Ghosts G F) → List G → List s.Elem
elements s = map s.means

-- What a claim of values means, and its bytes.
module _ {F G : Type 0} (f : field.Ghosts F) (s : space.Ghosts G F) where
  abbrev pub claim_meant : Claim F G → ClaimOf f.Elem s.Elem
  claim_meant = claim_of f.means s.means

  abbrev pub claim_code : Claim F G → List ℕ
  claim_code c = encode_claim f.codec s.codec (claim_meant c)

  -- A claim that was read, with the bytes used.
  abbrev pub read_meant : Result (Claim F G × ℕ) ByteFault → Result (ClaimOf f.Elem s.Elem × ℕ) ByteFault
  read_meant = meant (λ p. (claim_meant p.0, p.1))
