-- Worked cases of the definitions. Assumes nothing.
use Rattle.std.specs.Prelude.{◌≡◌, List, [], ◌∷◌, map, take, refl}
use Rattle.std.proofs.Common.{lit<}
use Rattle.algebra.specs.Modular.{residue}
use Rattle.modular.specs.Mod251.{Mod251, field251, codec251}
use Rattle.modular.specs.Mod65537.{Mod65537, field65537}
use Rattle.bench.specs.Squares.{Square, square, squares, power, codec503}
use Rattle.plant.specs.ByteField.{byte, byte_field}
use Rattle.algebra.specs.Structures.{over_itself}
use Rattle.algebra.specs.Sums.{dot}
use Rattle.algebra.specs.Folds.{folded}
use Rattle.algebra.specs.Varint.{varint}
use Rattle.algebra.specs.Claims.{ClaimOf, encode_claim}
use Rattle.algebra.specs.SetupCode.{SetupOf, encode_setup}
use Rattle.algebra.specs.Setups.{q_part}
use Rattle.bench.specs.Bench.{bench_values}

abbrev pub two : Mod251
two = residue 2 (lit< tt)

abbrev pub last : Mod251
last = residue 250 (lit< tt)

abbrev pub four : Square
four = square 4 (lit< tt) refl

abbrev pub nine : Square
nine = square 9 (lit< tt) refl

abbrev pub two_of_many : Mod65537
two_of_many = residue 2 (lit< tt)

abbrev pub small_setup : SetupOf Square
small_setup = record { q = square 16 (lit< tt) refl; pairs = (four, nine) ∷ [] }

-- (2, 3) and (5, 7), each folded with 2 and its inverse, the one the other way round.
abbrev pub folded_a : List Mod251
folded_a = take 1 (folded (over_itself field251) two (field251.inv two) 1 (residue 2 (lit< tt) ∷ residue 3 (lit< tt) ∷ []))

abbrev pub folded_b : List Mod251
folded_b = take 1 (folded (over_itself field251) (field251.inv two) two 1 (residue 5 (lit< tt) ∷ residue 7 (lit< tt) ∷ []))

abbrev pub small_claim : ClaimOf Mod251 Square
small_claim = record { commitment = square 97 (lit< tt) refl; product = residue 15 (lit< tt); y = residue 1 (lit< tt); log_len = 0 }

pub record WorkedCases : Type 0 where
  -- Modulo 251 the inverses of 2, 250 and 0 are 126, 250 and 0.
  pub inverse_2 : (field251.inv two).value ≡ 126
  pub inverse_250 : (field251.inv last).value ≡ 250
  pub inverse_0 : (field251.inv field251.zero).value ≡ 0
  -- Modulo 65,537 the inverse of 2 is 32,769.
  pub inverse_of_2 : (field65537.inv two_of_many).value ≡ 32769
  -- In the byte field 57 times 83 is c1, and the inverse of 53 is ca.
  pub byte_product : (byte_field.mul (byte 0x57) (byte 0x83)).value ≡ 0xc1
  pub byte_inverse : (byte_field.inv (byte 0x53)).value ≡ 0xca
  -- In the squares 3 times 4 plus 5 times 9 is 97.
  pub squares_sum : (squares.add (power 3 four) (power 5 nine)).value ≡ 97
  -- The claim (97, 15, 1, 0) is 00 61 0f 01 00.
  pub claim_bytes : encode_claim codec251 codec503 small_claim ≡ 0x00 ∷ 0x61 ∷ 0x0f ∷ 0x01 ∷ 0x00 ∷ []
  -- The setup with Q 16, G 4 and H 9 is 00 10 01 00 04 00 09.
  pub setup_bytes : encode_setup codec503 small_setup ≡ 0x00 ∷ 0x10 ∷ 0x01 ∷ 0x00 ∷ 0x04 ∷ 0x00 ∷ 0x09 ∷ []
  -- The varint of 300 is ac 02.
  pub varint_300 : varint 300 ≡ 0xac ∷ 0x02 ∷ []
  -- Modulo 251 a of 2 and 3 and b of 5 and 7, folded with 2, are 131 and 142, with the product 28.
  pub fold_a : map (λ x. x.value) folded_a ≡ 131 ∷ []
  pub fold_b : map (λ x. x.value) folded_b ≡ 142 ∷ []
  pub fold_product : (dot field251 folded_a folded_b).value ≡ 28
  -- The bench's Q is 332.
  pub bench_q : q_part bench_values 0 ≡ 332
