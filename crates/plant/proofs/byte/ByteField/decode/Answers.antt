use Rattle.std.proofs.Common.{◌≡◌, ℕ, ◌<◌, List, [], ◌∷◌, length, slice_index_or, Some, sym, ap, ◌∙◌, mod-eq_of_lt, arith}
use Rattle.std.proofs.Math.Nat.{mod-mod}
use Rattle.plant.specs.ByteField.{byte, byte_codec}
use Rattle.plant.specs.ByteLaws.{byte_encodes}
use Rattle.plant.proofs.byte.ByteField.decode.Goals as goal

decode_one : (code : List ℕ) → length code ≡ 1 → slice_index_or code 0 0 < 256 → Some (byte (slice_index_or code 0 0)) ≡ byte_codec.decode code
decode_one [] one h = absurd (omega arith)
decode_one (b ∷ []) one h = sym (byte_encodes.back (byte b)) ∙ ap (λ v. byte_codec.decode (v ∷ [])) (mod-mod b 256 ∙ mod-eq_of_lt h)
decode_one (b ∷ c ∷ code) one h = absurd (omega arith)

pub returns : goal.returns
returns c = decode_one c.args.code.now (omega arith) (c.type_inv.code 0).fits
