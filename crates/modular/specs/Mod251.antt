-- The field of the integers modulo 251. Assumes nothing.
use Rattle.std.proofs.Common.{lit<}
use Rattle.algebra.specs.Structures.{FieldOps}
use Rattle.algebra.specs.Codec.{Codec}
use Rattle.algebra.specs.Modular.{Residue}
use Rattle.modular.specs.Primes.{field_mod, codec_mod}

abbrev pub Mod251 : Type 0
Mod251 = Residue 251

abbrev pub field251 : FieldOps Mod251
field251 = field_mod (lit< tt)

-- One byte.
abbrev pub codec251 : Codec Mod251
codec251 = codec_mod 251 1
