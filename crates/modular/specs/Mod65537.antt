-- The field of the integers modulo 65,537. Assumes nothing.
use Rattle.std.proofs.Common.{lit<}
use Rattle.algebra.specs.Structures.{FieldOps}
use Rattle.algebra.specs.Codec.{Codec}
use Rattle.algebra.specs.Modular.{Residue}
use Rattle.modular.specs.Primes.{field_mod, codec_mod}

abbrev pub Mod65537 : Type 0
Mod65537 = Residue 65537

abbrev pub field65537 : FieldOps Mod65537
field65537 = field_mod (lit< tt)

-- Four bytes.
abbrev pub codec65537 : Codec Mod65537
codec65537 = codec_mod 65537 4
