-- The field of the integers modulo a prime p, and its elements as bytes. Assumes nothing.
use Rattle.std.specs.Prelude.{ℕ, ◌-◌, ◌^◌, ◌<◌}
use Rattle.algebra.specs.Structures.{FieldOps}
use Rattle.algebra.specs.Codec.{Codec}
use Rattle.algebra.specs.Modular.{Residue, reduced, modular, below_p}
use Rattle.algebra.specs.Numbered.{by_number}

-- Since p is prime, x^(p - 1) is 1 for each x but zero, so that x^(p - 2) is the inverse of x.
abbrev pub inverse_mod : {p : ℕ} → 1 < p → Residue p → Residue p
inverse_mod {p} h x = reduced h (x.value ^ (p - 2))

abbrev pub field_mod : {p : ℕ} → 1 < p → FieldOps (Residue p)
field_mod h = modular h (inverse_mod h)

-- By number in w bytes, highest first.
abbrev pub codec_mod : (p w : ℕ) → Codec (Residue p)
codec_mod p w = by_number w (λ x. x.value) (below_p p)
