-- The laws of the integers modulo a prime. Assumes nothing.
use Rattle.std.specs.Prelude.{◌≡◌, ℕ, suc, ◌-◌, ◌*◌, ◌%◌, ◌^◌, ◌<◌, ◌≤◌, nat_eq}
use Rattle.std.proofs.Common.{T, arith, eqb→eq}
use Rattle.algebra.specs.Codec.{IsCodec}
use Rattle.algebra.specs.Structures.{IsField}
use Rattle.algebra.specs.Modular.{Residue, below_p}
use Rattle.algebra.proofs.Tested.{each, below}
use Rattle.algebra.proofs.BigEndian.{numbers_encode}
use Rattle.algebra.proofs.Residues.{modular_field, residue_numbers}
use Rattle.modular.specs.Primes.{inverse_mod, field_mod, codec_mod}

pub field_laws : {p : ℕ} (h : 1 < p) → ((n : ℕ) → 0 < n → n < p → (n * (n ^ (p - 2) % p)) % p ≡ 1) → 0 ^ (p - 2) % p ≡ 0 → IsField (field_mod h)
field_laws h inverts zero = modular_field h (inverse_mod h) (λ x some. inverts x.value some x.below) zero

pub codec_laws : (p w : ℕ) → p ≤ 256 ^ w → IsCodec (codec_mod p w)
codec_laws p w fits = numbers_encode w (λ (x : Residue p). x.value) (below_p p) (residue_numbers w fits)

pub at_most_64 : (w : ℕ) → (1 ≤ w) × (w ≤ 4) → (1 ≤ w) × (w ≤ 64)
at_most_64 w h = (h.0, omega (arith, h.1))

-- Each number but zero times its power of p - 2 is one, where a test of all of them says so.
pub tested : (p : ℕ) → T (each (λ n. nat_eq (suc n * (suc n ^ (p - 2) % p) % p) 1) (p - 1)) → (x : ℕ) → 0 < x → x < p → (x * (x ^ (p - 2) % p)) % p ≡ 1
tested p test x h b =
    let back : suc (x - 1) ≡ x = omega arith in
    rw back at (eqb→eq _ 1 (below (λ n. nat_eq (suc n * (suc n ^ (p - 2) % p) % p) 1) (p - 1) test (x - 1) (omega arith)))
