-- The numbers below p, with sums and products modulo p. Assumes nothing.
use Rattle.std.specs.Prelude.{ℕ, ◌+◌, ◌-◌, ◌*◌, ◌%◌, ◌<◌, nat_lt, Option}
use Rattle.std.proofs.Common.{mod-lt, arith}
use Rattle.std.proofs.lemmas.Bool.{ltb-true}
use Rattle.algebra.specs.Structures.{FieldOps}
use Rattle.algebra.specs.Numbered.{if_passed}

pub record Residue (p : ℕ) : Type 0 where
  pub value : ℕ
  pub below : value < p

abbrev pub residue : {p : ℕ} (n : ℕ) → n < p → Residue p
residue n h = record { value = n; below = h }

-- What n leaves modulo p.
abbrev pub reduced : {p : ℕ} → 1 < p → ℕ → Residue p
reduced {p} h n = residue (n % p) (mod-lt n (omega arith))

abbrev pub modular : {p : ℕ} → 1 < p → (Residue p → Residue p) → FieldOps (Residue p)
modular {p} h inverse = record {
  zero = residue 0 (omega arith);
  one = residue 1 h;
  add = λ x y. reduced h (x.value + y.value);
  mul = λ x y. reduced h (x.value * y.value);
  neg = λ x. reduced h (p - x.value);
  inv = inverse;
}

-- The element that a number is: none from p on.
abbrev pub below_p : (p n : ℕ) → Option (Residue p)
below_p p n = if_passed (nat_lt n p) (λ passed. residue n (ltb-true n p passed))
