-- The laws of the squares modulo 503. Assumes nothing.
use Rattle.std.specs.Prelude.{◌≡◌, ℕ, ◌+◌, ◌*◌, ◌%◌, ◌^◌, ◌<◌, false, ◌==◌, nat_lt, refl, Some, None}
use Rattle.std.proofs.Common.{sym, ap, ◌∙◌, subst, mod-eq_of_lt, pow-suc, mul_assoc, mul_comm, mul-one, one-mul, arith, pow-add}
use Rattle.std.proofs.Math.Bridge.{le_prop}
use Rattle.std.proofs.Math.Nat.{ℕ_set, pow-zero}
use Rattle.std.proofs.lemmas.Bool.{lt-ltb, eq-eqb, and_from}
use Rattle.algebra.specs.Structures.{IsGroup, SpaceOps, with_multiples, OverSum, OverAdd, OverMul, ByOne}
use Rattle.algebra.specs.Powers.{mod-mul-mod, mul-mod-mod, both_mod, pow-mod, mul-pow, pow-mul, pow_order}
use Rattle.modular.specs.Mod251.{Mod251, field251}
use Rattle.bench.specs.Squares.{Square, square, squares, power, is_square, square_at}
use Rattle.algebra.proofs.BigEndian.{Numbers, if_passes, if_fails, passed_from}

same_square : (m n : ℕ) → m ≡ n → (h : m < 503) (u : m ^ 251 % 503 ≡ 1) (k : n < 503) (v : n ^ 251 % 503 ≡ 1) → square m h u ≡ square n k v
same_square m n e h u = subst (λ t. (k : t < 503) (v : t ^ 251 % 503 ≡ 1) → square m h u ≡ square t k v) e (λ k v. ap (λ l. square m l u) (le_prop h k) ∙ ap (square m k) (ℕ_set _ _ u v))

pub by_value : (x y : Square) → x.value ≡ y.value → x ≡ y
by_value x y e = same_square x.value y.value e x.below x.unit y.below y.unit

abbrev q : ℕ → ℕ
q t = t % 503

pub squares_group : IsGroup squares
squares_group = record {
  add_assoc = λ x y z. by_value _ _ (mod-mul-mod (x.value * y.value) z.value 503 ∙ ap q (mul_assoc x.value y.value z.value) ∙ sym (mul-mod-mod x.value (y.value * z.value) 503));
  add_comm = λ x y. by_value _ _ (ap q (mul_comm x.value y.value));
  add-zero = λ x. by_value _ _ (ap q (mul-one x.value) ∙ mod-eq_of_lt x.below);
  add-neg = λ x. by_value _ _ (mul-mod-mod x.value (x.value ^ 250) 503 ∙ ap q (mul_comm x.value (x.value ^ 250) ∙ sym (pow-suc x.value 250)) ∙ x.unit);
}

-- The four laws that join the squares to the integers modulo 251.
abbrev space : SpaceOps Mod251 Square
space = with_multiples squares (λ s. power s.value)

pub over_sum : OverSum field251 space
over_sum s v w = by_value _ _ (pow-mod (v.value * w.value) 503 s.value ∙ ap q (mul-pow v.value w.value s.value) ∙ sym (both_mod (v.value ^ s.value) (w.value ^ s.value) 503))

pub over_add : OverAdd field251 space
over_add s t v = by_value _ _ (pow_order v.value 503 251 (s.value + t.value) v.unit refl ∙ ap q (pow-add v.value s.value t.value) ∙ sym (both_mod (v.value ^ s.value) (v.value ^ t.value) 503))

pub over_mul : OverMul field251 space
over_mul s t v = by_value _ _ (pow_order v.value 503 251 (s.value * t.value) v.unit refl ∙ ap q (ap (λ k. v.value ^ k) (mul_comm s.value t.value) ∙ pow-mul v.value t.value s.value) ∙ sym (pow-mod (v.value ^ t.value) 503 s.value))

pub by_one : ByOne field251 space
by_one v = by_value _ _ (ap q (pow-suc v.value 0 ∙ ap (λ t. t * v.value) (pow-zero v.value) ∙ one-mul v.value) ∙ mod-eq_of_lt v.below)

pub found : (x : Square) → square_at x.value ≡ Some x
found x = if_passes (is_square x.value) _ x (λ e. by_value _ _ refl)
    (and_from (nat_lt x.value 503) (x.value ^ 251 % 503 == 1) (lt-ltb x.value 503 x.below) (eq-eqb (x.value ^ 251 % 503) 1 x.unit))

pub not_found : (n : ℕ) → is_square n ≡ false → square_at n ≡ None
not_found n e = if_fails (is_square n) _ e

pub square_numbers : Numbers 2 (λ (x : Square). x.value) square_at
square_numbers = record {
  fits = λ x. (let b = x.below in omega arith);
  finds = found;
  only = λ n x e. ap (λ (r : Square). r.value) (passed_from (is_square n) _ x e).1;
}
