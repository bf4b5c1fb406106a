-- The laws of the numbers below p: a field wherever the inverse is one, written by number. Assumes nothing.
use Rattle.std.proofs.Common.{◌≡◌, ℕ, ◌+◌, ◌-◌, ◌*◌, ◌%◌, ◌^◌, ◌<◌, ◌≤◌, ltb, true, nat_eq, ◌↔◌, sym, refl, ap, ◌∙◌, subst, add-zero, add_assoc, mod-eq_of_lt, mul_assoc, mul_comm, add_comm, pos_of_ne-zero, mul-one, mul-add, arith, Some, None}
use Rattle.std.proofs.Math.Bridge.{le_prop}
use Rattle.std.proofs.Math.Nat.{mod_self, mod-add-mod, add-mod-mod, add-mod}
use Rattle.std.proofs.lemmas.Bool.{lt-ltb, le-ltb, eqb-true, eq-eqb}
use Rattle.algebra.specs.Structures.{IsField}
use Rattle.algebra.specs.Powers.{mod-mul-mod, mul-mod-mod}
use Rattle.algebra.specs.Modular.{Residue, residue, modular, below_p}
use Rattle.algebra.proofs.BigEndian.{Numbers, if_passes, if_fails, passed_from}

-- one number is one residue
same_residue : {p : ℕ} (m n : ℕ) → m ≡ n → (h : m < p) (k : n < p) → residue m h ≡ residue n k
same_residue {p} m n e h = subst (λ t. (k : t < p) → residue m h ≡ residue t k) e (λ k. ap (residue m) (le_prop h k))

pub by_value : {p : ℕ} (x y : Residue p) → x.value ≡ y.value → x ≡ y
by_value x y e = same_residue x.value y.value e x.below y.below

positive : {p : ℕ} (h : 0 < p) (x : Residue p) → ¬ (x ≡ residue 0 h) → 0 < x.value
positive h x nonzero = pos_of_ne-zero (λ e. nonzero (by_value x (residue 0 h) e))

pub modular_field : {p : ℕ} (h : 1 < p) (inverse : Residue p → Residue p)
    → ((x : Residue p) → 0 < x.value → (x.value * (inverse x).value) % p ≡ 1)
    → (inverse (residue 0 (omega arith))).value ≡ 0
    → IsField (modular h inverse)
modular_field {p} h inverse inverts zero = record {
  add_assoc = λ x y z. by_value _ _ (mod-add-mod (x.value + y.value) p z.value ∙ ap (λ t. t % p) (add_assoc x.value y.value z.value) ∙ sym (add-mod-mod x.value (y.value + z.value) p));
  add_comm = λ x y. by_value _ _ (ap (λ t. t % p) (add_comm x.value y.value));
  add-zero = λ x. by_value _ _ (ap (λ t. t % p) (add-zero x.value) ∙ mod-eq_of_lt x.below);
  add-neg = λ x. by_value _ _ (add-mod-mod x.value (p - x.value) p ∙ (let k = x.below in let e : x.value + (p - x.value) ≡ p = omega arith in ap (λ t. t % p) e) ∙ mod_self p);
  mul_assoc = λ x y z. by_value _ _ (mod-mul-mod (x.value * y.value) z.value p ∙ ap (λ t. t % p) (mul_assoc x.value y.value z.value) ∙ sym (mul-mod-mod x.value (y.value * z.value) p));
  mul_comm = λ x y. by_value _ _ (ap (λ t. t % p) (mul_comm x.value y.value));
  mul-one = λ x. by_value _ _ (ap (λ t. t % p) (mul-one x.value) ∙ mod-eq_of_lt x.below);
  mul-add = λ x y z. by_value _ _ (mul-mod-mod x.value (y.value + z.value) p ∙ ap (λ t. t % p) (mul-add x.value y.value z.value) ∙ add-mod (x.value * y.value) (x.value * z.value) p);
  mul-inv = λ x nonzero. by_value _ _ (inverts x (positive _ x nonzero));
  inv-zero = by_value _ _ zero;
  one-zero = λ e. let z : ◌≡◌ {A = ℕ} 1 0 = ap (λ r. r.value) e in omega arith;
}

-- Where a number fixes an element, elements are equal where their numbers are.
pub equal_by : {X : Type 0} (number : X → ℕ) → ((x y : X) → number x ≡ number y → x ≡ y) → (x y : X) → (nat_eq (number x) (number y) ≡ true) ↔ (x ≡ y)
equal_by number fixes x y = (λ t. fixes x y (eqb-true (number x) (number y) t), λ e. eq-eqb (number x) (number y) (ap number e))

pub equal_residues : {p : ℕ} (x y : Residue p) → (nat_eq x.value y.value ≡ true) ↔ (x ≡ y)
equal_residues {p} = equal_by (λ (x : Residue p). x.value) by_value

pub found : {p : ℕ} (x : Residue p) → below_p p x.value ≡ Some x
found {p} x = if_passes (ltb x.value p) _ x (λ e. by_value _ _ refl) (lt-ltb x.value p x.below)

pub not_found : (p n : ℕ) → p ≤ n → below_p p n ≡ None
not_found p n h = if_fails (ltb n p) _ (le-ltb n p h)

pub residue_numbers : {p : ℕ} (w : ℕ) → p ≤ 256 ^ w → Numbers {X = Residue p} w (λ x. x.value) (below_p p)
residue_numbers {p} w h = record {
  fits = λ x. (let b = x.below in omega arith);
  finds = found;
  only = λ n x e. ap (λ (r : Residue p). r.value) (passed_from (ltb n p) _ x e).1;
}
