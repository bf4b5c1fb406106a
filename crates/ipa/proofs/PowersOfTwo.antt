-- Which numbers are powers of two. Assumes nothing.
use Rattle.std.proofs.Common.{◌≡◌, ℕ, zero, suc, ◌*◌, ◌^◌, ◌<◌, ◌≤◌, true, false, eqb, sym, refl, ap, ◌∙◌, inl, inr, pow-suc, arith, pow_mono}
use Rattle.std.proofs.Math.Pow.{pow-lt}
use Rattle.std.proofs.lemmas.Bool.{eq-eqb, ne_eqb, or_from, or_left, or_right, cases_order}
use Rattle.ipa.specs.Claiming.{power_below}

pub power_true : (k n j : ℕ) → j < k → 2 ^ j ≡ n → power_below k n ≡ true
unfolding power_below
power_true zero n j h e = absurd (omega arith)
power_true (suc k) n j h e = elim (cases_order j k) [
  | inl same ↦ or_left (eqb (2 ^ k) n) (power_below k n) (eq-eqb (2 ^ k) n (ap (λ t. 2 ^ t) (sym same) ∙ e))
  | inr other ↦ elim other [
    | inl less ↦ or_right (eqb (2 ^ k) n) (power_below k n) (power_true k n j less e)
    | inr more ↦ absurd (omega arith)
  ]
]

pub power_false : (k n : ℕ) → ((j : ℕ) → 2 ^ j ≡ n → ⊥) → power_below k n ≡ false
unfolding power_below
power_false zero n none = refl
power_false (suc k) n none = or_from (eqb (2 ^ k) n) (power_below k n) (ne_eqb (2 ^ k) n (none k)) (power_false k n none)

-- between 2^k and 2^(k + 1) there is none
pub no_power : (k n j : ℕ) → 2 ^ k ≤ n → n < 2 * 2 ^ k → (2 ^ k ≡ n → ⊥) → 2 ^ j ≡ n → ⊥
no_power k n j low high other e = elim (cases_order j k) [
  | inl same ↦ other (ap (λ t. 2 ^ t) (sym same) ∙ e)
  | inr apart ↦ elim apart [
    | inl less ↦ (let below : 2 ^ j < 2 ^ k = pow-lt less in omega arith)
    | inr more ↦ (let above : 2 ^ suc k ≤ 2 ^ j = pow_mono more in omega (arith, pow-suc 2 k))
  ]
]
