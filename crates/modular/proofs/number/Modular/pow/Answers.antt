use Rattle.std.proofs.Common.{◌≡◌, ℕ, ◌+◌, ◌*◌, ◌/◌, ◌%◌, ◌^◌, sym, ap, ap₂, ◌∙◌, mul_assoc, mul_comm, pow-suc, pow-add, add-one, arith}
use Rattle.algebra.specs.Powers.{mod-mul-mod, mul-mod-mod, pow-mod, mul-pow}
use Rattle.algebra.specs.Modular.{Residue}
use Rattle.modular.proofs.number.Modular.pow.Goals as goal
use Rattle.modular.proofs.number.Modular.pow.Goals.{then-bits-eq1, else-bits-eq1}

-- One bit of an exponent, lowest first: p s^b stays the same modulo q where s is squared and b halved.
even_step : (q p s k : ℕ) → (p * (s * s % q) ^ k) % q ≡ (p * s ^ (k + k)) % q
even_step q p s k =
    sym (mul-mod-mod p ((s * s % q) ^ k) q)
    ∙ ap (λ t. p * t % q) (pow-mod (s * s) q k ∙ ap (λ t. t % q) (mul-pow s s k ∙ sym (pow-add s k k)))
    ∙ mul-mod-mod p (s ^ (k + k)) q

odd_step : (q p s k : ℕ) → ((p * s % q) * (s * s % q) ^ k) % q ≡ (p * s ^ (k + k + 1)) % q
odd_step q p s k =
    mod-mul-mod (p * s) ((s * s % q) ^ k) q ∙ even_step q (p * s) s k
    ∙ ap (λ t. t % q) (mul_assoc p s (s ^ (k + k)) ∙ ap (λ t. p * t) (mul_comm s (s ^ (k + k)) ∙ sym (rw (add-one (k + k)) (pow-suc s (k + k)))))

pub loop-bits-preserved : goal.loop-bits-preserved
loop-bits-preserved g c =
    let l = c.loop-bits in
    let q = g.row.P in
    let p = l.product.value in
    let s = l.square.value in
    let k = l.bits / 2 in
    let number = λ (x : Residue q). x.value in
    let next = λ (p s : ℕ). (p * s ^ k) % q in
    elim c.if-bits-eq1.branch [
      | then-bits-eq1 w ↦
          (let odd : k + k + 1 ≡ l.bits = omega (arith, w.if-bits-eq1.true) in
          ap₂ next (ap number w.product-is ∙ w.times-product.ensures) c.times-square.ensures ∙ odd_step q p s k ∙ ap (λ t. (p * s ^ t) % q) odd ∙ l.invariant)
      | else-bits-eq1 w ↦
          (let even : k + k ≡ l.bits = omega (arith, w.if-bits-eq1.false) in
          ap₂ next (ap number w.product-is) c.times-square.ensures ∙ even_step q p s k ∙ ap (λ t. (p * s ^ t) % q) even ∙ l.invariant)
    ]
