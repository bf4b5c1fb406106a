-- The powers of the numbers modulo 65,537. Assumes nothing.
use Rattle.std.specs.Prelude.{◌≡◌, ℕ, zero, suc, ◌+◌, ◌-◌, ◌*◌, ◌/◌, ◌%◌, ◌^◌, ◌<◌, ◌≤◌, nat_eq, nat_lt}
use Rattle.std.proofs.Common.{sym, ap, ◌∙◌, inl, inr, add_comm, add-mul, mod-lt, mul_comm, mul-le-mul_right, mul-one, mul-zero, not-suc-le-zero, pos_of_ne-zero, pow-suc, arith, eqb→eq, ltb→lt, pow-add}
use Rattle.std.proofs.Math.Nat.{add-mul-mod_self_left, mod-add-div, mul-mod_left}
use Rattle.std.proofs.lemmas.Bool.{cases_eq, cases_lt}
use Rattle.algebra.proofs.Tested.{below}
use Rattle.algebra.specs.Powers.{mul-mod-mod, pow-mod, mul-pow, pow-mul}

-- Up to 256, x^65536 is 1: tested at each.
small : (x : ℕ) → 0 < x → x ≤ 256 → x ^ 65536 % 65537 ≡ 1
small x h b =
    let back : suc (x - 1) ≡ x = omega arith in
    let test : (x ^ 256 % 65537) ^ 256 % 65537 ≡ 1 = rw back at (eqb→eq _ 1 (below (λ n. nat_eq ((suc n ^ 256 % 65537) ^ 256 % 65537) 1) 256 tt (x - 1) (omega arith))) in
    ap (λ t. t % 65537) (pow-mul x 256 256) ∙ sym (pow-mod (x ^ 256) 65537 256) ∙ test

-- None of 2 to 257 divides 65,537: tested at each.
undivided : (q : ℕ) → 2 ≤ q → q ≤ 257 → 0 < 65537 % q
undivided q h b =
    let back : (q - 2) + 2 ≡ q = omega arith in
    rw back at (ltb→lt 0 _ (below (λ n. nat_lt 0 (65537 % (n + 2))) 256 tt (q - 2) (omega arith)))

-- What two numbers that add up to m leave modulo m has the same square, and so the same even powers.
same_square : (m u r : ℕ) → u + r ≡ m → u * u % m ≡ r * r % m
same_square m u r e =
    let left : m * r ≡ u * r + r * r = ap (λ t. t * r) (sym e) ∙ add-mul u r r in
    let right : m * u ≡ u * u + u * r = ap (λ t. t * u) (sym e) ∙ add-mul u r u ∙ ap (λ t. u * u + t) (mul_comm r u) in
    let whole : u * u + m * r ≡ r * r + m * u = omega (arith, left, right) in
    sym (add-mul-mod_self_left (u * u) m r) ∙ ap (λ t. t % m) whole ∙ add-mul-mod_self_left (r * r) m u

by_square : (m u k : ℕ) → u ^ (k + k) % m ≡ (u * u % m) ^ k % m
by_square m u k = ap (λ t. t % m) (pow-add u k k ∙ sym (mul-pow u u k)) ∙ sym (pow-mod (u * u) m k)

-- Above 256, what holds of the quotient and the rest of 65,537 by x, which are smaller, holds of x: the quotient times x is opposite to the rest.
module _ (x : ℕ) (large : 256 < x) (b : x < 65537) where
  abbrev q : ℕ
  q = 65537 / x

  abbrev r : ℕ
  r = 65537 % x

  whole : x * q + r ≡ 65537
  whole = add_comm (x * q) r ∙ mod-add-div 65537 x

  rest_below : r < x
  rest_below = mod-lt 65537 (omega arith)

  quotient_small : q ≤ 255
  quotient_small = let h : 257 * q ≤ x * q = mul-le-mul_right q large in omega (arith, h, whole)

  quotient_some : 0 < q
  quotient_some = pos_of_ne-zero (λ e. let none : x * q ≡ 0 = ap (λ t. x * t) e ∙ mul-zero x in let w = whole in let l = rest_below in omega (arith, none, w, l, b))

  quotient_more : r ≡ 0 → 2 ≤ q
  quotient_more e = elim (cases_eq q 1) [
    | inl one ↦ absurd (let all : x * q ≡ x = ap (λ t. x * t) one ∙ mul-one x in omega (arith, all, e, whole, b))
    | inr other ↦ omega (arith, other, quotient_some)
  ]

  rest_some : 0 < r
  rest_some = pos_of_ne-zero (λ e.
      let product : 65537 ≡ x * q = omega (arith, e, whole) in
      let divided : 65537 % q ≡ 0 = ap (λ t. t % q) product ∙ mul-mod_left x q in
      let not = undivided q (quotient_more e) (omega (arith, quotient_small)) in
      omega (arith, divided, not))

  descends : q ^ 65536 % 65537 ≡ 1 → r ^ 65536 % 65537 ≡ 1 → x ^ 65536 % 65537 ≡ 1
  descends of_q of_r =
      ap (λ t. t % 65537) (sym (mul-one (x ^ 65536))) ∙ ap (λ t. x ^ 65536 * t % 65537) (sym of_q) ∙ mul-mod-mod (x ^ 65536) (q ^ 65536) 65537
      ∙ ap (λ t. t % 65537) (sym (mul-pow x q 65536)) ∙ by_square 65537 (x * q) 32768 ∙ ap (λ t. t ^ 32768 % 65537) (same_square 65537 (x * q) r whole)
      ∙ sym (by_square 65537 r 32768) ∙ of_r

-- x^65536 is 1 for each x but zero.
order : (n x : ℕ) → x < n → 0 < x → x < 65537 → x ^ 65536 % 65537 ≡ 1
order zero x h pos b = absurd (not-suc-le-zero h)
order (suc n) x h pos b = elim (cases_lt 256 x) [
  | inl large ↦
      (let s = quotient_small x large b in
      let l = rest_below x large b in
      descends x large b (order n (65537 / x) (omega arith) (quotient_some x large b) (omega arith)) (order n (65537 % x) (omega arith) (rest_some x large b) (omega arith)))
  | inr low ↦ small x pos low
]

pub inverts : (x : ℕ) → 0 < x → x < 65537 → (x * (x ^ 65535 % 65537)) % 65537 ≡ 1
inverts x h b = mul-mod-mod x (x ^ 65535) 65537 ∙ ap (λ t. t % 65537) (mul_comm x (x ^ 65535) ∙ sym (pow-suc x 65535)) ∙ order 65537 x b h b
