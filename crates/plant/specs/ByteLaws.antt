-- The laws of the field of 256 elements and of its encoding, and its product as a program computes it. Assumes nothing.
use Rattle.std.specs.Prelude.{◌≡◌, ℕ, zero, suc, ◌+◌, ◌-◌, ◌*◌, ◌/◌, ◌%◌, ◌^◌, ◌<◌, ◌≤◌, Bool, true, false, cond, List, [], ◌∷◌, length, ◌==◌, ◌≢◌, nat_eq, refl}
use Rattle.std.proofs.Common.{sym, ap, ap₂, ◌∙◌, subst, mod-lt, mod-eq_of_lt, pow-suc, pos_of_ne-zero, arith, eqb→eq, lit<, lit≤}
use Rattle.std.specs.Int.Bits.{bit_xor, xor_zero_r, xor_assoc}
use Rattle.std.proofs.lemmas.Nat.{xor_shr, xor_mod, xor_lt}
use Rattle.std.proofs.lemmas.Bool.{eq-eqb, ne_eqb}
use Rattle.algebra.specs.Structures.{IsField}
use Rattle.algebra.specs.Codec.{IsCodec}
use Rattle.algebra.proofs.BigEndian.{numbers_encode}
use Rattle.algebra.proofs.Residues.{by_value, residue_numbers}
use Rattle.algebra.proofs.Tested.{below}
use Rattle.plant.specs.ByteField.{Byte, byte, xor, plus, scaled, product, times_x, remainder, bits, number, coefficients, sum, times, squares, inverse, byte_field, byte_codec}
use Rattle.plant.specs.Polynomials.{plus_comm, plus_assoc, plus_self, act, act_x, act-plus, act-act, act_comm, length-act, remainder_product}

-- Numbers and their bits

odd_digit : (b : Bool) (m : ℕ) → ((cond b 1 0 + m * 2) % 2 == 1) ≡ b
odd_digit true m = eq-eqb _ 1 (omega arith)
odd_digit false m = ne_eqb _ 1 (omega arith)

half_digit : (b : Bool) (m : ℕ) → (cond b 1 0 + m * 2) / 2 ≡ m
half_digit true m = omega arith
half_digit false m = omega arith

bits-number : (p : List Bool) → bits (length p) (number p) ≡ p
bits-number [] = refl
bits-number (b ∷ p) = ap₂ (λ a r. a ∷ r) (odd_digit b (number p)) (ap (bits (length p)) (half_digit b (number p)) ∙ bits-number p)

number_below : (p : List Bool) → number p < 2 ^ length p
number_below [] = lit< tt
number_below (true ∷ p) = let h = number_below p in rw (pow-suc 2 (length p)) (omega arith)
number_below (false ∷ p) = let h = number_below p in rw (pow-suc 2 (length p)) (omega arith)

bit_number : (t : ℕ) → t < 2 → cond (t == 1) 1 0 ≡ t
bit_number zero h = refl
bit_number (suc zero) h = refl
bit_number (suc (suc t)) h = absurd (omega arith)

number-bits : (w n : ℕ) → n < 2 ^ w → number (bits w n) ≡ n
number-bits zero n h = omega arith
number-bits (suc w) n h =
    let k : n < 2 ^ w * 2 = rw (pow-suc 2 w) at h in
    ap₂ (λ a b. a + b * 2) (bit_number (n % 2) (mod-lt n (lit< tt))) (number-bits w (n / 2) (omega arith)) ∙ (omega arith)

bit_of_xor : (a b : ℕ) → a < 2 → b < 2 → (bit_xor a b == 1) ≡ xor (a == 1) (b == 1)
bit_of_xor zero zero h k = refl
bit_of_xor zero (suc zero) h k = refl
bit_of_xor (suc zero) zero h k = refl
bit_of_xor (suc zero) (suc zero) h k = refl
bit_of_xor zero (suc (suc b)) h k = absurd (omega arith)
bit_of_xor (suc zero) (suc (suc b)) h k = absurd (omega arith)
bit_of_xor (suc (suc a)) b h k = absurd (omega arith)

bits-xor : (w a b : ℕ) → bits w (bit_xor a b) ≡ plus (bits w a) (bits w b)
bits-xor zero a b = refl
bits-xor (suc w) a b =
    ap₂ (λ c r. c ∷ r)
    (ap (λ t. nat_eq t 1) (xor_mod a b 1) ∙ bit_of_xor (a % 2) (b % 2) (mod-lt a (lit< tt)) (mod-lt b (lit< tt)))
    (ap (bits w) (xor_shr a b 1) ∙ bits-xor w (a / 2) (b / 2))

-- Elements and their coefficients

pub byte_of : (n : ℕ) (x : Byte) → n ≡ x.value → byte n ≡ x
byte_of n x e = by_value _ _ (ap (λ t. t % 256) e ∙ mod-eq_of_lt x.below)

number-coefficients : (x : Byte) → number (coefficients x) ≡ x.value
number-coefficients x = number-bits 8 x.value x.below

by_coefficients : (x y : Byte) → coefficients x ≡ coefficients y → x ≡ y
by_coefficients x y e = by_value x y (sym (number-coefficients x) ∙ ap number e ∙ number-coefficients y)

bits_back : (p : List Bool) → length p ≡ 8 → bits 8 (number p % 256) ≡ p
bits_back p e =
    let small : number p < 256 = subst (λ n. number p < 2 ^ n) e (number_below p) in
    ap (bits 8) (mod-eq_of_lt small) ∙ ap (λ n. bits n (number p)) (sym e) ∙ bits-number p

of_sum : (x y : Byte) → coefficients (sum x y) ≡ plus (coefficients x) (coefficients y)
unfolding sum
of_sum x y = bits_back (plus (coefficients x) (coefficients y)) refl

pub sum_xor : (a b : ℕ) → byte (bit_xor a b) ≡ sum (byte a) (byte b)
sum_xor a b = by_coefficients _ _ (ap (bits 8) (xor_mod a b 8) ∙ bits-xor 8 (a % 256) (b % 256) ∙ sym (of_sum (byte a) (byte b)))

bits_product : (p q : List Bool) → remainder q ≡ q → length q ≤ 8 → bits 8 (number (remainder (product p q)) % 256) ≡ act p q
bits_product p q e h =
    let reduces : remainder (product p q) ≡ act p q = remainder_product p q ∙ ap (act p) e in
    bits_back (remainder (product p q)) (ap length reduces ∙ length-act p q h) ∙ reduces

of_times : (x y : Byte) → coefficients (times x y) ≡ act (coefficients x) (coefficients y)
unfolding times
of_times x y = bits_product (coefficients x) (coefficients y) refl (lit≤ tt)

-- The product as a program computes it

-- x times n
abbrev pub next : ℕ → ℕ
next n = bit_xor (n * 2 % 256) (n / 128 * 27)

-- The last w bits of a, times b.
unfoldable pub quick : ℕ → ℕ → ℕ → ℕ
quick zero a b = 0
quick (suc w) a b = bit_xor (cond (a % 2 == 1) b 0) (quick w (a / 2) (next b))

-- tested at each byte
next_is : (n : ℕ) → n < 256 → next n ≡ number (times_x (bits 8 n))
next_is n h = eqb→eq _ _ (below (λ n. nat_eq (next n) (number (times_x (bits 8 n)))) 256 tt n h)

bits_next : (n : ℕ) → n < 256 → bits 8 (next n) ≡ times_x (bits 8 n)
bits_next n h = ap (bits 8) (next_is n h) ∙ bits-number (times_x (bits 8 n))

next_below : (n : ℕ) → n < 256 → next n < 256
next_below n h = subst (λ t. t < 256) (sym (next_is n h)) (number_below (times_x (bits 8 n)))

bits_cond : (c : Bool) (b : ℕ) → bits 8 (cond c b 0) ≡ scaled c (bits 8 b)
bits_cond true b = refl
bits_cond false b = refl

cond_below : (c : Bool) (b : ℕ) → b < 256 → cond c b 0 < 256
cond_below true b h = h
cond_below false b h = lit< tt

quick_below : (w a b : ℕ) → b < 256 → quick w a b < 256
unfolding quick
quick_below zero a b h = lit< tt
quick_below (suc w) a b h = xor_lt 8 _ _ (cond_below _ b h) (quick_below w (a / 2) (next b) (next_below b h))

bits_quick : (w a b : ℕ) → b < 256 → bits 8 (quick w a b) ≡ act (bits w a) (bits 8 b)
unfolding quick
bits_quick zero a b h = refl
bits_quick (suc w) a b h =
    let half = bits w (a / 2) in
    bits-xor 8 (cond (a % 2 == 1) b 0) (quick w (a / 2) (next b))
    ∙ ap₂ plus (bits_cond (a % 2 == 1) b)
    (bits_quick w (a / 2) (next b) (next_below b h) ∙ ap (act half) (bits_next b h) ∙ act_x half (bits 8 b))

times_quick : (x y : Byte) → (times x y).value ≡ quick 8 x.value y.value
times_quick x y =
    sym (number-coefficients (times x y)) ∙ ap number (of_times x y ∙ sym (bits_quick 8 x.value y.value y.below))
    ∙ number-bits 8 (quick 8 x.value y.value) (quick_below 8 x.value y.value y.below)

pub times_bytes : (a b : ℕ) → a < 256 → b < 256 → (times (byte a) (byte b)).value ≡ quick 8 a b
times_bytes a b h k = times_quick (byte a) (byte b) ∙ ap₂ (quick 8) (mod-eq_of_lt h) (mod-eq_of_lt k)

-- x is 2
pub times_next : (n : ℕ) → n < 256 → (times (byte 2) (byte n)).value ≡ next n
unfolding quick
times_next n h = times_bytes 2 n (lit< tt) h ∙ xor_zero_r (next n)

-- The sum so far, and what is left
pub quick_odd : (w r a b : ℕ) → a % 2 ≡ 1 → bit_xor (bit_xor r b) (quick w (a / 2) (next b)) ≡ bit_xor r (quick (suc w) a b)
unfolding quick
quick_odd w r a b e =
    xor_assoc r b (quick w (a / 2) (next b)) ∙ ap (λ c. bit_xor r (bit_xor (cond c b 0) (quick w (a / 2) (next b)))) (sym (eq-eqb (a % 2) 1 e))

pub quick_even : (w r a b : ℕ) → (a % 2 ≢ 1) → bit_xor r (quick w (a / 2) (next b)) ≡ bit_xor r (quick (suc w) a b)
unfolding quick
quick_even w r a b e = ap (λ c. bit_xor r (bit_xor (cond c b 0) (quick w (a / 2) (next b)))) (sym (ne_eqb (a % 2) 1 e))

pub quick_none : (r a b : ℕ) → bit_xor r (quick 0 a b) ≡ r
unfolding quick
quick_none r a b = xor_zero_r r

-- The laws

times_comm : (x y : Byte) → times x y ≡ times y x
times_comm x y = by_coefficients _ _ (of_times x y ∙ act_comm (coefficients x) (coefficients y) refl refl ∙ sym (of_times y x))

-- tested at each byte
times_one : (x : Byte) → times x (byte 1) ≡ x
unfolding quick
times_one x = by_value _ _ (times_quick x (byte 1) ∙ eqb→eq _ _ (below (λ n. nat_eq (quick 8 n 1) n) 256 tt x.value x.below))

-- x^2 x^4 .. x^(2^k) as a program computes it
abbrev quick_squares : ℕ → ℕ → ℕ
quick_squares zero n = 1
quick_squares (suc k) n = let square = quick 8 n n in quick 8 square (quick_squares k square)

squares_quick : (k : ℕ) (x : Byte) → (squares k x).value ≡ quick_squares k x.value
squares_quick zero x = refl
squares_quick (suc k) x =
    let square = times x x in
    times_quick square (squares k square) ∙ ap (quick 8 square.value) (squares_quick k square)
    ∙ ap (λ n. quick 8 n (quick_squares k n)) (times_quick x x)

-- tested at each byte but zero
times_inverse : (x : Byte) → 0 < x.value → times x (inverse x) ≡ byte 1
unfolding quick inverse
times_inverse x h =
    let b = x.below in
    let back : suc (x.value - 1) ≡ x.value = omega arith in
    by_value _ _
    (times_quick x (inverse x) ∙ ap (quick 8 x.value) (squares_quick 7 x)
    ∙ rw back at (eqb→eq _ 1 (below (λ n. nat_eq (quick 8 (suc n) (quick_squares 7 (suc n))) 1) 255 tt (x.value - 1) (omega arith))))

pub byte_laws : IsField byte_field
unfolding quick inverse
byte_laws = record {
  add_assoc = λ x y z. by_coefficients _ _ (
      of_sum (sum x y) z ∙ ap (λ p. plus p (coefficients z)) (of_sum x y) ∙ plus_assoc (coefficients x) (coefficients y) (coefficients z)
      ∙ sym (of_sum x (sum y z) ∙ ap (plus (coefficients x)) (of_sum y z)));
  add_comm = λ x y. by_coefficients _ _ (of_sum x y ∙ plus_comm (coefficients x) (coefficients y) ∙ sym (of_sum y x));
  add-zero = λ x. by_coefficients _ _ (of_sum x (byte 0));
  add-neg = λ x. by_coefficients _ _ (of_sum x x ∙ plus_self (coefficients x));
  mul_assoc = λ x y z.
      times_comm (times x y) z
      ∙ by_coefficients _ _ (
      of_times z (times x y) ∙ ap (act (coefficients z)) (of_times x y) ∙ act-act (coefficients z) (coefficients x) (coefficients y)
      ∙ sym (of_times x (times z y) ∙ ap (act (coefficients x)) (of_times z y)))
      ∙ ap (times x) (times_comm z y);
  mul_comm = times_comm;
  mul-one = times_one;
  mul-add = λ x y z. by_coefficients _ _ (
      of_times x (sum y z) ∙ ap (act (coefficients x)) (of_sum y z) ∙ act-plus (coefficients x) (coefficients y) (coefficients z)
      ∙ sym (of_sum (times x y) (times x z) ∙ ap₂ plus (of_times x y) (of_times x z)));
  mul-inv = λ x nonzero. times_inverse x (pos_of_ne-zero (λ e. nonzero (by_value _ _ e)));
  inv-zero = by_value _ _ (squares_quick 7 (byte 0));
  one-zero = λ e. let z : ◌≡◌ {A = ℕ} 1 0 = ap (λ r. r.value) e in omega arith;
}

pub byte_encodes : IsCodec byte_codec
byte_encodes = numbers_encode 1 (λ (x : Byte). x.value) _ (residue_numbers 1 (lit≤ tt))
