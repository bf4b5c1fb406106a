-- Powers modulo q, and the numbers of which one power is 1. Assumes nothing.
use Rattle.std.specs.Prelude.{◌≡◌, ℕ, zero, suc, ◌+◌, ◌*◌, ◌/◌, ◌%◌, ◌^◌}
use Rattle.std.proofs.Common.{sym, ap, ◌∙◌, pow-suc, mul_assoc, mul_comm, mul-one, mul-suc, mul-zero, add-mul, pow-add}
use Rattle.std.proofs.Math.Nat.{pow-zero, mod-add-div, add-mul-mod_self_left}

-- A factor may be reduced first.
pub mod-mul-mod : (n k m : ℕ) → (n % m * k) % m ≡ (n * k) % m
mod-mul-mod n k m =
    let whole : n * k ≡ n % m * k + m * (n / m * k) = ap (λ t. t * k) (sym (mod-add-div n m)) ∙ add-mul (n % m) (m * (n / m)) k ∙ ap (λ t. n % m * k + t) (mul_assoc m (n / m) k) in
    sym (ap (λ t. t % m) whole ∙ add-mul-mod_self_left (n % m * k) m (n / m * k))

pub mul-mod-mod : (n k m : ℕ) → (n * (k % m)) % m ≡ (n * k) % m
mul-mod-mod n k m = ap (λ t. t % m) (mul_comm n (k % m)) ∙ mod-mul-mod k n m ∙ ap (λ t. t % m) (mul_comm k n)

pub both_mod : (a b q : ℕ) → ((a % q) * (b % q)) % q ≡ (a * b) % q
both_mod a b q = mod-mul-mod a (b % q) q ∙ mul-mod-mod a b q

-- A base may be reduced first.
pub pow-mod : (n q k : ℕ) → ((n % q) ^ k) % q ≡ (n ^ k) % q
pow-mod n q zero = ap (λ t. t % q) (pow-zero (n % q) ∙ sym (pow-zero n))
pow-mod n q (suc k) =
    ap (λ t. t % q) (pow-suc (n % q) k) ∙ sym (mod-mul-mod ((n % q) ^ k) (n % q) q) ∙ ap (λ t. (t * (n % q)) % q) (pow-mod n q k)
    ∙ both_mod (n ^ k) n q ∙ ap (λ t. t % q) (sym (pow-suc n k))

pub one-pow : (k : ℕ) → 1 ^ k ≡ 1
one-pow zero = pow-zero 1
one-pow (suc k) = pow-suc 1 k ∙ ap (λ t. t * 1) (one-pow k)

swap : (a b c d : ℕ) → (a * b) * (c * d) ≡ (a * c) * (b * d)
swap a b c d = mul_assoc a b (c * d) ∙ ap (λ t. a * t) (sym (mul_assoc b c d) ∙ ap (λ t. t * d) (mul_comm b c) ∙ mul_assoc c b d) ∙ sym (mul_assoc a c (b * d))

pub mul-pow : (a b k : ℕ) → (a * b) ^ k ≡ a ^ k * b ^ k
mul-pow a b zero = pow-zero (a * b) ∙ sym (ap (λ t. t * b ^ zero) (pow-zero a) ∙ ap (λ t. 1 * t) (pow-zero b))
mul-pow a b (suc k) = pow-suc (a * b) k ∙ ap (λ t. t * (a * b)) (mul-pow a b k) ∙ swap (a ^ k) (b ^ k) a b ∙ sym (ap (λ t. t * b ^ suc k) (pow-suc a k) ∙ ap (λ t. (a ^ k * a) * t) (pow-suc b k))

pub pow-mul : (n i j : ℕ) → n ^ (i * j) ≡ (n ^ i) ^ j
pow-mul n i zero = ap (λ t. n ^ t) (mul-zero i) ∙ pow-zero n ∙ sym (pow-zero (n ^ i))
pow-mul n i (suc j) = ap (λ t. n ^ t) (mul-suc i j) ∙ pow-add n (i * j) i ∙ ap (λ t. t * n ^ i) (pow-mul n i j) ∙ sym (pow-suc (n ^ i) j)

-- An exponent counts modulo the order.
pub pow_order : (n q p k : ℕ) → (n ^ p) % q ≡ 1 → 1 % q ≡ 1 → (n ^ (k % p)) % q ≡ (n ^ k) % q
pow_order n q p k order one =
    let once : (n ^ (p * (k / p))) % q ≡ 1 = ap (λ t. t % q) (pow-mul n p (k / p)) ∙ sym (pow-mod (n ^ p) q (k / p)) ∙ ap (λ t. (t ^ (k / p)) % q) order ∙ ap (λ t. t % q) (one-pow (k / p)) ∙ one in
    let whole : n ^ k ≡ n ^ (k % p) * n ^ (p * (k / p)) = ap (λ t. n ^ t) (sym (mod-add-div k p)) ∙ pow-add n (k % p) (p * (k / p)) in
    sym (ap (λ t. t % q) whole ∙ sym (mul-mod-mod (n ^ (k % p)) (n ^ (p * (k / p))) q) ∙ ap (λ t. (n ^ (k % p) * t) % q) once ∙ ap (λ t. t % q) (mul-one (n ^ (k % p))))

-- Where the powers of p of two numbers are 1 modulo q, so is that of their product, and of each power of one.
pub product_unit : (q p a b : ℕ) → 1 % q ≡ 1 → a ^ p % q ≡ 1 → b ^ p % q ≡ 1 → (a * b % q) ^ p % q ≡ 1
product_unit q p a b one u v =
    pow-mod (a * b) q p ∙ ap (λ t. t % q) (mul-pow a b p) ∙ sym (both_mod (a ^ p) (b ^ p) q) ∙ ap (λ t. t * (b ^ p % q) % q) u ∙ ap (λ t. 1 * t % q) v ∙ one

pub power_unit : (q p a s : ℕ) → 1 % q ≡ 1 → a ^ p % q ≡ 1 → (a ^ s % q) ^ p % q ≡ 1
power_unit q p a s one u =
    pow-mod (a ^ s) q p ∙ ap (λ t. t % q) (sym (pow-mul a s p) ∙ ap (λ t. a ^ t) (mul_comm s p) ∙ pow-mul a p s)
    ∙ sym (pow-mod (a ^ p) q s) ∙ ap (λ t. t ^ s % q) u ∙ ap (λ t. t % q) (one-pow s) ∙ one
