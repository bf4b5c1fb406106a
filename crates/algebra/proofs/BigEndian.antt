-- Digits in base 256, and the laws of an encoding by number. Assumes nothing.
use Rattle.std.proofs.Common.{◌≡◌, ℕ, zero, suc, ◌+◌, ◌*◌, ◌/◌, ◌%◌, ◌^◌, ◌<◌, Bool, true, false, cond, eqb, List, [], ◌∷◌, ◌++◌, length, sym, refl, ap, ◌∙◌, div-lt_iff_lt-mul, pow-suc, add-one, arith, lit<, length-append, Option, None, Some}
use Rattle.std.proofs.Math.Nat.{pow-zero, mod-add-div}
use Rattle.std.proofs.lemmas.List.{take_all}
use Rattle.std.proofs.lemmas.Bool.{eqb-true, eq-eqb, and_parts, and_from, cond-true}
use Rattle.algebra.specs.Codec.{Codec, IsCodec}
use Rattle.algebra.specs.Numbered.{Digits, big_endian, number_after, same_bytes, by_number, if_passed}

pub same_bytes_refl : (xs : List ℕ) → same_bytes xs xs ≡ true
same_bytes_refl [] = refl
same_bytes_refl (x ∷ xs) = and_from (eqb x x) (same_bytes xs xs) (eq-eqb x x refl) (same_bytes_refl xs)

pub same_bytes_true : (xs ys : List ℕ) → same_bytes xs ys ≡ true → xs ≡ ys
same_bytes_true [] [] e = refl
same_bytes_true [] (y ∷ ys) e = cc
same_bytes_true (x ∷ xs) [] e = cc
same_bytes_true (x ∷ xs) (y ∷ ys) e =
    let both = and_parts (eqb x y) (same_bytes xs ys) e in
    let head = eqb-true x y both.0 in
    let tail = same_bytes_true xs ys both.1 in
    cc

pub length_big_endian : (w n : ℕ) → length (big_endian w n) ≡ w
length_big_endian zero n = refl
length_big_endian (suc w) n = length-append (big_endian w (n / 256)) (n % 256 ∷ []) ∙ ap (λ t. t + 1) (length_big_endian w (n / 256)) ∙ add-one w

number_push : (high : ℕ) (xs : List ℕ) (b : ℕ) → number_after high (xs ++ (b ∷ [])) ≡ number_after high xs * 256 + b
number_push high [] b = refl
number_push high (x ∷ xs) b = number_push (high * 256 + x) xs b

number_big_endian : (w n : ℕ) → n < 256 ^ w → number_after 0 (big_endian w n) ≡ n
number_big_endian zero n h = let one = pow-zero 256 in let k : n < 1 = rw one at h in omega arith
number_big_endian (suc w) n h =
    let k : n < 256 ^ w * 256 = rw (pow-suc 256 w) at h in
    let fits : n / 256 < 256 ^ w = (div-lt_iff_lt-mul (lit< tt)).1 k in
    number_push 0 (big_endian w (n / 256)) (n % 256) ∙ ap (λ t. t * 256 + n % 256) (number_big_endian w (n / 256) fits)
    ∙ (let e = mod-add-div n 256 in omega (arith, e))

-- What the numbers of elements owe, for an encoding by number in `w` bytes.
pub record Numbers {X : Type 0} (w : ℕ) (number : X → ℕ) (find : ℕ → Option X) : Type 0 where
  pub fits : (x : X) → number x < 256 ^ w
  pub finds : (x : X) → find (number x) ≡ Some x
  pub only : (n : ℕ) (x : X) → find n ≡ Some x → n ≡ number x

module _ {X : Type 0} (w : ℕ) (number : X → ℕ) (find : ℕ → Option X) where
  decode_at : (n : ℕ) → n < 256 ^ w → (by_number w number find).decode (big_endian w n) ≡ find n
  decode_at n h = rw (number_big_endian w n h) (cond-true _ (find n) None (same_bytes_refl (big_endian w n)))

  decoded : Numbers w number find → (bytes : List ℕ) (x : X) (b : Bool) → same_bytes (big_endian w (number_after 0 bytes)) bytes ≡ b
      → cond b (find (number_after 0 bytes)) None ≡ Some x → bytes ≡ big_endian w (number x)
  decoded l bytes x true same e = sym (same_bytes_true _ _ same) ∙ ap (big_endian w) (l.only (number_after 0 bytes) x e)
  decoded l bytes x false same e = cc

  pub numbers_encode : Numbers w number find → IsCodec (by_number w number find)
  numbers_encode l = record {
    sized = λ x. length_big_endian w (number x);
    back = λ x. decode_at (number x) (l.fits x) ∙ l.finds x;
    only = λ x bytes e. decoded l bytes x _ refl e;
  }

  -- Decoding bytes that are the digits of n: the element that n is, if any.
  pub decode_digits : (bytes : List ℕ) (n : ℕ) → length bytes ≡ w → Digits w bytes n → (by_number w number find).decode bytes ≡ find n
  decode_digits bytes n long d = ap (by_number w number find).decode (sym (take_all w bytes (omega arith)) ∙ d.digits) ∙ decode_at n d.fits

-- Bytes of another length are no element.
module _ {X : Type 0} (c : Codec X) (laws : IsCodec c) (bytes : List ℕ) (other : ¬ (length bytes ≡ c.size)) where
  not_decoded : (found : Option X) → c.decode bytes ≡ found → found ≡ None
  not_decoded (Some x) e = absurd (other (ap length (laws.only x bytes e) ∙ laws.sized x))
  not_decoded None e = refl

  pub decode_other : c.decode bytes ≡ None
  decode_other = not_decoded (c.decode bytes) refl

pub if_passes : {X : Type 0} (b : Bool) (f : b ≡ true → X) (x : X) → ((p : b ≡ true) → f p ≡ x) → b ≡ true → if_passed b f ≡ Some x
if_passes true f x same e = ap Some (same refl)
if_passes false f x same e = cc

pub if_fails : {X : Type 0} (b : Bool) (f : b ≡ true → X) → b ≡ false → if_passed b f ≡ None
if_fails true f e = cc
if_fails false f e = refl

pub passed_from : {X : Type 0} (b : Bool) (f : b ≡ true → X) (x : X) → if_passed b f ≡ Some x → (p : b ≡ true) × (f p ≡ x)
passed_from true f x e = (refl, cc)
passed_from false f x e = cc
