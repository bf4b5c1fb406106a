-- Polynomials over the field of two elements: the product modulo x^8 + x^4 + x^3 + x + 1 commutes and is linear. Assumes nothing.
use Rattle.std.specs.Prelude.{◌≡◌, ℕ, zero, suc, ◌≤◌, min, max, Bool, true, false, ◌&&◌, List, [], ◌∷◌, length, take, replicate, slice_index_or, refl}
use Rattle.std.proofs.Common.{sym, ap, ap₂, ◌∙◌, arith, lit≤, length-take}
use Rattle.std.proofs.Math.Nat.{zero-max, max-zero, suc-max-suc}
use Rattle.std.proofs.Math.Bool.{and_comm, and_assoc, and-true, and-false}
use Rattle.std.proofs.lemmas.List.{length-map, take-map}
use Rattle.plant.specs.ByteField.{xor, plus, scaled, product, eighth, times_x, remainder}

xor_comm : (a b : Bool) → xor a b ≡ xor b a
xor_comm true true = refl
xor_comm true false = refl
xor_comm false true = refl
xor_comm false false = refl

xor_assoc : (a b c : Bool) → xor (xor a b) c ≡ xor a (xor b c)
xor_assoc a b false = refl
xor_assoc a false true = refl
xor_assoc true true true = refl
xor_assoc false true true = refl

xor_self : (a : Bool) → xor a a ≡ false
xor_self true = refl
xor_self false = refl

and_xor : (b a c : Bool) → (b && xor a c) ≡ xor (b && a) (b && c)
and_xor true a c = refl
and_xor false a c = refl

xor_and : (a b c : Bool) → (xor a b && c) ≡ xor (a && c) (b && c)
xor_and a false c = refl
xor_and true true true = refl
xor_and true true false = refl
xor_and false true true = refl
xor_and false true false = refl

pub plus_comm : (p q : List Bool) → plus p q ≡ plus q p
plus_comm [] [] = refl
plus_comm [] (b ∷ q) = refl
plus_comm (a ∷ p) [] = refl
plus_comm (a ∷ p) (b ∷ q) = ap₂ (λ c r. c ∷ r) (xor_comm a b) (plus_comm p q)

pub plus_assoc : (p q r : List Bool) → plus (plus p q) r ≡ plus p (plus q r)
plus_assoc [] q r = refl
plus_assoc (a ∷ p) [] r = refl
plus_assoc (a ∷ p) (b ∷ q) [] = refl
plus_assoc (a ∷ p) (b ∷ q) (c ∷ r) = ap₂ (λ d s. d ∷ s) (xor_assoc a b c) (plus_assoc p q r)

-- (p + q) + (r + s) = (p + r) + (q + s)
plus_four : (p q r s : List Bool) → plus (plus p q) (plus r s) ≡ plus (plus p r) (plus q s)
plus_four p q r s =
    plus_assoc p q (plus r s) ∙ ap (plus p) (sym (plus_assoc q r s) ∙ ap (λ t. plus t s) (plus_comm q r) ∙ plus_assoc r q s)
    ∙ sym (plus_assoc p r (plus q s))

pub plus_self : (p : List Bool) → plus p p ≡ replicate (length p) false
plus_self [] = refl
plus_self (a ∷ p) = ap₂ (λ c r. c ∷ r) (xor_self a) (plus_self p)

plus_zeros : (p : List Bool) → plus p (replicate (length p) false) ≡ p
plus_zeros [] = refl
plus_zeros (a ∷ p) = ap (λ r. a ∷ r) (plus_zeros p)

length-plus : (p q : List Bool) → length (plus p q) ≡ max (length p) (length q)
length-plus [] q = sym (zero-max (length q))
length-plus (a ∷ p) [] = sym (max-zero _)
length-plus (a ∷ p) (b ∷ q) = ap suc (length-plus p q) ∙ sym (suc-max-suc (length p) (length q))

scaled_plus : (b : Bool) (p q : List Bool) → scaled b (plus p q) ≡ plus (scaled b p) (scaled b q)
scaled_plus b [] q = refl
scaled_plus b (a ∷ p) [] = refl
scaled_plus b (a ∷ p) (c ∷ q) = ap₂ (λ d s. d ∷ s) (and_xor b a c) (scaled_plus b p q)

scaled_xor : (a b : Bool) (p : List Bool) → scaled (xor a b) p ≡ plus (scaled a p) (scaled b p)
scaled_xor a b [] = refl
scaled_xor a b (c ∷ p) = ap₂ (λ d s. d ∷ s) (xor_and a b c) (scaled_xor a b p)

scaled_and : (a b : Bool) (p : List Bool) → scaled a (scaled b p) ≡ scaled (a && b) p
scaled_and a b [] = refl
scaled_and a b (c ∷ p) = ap₂ (λ d s. d ∷ s) (sym (and_assoc a b c)) (scaled_and a b p)

take_plus : (n : ℕ) (p q : List Bool) → take n (plus p q) ≡ plus (take n p) (take n q)
take_plus zero p q = refl
take_plus (suc n) [] q = refl
take_plus (suc n) (a ∷ p) [] = refl
take_plus (suc n) (a ∷ p) (b ∷ q) = ap (λ r. xor a b ∷ r) (take_plus n p q)

xor_false : (a : Bool) → a ≡ xor false a
xor_false true = refl
xor_false false = refl

get_or-plus : (n : ℕ) (p q : List Bool) → slice_index_or (plus p q) n false ≡ xor (slice_index_or p n false) (slice_index_or q n false)
get_or-plus n [] q = xor_false (slice_index_or q n false)
get_or-plus zero (a ∷ p) [] = refl
get_or-plus (suc n) (a ∷ p) [] = refl
get_or-plus zero (a ∷ p) (b ∷ q) = refl
get_or-plus (suc n) (a ∷ p) (b ∷ q) = get_or-plus n p q

get_or-scaled : (b : Bool) (n : ℕ) (p : List Bool) → slice_index_or (scaled b p) n false ≡ (b && slice_index_or p n false)
get_or-scaled b n [] = sym (and-false b)
get_or-scaled b zero (a ∷ p) = refl
get_or-scaled b (suc n) (a ∷ p) = get_or-scaled b n p

-- What is used of an operation on polynomials: it keeps sums, and commutes with x and with 0 and 1.
record Linear (f : List Bool → List Bool) : Type 0 where
  adds : (p q : List Bool) → f (plus p q) ≡ plus (f p) (f q)
  scales : (b : Bool) (p : List Bool) → f (scaled b p) ≡ scaled b (f p)
  by_x : (p : List Bool) → f (times_x p) ≡ times_x (f p)
  zeros : f (replicate 8 false) ≡ replicate 8 false

x_plus : (p q : List Bool) → times_x (plus p q) ≡ plus (times_x p) (times_x q)
x_plus p q =
    ap₂ (λ r c. plus (false ∷ r) (scaled c eighth)) (take_plus 7 p q) (get_or-plus 7 p q)
    ∙ ap (plus (false ∷ plus (take 7 p) (take 7 q))) (scaled_xor (slice_index_or p 7 false) (slice_index_or q 7 false) eighth)
    ∙ plus_four (false ∷ take 7 p) (false ∷ take 7 q) (scaled (slice_index_or p 7 false) eighth) (scaled (slice_index_or q 7 false) eighth)

x_scaled : (b : Bool) (p : List Bool) → times_x (scaled b p) ≡ scaled b (times_x p)
x_scaled b p =
    ap₂ (λ r c. plus (false ∷ r) (scaled c eighth)) (take-map (λ a. b && a) 7 p) (get_or-scaled b 7 p)
    ∙ ap₂ (λ a r. plus (a ∷ scaled b (take 7 p)) r) (sym (and-false b)) (sym (scaled_and b (slice_index_or p 7 false) eighth))
    ∙ sym (scaled_plus b (false ∷ take 7 p) (scaled (slice_index_or p 7 false) eighth))

x_linear : Linear times_x
x_linear = record { adds = x_plus; scales = x_scaled; by_x = λ p. refl; zeros = refl }

scaled_zeros : (b : Bool) → scaled b (replicate 8 false) ≡ replicate 8 false
scaled_zeros true = refl
scaled_zeros false = refl

scaled_linear : (b : Bool) → Linear (scaled b)
scaled_linear b = record {
  adds = scaled_plus b;
  scales = λ c p. scaled_and b c p ∙ ap (λ d. scaled d p) (and_comm b c) ∙ sym (scaled_and c b p);
  by_x = λ p. sym (x_scaled b p);
  zeros = scaled_zeros b;
}

-- p applied to v, where x goes from v to `times_x v`: what p v leaves, for a v of eight coefficients.
abbrev pub act : List Bool → List Bool → List Bool
act [] v = replicate 8 false
act (b ∷ p) v = plus (scaled b v) (times_x (act p v))

-- p goes through what is linear
act_through : (f : List Bool → List Bool) → Linear f → (p v : List Bool) → act p (f v) ≡ f (act p v)
act_through f l [] v = sym l.zeros
act_through f l (b ∷ p) v =
    ap₂ plus (sym (l.scales b v)) (ap times_x (act_through f l p v) ∙ sym (l.by_x (act p v)))
    ∙ sym (l.adds (scaled b v) (times_x (act p v)))

pub act_x : (p v : List Bool) → act p (times_x v) ≡ times_x (act p v)
act_x = act_through times_x x_linear

pub act-plus : (p v w : List Bool) → act p (plus v w) ≡ plus (act p v) (act p w)
act-plus [] v w = refl
act-plus (b ∷ p) v w =
    ap₂ plus (scaled_plus b v w) (ap times_x (act-plus p v w) ∙ x_plus (act p v) (act p w))
    ∙ plus_four (scaled b v) (scaled b w) (times_x (act p v)) (times_x (act p w))

act_zeros : (p : List Bool) → act p (replicate 8 false) ≡ replicate 8 false
act_zeros [] = refl
act_zeros (b ∷ p) = ap₂ plus (scaled_zeros b) (ap times_x (act_zeros p))

act_linear : (p : List Bool) → Linear (act p)
act_linear p = record { adds = act-plus p; scales = λ b v. act_through (scaled b) (scaled_linear b) p v; by_x = act_x p; zeros = act_zeros p }

pub act-act : (p q v : List Bool) → act p (act q v) ≡ act q (act p v)
act-act p q v = act_through (act q) (act_linear q) p v

pub length-act : (p v : List Bool) → length v ≤ 8 → length (act p v) ≡ 8
length-act [] v h = refl
length-act (b ∷ p) v h =
    let rest = length-act p v h in
    let shifted : length (take 7 (act p v)) ≡ 7 = length-take 7 (act p v) ∙ ap (min 7) rest in
    length-plus (scaled b v) (times_x (act p v))
    ∙ ap₂ max (length-map v (λ a. b && a)) (length-plus (false ∷ take 7 (act p v)) (scaled (slice_index_or (act p v) 7 false) eighth) ∙ ap (λ n. max (suc n) 5) shifted)
    ∙ (omega arith)

remainder_act : (p : List Bool) → remainder p ≡ act p (true ∷ [])
remainder_act [] = refl
remainder_act (b ∷ p) = ap₂ (λ a r. plus (a ∷ []) (times_x r)) (sym (and-true b)) (remainder_act p)

length_remainder : (p : List Bool) → length (remainder p) ≡ 8
length_remainder p = ap length (remainder_act p) ∙ length-act p (true ∷ []) (lit≤ tt)

-- eight zeros more change no remainder
remainder_zeros : (p : List Bool) → plus (remainder p) (replicate 8 false) ≡ remainder p
remainder_zeros p = ap (λ n. plus (remainder p) (replicate n false)) (sym (length_remainder p)) ∙ plus_zeros (remainder p)

remainder_plus : (p q : List Bool) → remainder (plus p q) ≡ plus (remainder p) (remainder q)
remainder_plus [] q = sym (plus_comm (replicate 8 false) (remainder q) ∙ remainder_zeros q)
remainder_plus (a ∷ p) [] = sym (remainder_zeros (a ∷ p))
remainder_plus (a ∷ p) (b ∷ q) =
    ap (plus (xor a b ∷ [])) (ap times_x (remainder_plus p q) ∙ x_plus (remainder p) (remainder q))
    ∙ plus_four (a ∷ []) (b ∷ []) (times_x (remainder p)) (times_x (remainder q))

remainder_scaled : (b : Bool) (p : List Bool) → remainder (scaled b p) ≡ scaled b (remainder p)
remainder_scaled b [] = sym (scaled_zeros b)
remainder_scaled b (a ∷ p) =
    ap (plus ((b && a) ∷ [])) (ap times_x (remainder_scaled b p) ∙ x_scaled b (remainder p))
    ∙ sym (scaled_plus b (a ∷ []) (times_x (remainder p)))

false_plus : (a : Bool) (p : List Bool) → plus (false ∷ []) (a ∷ p) ≡ a ∷ p
false_plus a p = ap (λ c. c ∷ p) (sym (xor_false a))

-- x p leaves x times what p leaves
remainder_x : (p : List Bool) → remainder (false ∷ p) ≡ times_x (remainder p)
remainder_x p = false_plus _ _

pub remainder_product : (p q : List Bool) → remainder (product p q) ≡ act p (remainder q)
remainder_product [] q = refl
remainder_product (b ∷ p) q =
    remainder_plus (scaled b q) (false ∷ product p q)
    ∙ ap₂ plus (remainder_scaled b q) (remainder_x (product p q) ∙ ap times_x (remainder_product p q))

-- A polynomial that is its own remainder is what it makes of 1, so that two of them commute.
pub act_comm : (p q : List Bool) → remainder p ≡ p → remainder q ≡ q → act p q ≡ act q p
act_comm p q left right =
    ap (act p) (sym right ∙ remainder_act q) ∙ act-act p q (true ∷ []) ∙ ap (act q) (sym (remainder_act p) ∙ left)
