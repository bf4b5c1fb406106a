-- Varints: their bytes step by step, and what reading accepts. Assumes nothing.
use Rattle.std.proofs.Common.{◌≡◌, ℕ, zero, suc, ◌+◌, ◌-◌, ◌*◌, ◌/◌, ◌%◌, ◌^◌, ◌<◌, ◌≤◌, Bool, true, false, cond, ◌&&◌, ltb, List, [], ◌∷◌, ◌++◌, length, get_or, take, drop, set, Ok, Err, Result, sym, refl, ap, ◌∙◌, ap₂, inl, inr, append_assoc, mul_assoc, pow-suc, mul-one, add-one, arith, lit<, lit≤, length-append, Option, None, Some}
use Rattle.std.proofs.Math.Nat.{pow-zero, pow-le-pow_right}
use Rattle.std.proofs.lemmas.Bool.{le-ltb, lt-ltb, ltb-true, cases_lt, cond-true, cond-false, and_from, and_parts}
use Rattle.std.proofs.lemmas.List.{take_more, take_more_set, drop_all, drop_more, length-take-le, length_push, append-nil}
use Rattle.algebra.specs.declared.fault.ByteFault.{ByteFault}
use Rattle.algebra.specs.declared.fault.ByteFault.TheVariants.{Ends, NotCount}
use Rattle.algebra.specs.Numbered.{same_bytes}
use Rattle.algebra.proofs.BigEndian.{same_bytes_true, same_bytes_refl}
use Rattle.algebra.specs.Varint.{varint_in, varint, count_of, prefixed, count_field, is_count, count_at, read_count, AcceptsCounts}

-- The most that can be left of a number of 64 bits after k bytes.
abbrev pub most : ℕ → ℕ
most zero = 18446744073709551615
most (suc k) = most k / 128

pub most_next : (k n : ℕ) → n ≤ most k → n / 128 ≤ most (k + 1)
most_next k n h = rw add-one (omega arith)

pub short_of : (k n : ℕ) → k ≤ 9 → n ≤ most k → 128 ≤ n → k < 9
short_of zero n a b c = omega arith
short_of (suc zero) n a b c = omega arith
short_of (suc (suc zero)) n a b c = omega arith
short_of (suc (suc (suc zero))) n a b c = omega arith
short_of (suc (suc (suc (suc zero)))) n a b c = omega arith
short_of (suc (suc (suc (suc (suc zero))))) n a b c = omega arith
short_of (suc (suc (suc (suc (suc (suc zero)))))) n a b c = omega arith
short_of (suc (suc (suc (suc (suc (suc (suc zero))))))) n a b c = omega arith
short_of (suc (suc (suc (suc (suc (suc (suc (suc zero)))))))) n a b c = omega arith
short_of (suc (suc (suc (suc (suc (suc (suc (suc (suc zero))))))))) n a b c = omega arith
short_of (suc (suc (suc (suc (suc (suc (suc (suc (suc (suc k)))))))))) n a b c = absurd (omega arith)

pub varint_more : (more n : ℕ) → 0 < more → 128 ≤ n → varint_in more n ≡ (n % 128 + 128) ∷ varint_in (more - 1) (n / 128)
unfolding varint_in
varint_more zero n h l = absurd (omega arith)
varint_more (suc m) n h l = let e : ltb n 128 ≡ false = le-ltb n 128 l in let p : suc m - 1 ≡ m = omega arith in rw (e, p)

pub varint_last : (more n : ℕ) → n < 128 → varint_in more n ≡ n ∷ []
unfolding varint_in
varint_last zero n l = refl
varint_last (suc m) n l = let e : ltb n 128 ≡ true = lt-ltb n 128 l in rw e

-- One byte more of the encoder's loop, and its last.
pub encode_more : (xs : List ℕ) (i n m : ℕ) → i < length xs → i < 9 → 128 ≤ n → take i xs ++ varint_in (9 - i) n ≡ varint_in 9 m
    → take (i + 1) (set xs i (n % 128 + 128)) ++ varint_in (9 - (i + 1)) (n / 128) ≡ varint_in 9 m
encode_more xs i n m h short big e =
    let p : 9 - (i + 1) ≡ 9 - i - 1 = omega arith in
    ap (λ l. l ++ varint_in (9 - (i + 1)) (n / 128)) (take_more_set xs i (n % 128 + 128) h)
    ∙ append_assoc (take i xs) ((n % 128 + 128) ∷ []) (varint_in (9 - (i + 1)) (n / 128))
    ∙ ap (λ f. take i xs ++ ((n % 128 + 128) ∷ varint_in f (n / 128))) p
    ∙ ap (λ l. take i xs ++ l) (sym (varint_more (9 - i) n (omega arith) big)) ∙ e

pub encode_last : (xs : List ℕ) (i n m : ℕ) → i < length xs → n < 128 → take i xs ++ varint_in (9 - i) n ≡ varint_in 9 m → take (i + 1) (set xs i n) ≡ varint m
unfolding varint
encode_last xs i n m h small e = take_more_set xs i n h ∙ ap (λ l. take i xs ++ l) (sym (varint_last (9 - i) n small)) ∙ e

-- All have the top bit.
abbrev pub Tops : List ℕ → Type 0
Tops [] = Unit
Tops (b ∷ bytes) = (128 ≤ b) × (b < 256) × Tops bytes

tops_push : (xs : List ℕ) (b : ℕ) → Tops xs → 128 ≤ b → b < 256 → Tops (xs ++ (b ∷ []))
tops_push [] b t h k = (h, k, tt)
tops_push (x ∷ xs) b t h k = (t.0, t.1, tops_push xs b t.2 h k)

count_push : (xs : List ℕ) (b : ℕ) → count_of (xs ++ (b ∷ [])) ≡ count_of xs + b % 128 * 128 ^ length xs
count_push [] b = rw (pow-zero 128, mul-one (b % 128)) (omega arith)
count_push (x ∷ xs) b =
    let ih = count_push xs b in
    let p : b % 128 * 128 ^ suc (length xs) ≡ b % 128 * 128 ^ length xs * 128 = ap (λ t. b % 128 * t) (pow-suc 128 (length xs)) ∙ sym (mul_assoc (b % 128) (128 ^ length xs) 128) in
    omega (arith, ih, p)

count_small : (xs : List ℕ) → count_of xs < 128 ^ length xs
count_small [] = rw (pow-zero 128) (lit< tt)
count_small (x ∷ xs) = let ih = count_small xs in rw (pow-suc 128 (length xs)) (omega (arith, ih))

count_positive : (xs : List ℕ) (b : ℕ) → 0 < b → b < 128 → 0 < count_of (xs ++ (b ∷ []))
count_positive [] b h k = omega arith
count_positive (x ∷ xs) b h k = let ih = count_positive xs b h k in omega (arith, ih)

-- Bytes that end in a nonzero one are the shortest of their number.
shortest : (xs : List ℕ) (b more : ℕ) → Tops xs → 0 < b → b < 128 → length xs ≤ more → varint_in more (count_of (xs ++ (b ∷ []))) ≡ xs ++ (b ∷ [])
shortest [] b more t h k l = let e : b % 128 + 128 * 0 ≡ b = omega arith in rw e (varint_last more b k)
shortest (x ∷ xs) b zero t h k l = absurd (omega arith)
shortest (x ∷ xs) b (suc more) t h k l =
    let rest = count_of (xs ++ (b ∷ [])) in
    let pos : 0 < rest = count_positive xs b h k in
    let top : (x % 128 + 128 * rest) % 128 + 128 ≡ x = omega (arith, t.0, t.1) in
    let low : (x % 128 + 128 * rest) / 128 ≡ rest = omega arith in
    let less : suc more - 1 ≡ more = omega arith in
    varint_more (suc more) (x % 128 + 128 * rest) (omega arith) (omega (arith, pos)) ∙ rw (top, low, less) (ap (λ t. x ∷ t) (shortest xs b more t.2 h k (omega arith)))

same_tail : (x y : ℕ) (xs ys : List ℕ) → ◌≡◌ {A = List ℕ} (x ∷ xs) (y ∷ ys) → xs ≡ ys
same_tail x y xs ys e = ap (drop 1) e

one_or_more : (x y : ℕ) (ys zs : List ℕ) → x ∷ [] ≡ y ∷ (ys ++ (0 ∷ zs)) → ⊥
one_or_more x y ys zs e = let l = ap length e in let k = length-append ys (0 ∷ zs) in omega (arith, l, k)

-- Bytes that end in a zero behind others are not.
not_shortest : (x : ℕ) (xs : List ℕ) (more : ℕ) → varint_in more (count_of ((x ∷ xs) ++ (0 ∷ []))) ≡ (x ∷ xs) ++ (0 ∷ []) → ⊥
unfolding varint_in
not_shortest x [] more e = one_or_more _ x [] [] (sym (varint_last more _ (omega arith)) ∙ e)
not_shortest x (y ∷ ys) zero e = one_or_more _ x (y ∷ ys) [] e
not_shortest x (y ∷ ys) (suc more) e =
    let rest = count_of ((y ∷ ys) ++ (0 ∷ [])) in
    elim (cases_lt (x % 128 + 128 * rest) 128) [
      | inl small ↦ one_or_more _ x (y ∷ ys) [] (sym (varint_last (suc more) _ small) ∙ e)
      | inr large ↦
          let low : (x % 128 + 128 * rest) / 128 ≡ rest = omega arith in
          let less : suc more - 1 ≡ more = omega arith in
          not_shortest y ys more (rw (low, less) at (same_tail _ x _ _ (sym (varint_more (suc more) (x % 128 + 128 * rest) (omega arith) large) ∙ e)))
    ]

-- A varint ends in a byte without the top bit.
not_tops : (more n : ℕ) (f : List ℕ) → n < 128 ^ suc more → Tops f → varint_in more n ≡ f → ⊥
unfolding varint_in
not_tops zero n [] h t e = let l = ap length e in omega (arith, l)
not_tops zero n (x ∷ xs) h t e =
    let same : n ≡ x = ap (λ l. get_or l 0 0) e in
    let one : 128 ^ suc zero ≡ 128 = refl in
    omega (arith, same, t.0, h, one)
not_tops (suc more) n [] h t e = elim (cases_lt n 128) [
  | inl small ↦ let l = ap length (sym (varint_last (suc more) n small) ∙ e) in omega (arith, l)
  | inr large ↦ let l = ap length (sym (varint_more (suc more) n (omega arith) large) ∙ e) in omega (arith, l)
]
not_tops (suc more) n (x ∷ xs) h t e = elim (cases_lt n 128) [
  | inl small ↦ let same : n ≡ x = ap (λ l. get_or l 0 0) (sym (varint_last (suc more) n small) ∙ e) in omega (arith, same, t.0)
  | inr large ↦
      let less : suc more - 1 ≡ more = omega arith in
      let p = pow-suc 128 (suc more) in
      not_tops more (n / 128) xs (omega (arith, h, p)) t.2 (rw less at (same_tail _ x _ _ (sym (varint_more (suc more) n (omega arith) large) ∙ e)))
]

-- A field that was found begins the bytes.
front_more : (b : ℕ) (bytes f : List ℕ) (top : Bool) (rest : Option (List ℕ)) → ((g : List ℕ) → rest ≡ Some g → take (length g) bytes ≡ g)
    → cond top (Some (b ∷ [])) (prefixed (b ∷ []) rest) ≡ Some f → take (length f) (b ∷ bytes) ≡ f
front_more b bytes f true rest ih e = let same : b ∷ [] ≡ f = cc in rw (← same) refl
front_more b bytes f false None ih e = cc
front_more b bytes f false (Some g) ih e = let same : b ∷ g ≡ f = cc in rw (← same) (ap (λ t. b ∷ t) (ih g refl))

field_front : (most : ℕ) (bytes f : List ℕ) → count_field most bytes ≡ Some f → take (length f) bytes ≡ f
field_front zero bytes f e = let same : [] ≡ f = cc in rw (← same) refl
field_front (suc most) [] f e = cc
field_front (suc most) (b ∷ bytes) f e = front_more b bytes f (ltb b 128) (count_field most bytes) (field_front most bytes) e

first_is : (x : ℕ) (xs bytes : List ℕ) → take (length (x ∷ xs)) bytes ≡ x ∷ xs → (bytes ≡ x ∷ drop 1 bytes) × (take (length xs) (drop 1 bytes) ≡ xs)
first_is x xs [] e = absurd (let l = ap length e in omega (arith, l))
first_is x xs (b ∷ bytes) e = let same : b ≡ x = ap (λ l. get_or l 0 0) e in (ap (λ t. t ∷ bytes) same, same_tail b x _ _ e)

-- A varint that begins the bytes is found, and writes its number.
found_last : (most more n : ℕ) (bytes : List ℕ) → n < 128 → take (length (varint_in more n)) bytes ≡ varint_in more n → count_field (suc most) bytes ≡ Some (varint_in more n)
found_last most more n bytes small e =
    let last = varint_last more n small in
    let first = first_is n [] bytes (rw last at e) in
    rw (first.0, last, lt-ltb n 128 small) refl

varint_found : (most more n : ℕ) (bytes : List ℕ) → most ≤ more → n < 128 ^ suc most → take (length (varint_in more n)) bytes ≡ varint_in more n → count_field (suc most) bytes ≡ Some (varint_in more n)
varint_found zero more n bytes few h e = let one : 128 ^ suc zero ≡ 128 = refl in found_last zero more n bytes (omega (arith, one, h)) e
varint_found (suc most) zero n bytes few h e = absurd (omega arith)
varint_found (suc most) (suc more) n bytes few h e = elim (cases_lt n 128) [
  | inl small ↦ found_last (suc most) (suc more) n bytes small e
  | inr large ↦
      let less : suc more - 1 ≡ more = omega arith in
      let step : varint_in (suc more) n ≡ (n % 128 + 128) ∷ varint_in more (n / 128) = rw less at (varint_more (suc more) n (omega arith) large) in
      let first = first_is (n % 128 + 128) (varint_in more (n / 128)) bytes (rw step at e) in
      let p = pow-suc 128 (suc most) in
      let rest = varint_found most more (n / 128) (drop 1 bytes) (omega arith) (omega (arith, h, p)) first.1 in
      rw (first.0, step, le-ltb (n % 128 + 128) 128 (omega arith), rest) refl
]

count_varint : (more n : ℕ) → n < 128 ^ suc more → count_of (varint_in more n) ≡ n
count_varint zero n h = let one : 128 ^ suc zero ≡ 128 = refl in rw (varint_last zero n (omega (arith, one, h))) (omega (arith, one, h))
count_varint (suc more) n h = elim (cases_lt n 128) [
  | inl small ↦ rw (varint_last (suc more) n small) (omega arith)
  | inr large ↦
      let less : suc more - 1 ≡ more = omega arith in
      let p = pow-suc 128 (suc more) in
      let rest = count_varint more (n / 128) (omega (arith, h, p)) in
      rw (varint_more (suc more) n (omega arith) large, less, rest) (omega arith)
]

-- What reading accepts.
same_counts : (n m k l : ℕ) → ◌≡◌ {A = Result (ℕ × ℕ) ByteFault} (Ok (n, k)) (Ok (m, l)) → (n ≡ m) × (k ≡ l)
same_counts n m k l e =
    let same : ◌≡◌ {A = ℕ × ℕ} (n, k) (m, l) = cc in
    (ap (λ (p : ℕ × ℕ). p.0) same, ap (λ (p : ℕ × ℕ). p.1) same)

accepted : (at n k : ℕ) (f : List ℕ) (b : Bool) → is_count f ≡ b → cond {A = Result (ℕ × ℕ) ByteFault} b (Ok (count_of f, length f)) (Err (NotCount at)) ≡ Ok (n, k)
    → (n < 4294967296) × (k ≡ length (varint n)) × (f ≡ varint n)
accepted at n k f false is e = cc
accepted at n k f true is e =
    let both = and_parts (same_bytes (varint (count_of f)) f) (ltb (count_of f) 4294967296) is in
    let same = same_counts (count_of f) n (length f) k e in
    let code : varint n ≡ f = ap varint (sym same.0) ∙ same_bytes_true _ _ both.0 in
    let below = ltb-true (count_of f) 4294967296 both.1 in
    (rw (← same.0) below, sym same.1 ∙ ap length (sym code), sym code)

count_only : (at n k : ℕ) (bytes : List ℕ) (o : Option (List ℕ)) → count_field 5 bytes ≡ o → count_at at o ≡ Ok (n, k)
    → (n < 4294967296) × (k ≡ length (varint n)) × (take k bytes ≡ varint n)
count_only at n k bytes None is e = cc
count_only at n k bytes (Some f) is e =
    let a = accepted at n k f (is_count f) refl e in
    (a.0, a.1, ap (λ t. take t bytes) (a.1 ∙ ap length (sym a.2)) ∙ field_front 5 bytes f is ∙ a.2)

count_each : (at n : ℕ) (bytes : List ℕ) → n < 4294967296 → take (length (varint n)) bytes ≡ varint n → read_count at bytes ≡ Ok (n, length (varint n))
unfolding varint read_count
count_each at n bytes h e =
    let five : 128 ^ 5 ≡ 34359738368 = refl in
    let ten : 128 ^ 10 ≡ 1180591620717411303424 = refl in
    let writes : count_of (varint_in 9 n) ≡ n = count_varint 9 n (omega (arith, ten, h)) in
    let same : same_bytes (varint_in 9 (count_of (varint_in 9 n))) (varint_in 9 n) ≡ true = rw writes (same_bytes_refl (varint_in 9 n)) in
    let below : ltb (count_of (varint_in 9 n)) 4294967296 ≡ true = rw writes (lt-ltb n 4294967296 h) in
    let passes : is_count (varint_in 9 n) ≡ true = and_from _ _ same below in
    ap (count_at at) (varint_found 4 9 n bytes (lit≤ tt) (omega (arith, five, h)) e) ∙ cond-true _ _ _ passes ∙ ap (λ t. Ok (t, length (varint_in 9 n))) writes

pub accepts_counts : (at : ℕ) (bytes : List ℕ) (r : Result (ℕ × ℕ) ByteFault) → r ≡ read_count at bytes → AcceptsCounts bytes r
unfolding read_count
accepts_counts at bytes r is = record {
  only = λ n k ok. count_only at n k bytes (count_field 5 bytes) refl (sym is ∙ ok);
  each = λ n h e. is ∙ count_each at n bytes h e;
}

-- The reader's loop: i bytes with the top bit were seen, and they give n.
pub record Scanned (rest : List ℕ) (i n scale : ℕ) : Type 0 where
  pub within : i ≤ length rest
  pub few : i ≤ 5
  pub tops : Tops (take i rest)
  pub sum : n ≡ count_of (take i rest)
  pub power : scale ≡ 128 ^ i
  pub field : count_field 5 rest ≡ prefixed (take i rest) (count_field (5 - i) (drop i rest))

prefixed_push : (xs : List ℕ) (b : ℕ) (o : Option (List ℕ)) → prefixed xs (prefixed (b ∷ []) o) ≡ prefixed (xs ++ (b ∷ [])) o
prefixed_push xs b None = refl
prefixed_push xs b (Some f) = ap Some (sym (append_assoc xs (b ∷ []) f))

not_count : (f : List ℕ) → (varint (count_of f) ≡ f → ⊥) → is_count f ≡ false
not_count f differ = by_test (same_bytes (varint (count_of f)) f) refl where
  by_test : (t : Bool) → same_bytes (varint (count_of f)) f ≡ t → t && ltb (count_of f) 4294967296 ≡ false
  by_test true is = absurd (differ (same_bytes_true _ _ is))
  by_test false is = refl

not_small : (f : List ℕ) → 4294967296 ≤ count_of f → is_count f ≡ false
not_small f h = rw (le-ltb (count_of f) 4294967296 h) (and_false (same_bytes (varint (count_of f)) f)) where
  and_false : (t : Bool) → t && false ≡ false
  and_false true = refl
  and_false false = refl

module _ (rest : List ℕ) (i n scale at : ℕ) (s : Scanned rest i n scale) where
  long : i ≤ length rest → length (take i rest) ≡ i
  long h = length-take-le i rest h

  -- the bytes end inside the field
  pub scan_ends : i < 5 → length rest ≤ i → Err (Ends at) ≡ read_count at rest
  unfolding read_count
  scan_ends h short =
      let left : 5 - i ≡ suc (4 - i) = omega arith in
      let none_found : count_field 5 rest ≡ None = s.field ∙ (let empty : prefixed (take i rest) (count_field (5 - i) (drop i rest)) ≡ None = rw (drop_all i rest short, left) refl in empty) in
      sym (ap (count_at at) none_found)

  -- five bytes have the top bit
  pub scan_full : i ≡ 5 → Err (NotCount at) ≡ read_count at rest
  unfolding read_count varint
  scan_full five =
      let small = count_small (take i rest) in
      let bound : 128 ^ i ≤ 128 ^ 10 = (let few : i ≤ 10 = omega arith in pow-le-pow_right (lit< tt) few) in
      let none_left : 5 - i ≡ 0 = omega arith in
      let whole : count_field 5 rest ≡ Some (take i rest ++ []) = s.field ∙ ap (λ t. prefixed (take i rest) (count_field t (drop i rest))) none_left in
      let refused : is_count (take i rest) ≡ false = not_count (take i rest) (not_tops 9 (count_of (take i rest)) (take i rest) (omega (arith, rw (long s.within) at small, bound)) s.tops) in
      sym (ap (count_at at) (whole ∙ ap Some (append-nil (take i rest))) ∙ cond-false _ _ _ refused)

  module _ (b : ℕ) (at_i : b ≡ get_or rest i 0) (inside : i < length rest) (h : i < 5) where
    is : drop i rest ≡ b ∷ drop (i + 1) rest
    is = drop_more rest i 0 inside ∙ ap (λ t. t ∷ drop (i + 1) rest) (sym at_i)

    front : take (i + 1) rest ≡ take i rest ++ (b ∷ [])
    front = take_more rest i 0 inside ∙ ap (λ t. take i rest ++ (t ∷ [])) (sym at_i)

    total : count_of (take i rest ++ (b ∷ [])) ≡ n + b % 128 * scale
    total = rw (s.sum, s.power) (rw (long s.within) at (count_push (take i rest) b))

    -- one byte with the top bit more
    pub scan_more : 128 ≤ b → b < 256 → Scanned rest (i + 1) (n + b % 128 * scale) (scale * 128)
    scan_more top byte =
        let left : 5 - i ≡ suc (5 - (i + 1)) = omega arith in
        let next : prefixed (take i rest) (count_field (5 - i) (drop i rest)) ≡ prefixed (take i rest ++ (b ∷ [])) (count_field (5 - (i + 1)) (drop (i + 1) rest)) =
        rw (is, left, le-ltb b 128 top) (prefixed_push (take i rest) b _) in
        record {
          within = omega arith;
          few = omega arith;
          tops = rw front (tops_push (take i rest) b s.tops top byte);
          sum = sym (ap count_of front ∙ total);
          power = rw (add-one i) (ap (λ t. t * 128) s.power ∙ sym (pow-suc 128 i));
          field = s.field ∙ next ∙ ap (λ t. prefixed t (count_field (5 - (i + 1)) (drop (i + 1) rest))) (sym front);
        }

    found : b < 128 → count_field 5 rest ≡ Some (take i rest ++ (b ∷ []))
    found low =
        let left : 5 - i ≡ suc (4 - i) = omega arith in
        let last : prefixed (take i rest) (count_field (5 - i) (drop i rest)) ≡ Some (take i rest ++ (b ∷ [])) = rw (is, left, lt-ltb b 128 low) refl in
        s.field ∙ last

    field_length : length (take i rest ++ (b ∷ [])) ≡ i + 1
    field_length = length_push (take i rest) b ∙ ap (λ t. t + 1) (long s.within)

    -- the last byte is zero, and not the only one
    pub scan_zero : b ≡ 0 → 0 < i → Err (NotCount at) ≡ read_count at rest
    unfolding read_count varint
    scan_zero zero_byte more =
        let refused : is_count (take i rest ++ (b ∷ [])) ≡ false = rw zero_byte (not_count (take i rest ++ (0 ∷ [])) (ends_in_zero (take i rest) (omega (arith, long s.within, more)))) in
        sym (ap (count_at at) (found (omega arith)) ∙ cond-false _ _ _ refused)
      where
        ends_in_zero : (xs : List ℕ) → 0 < length xs → varint_in 9 (count_of (xs ++ (0 ∷ []))) ≡ xs ++ (0 ∷ []) → ⊥
        ends_in_zero [] pos e = omega arith
        ends_in_zero (x ∷ xs) pos e = not_shortest x xs 9 e

    -- the count is too large
    pub scan_large : b < 128 → 4294967296 ≤ n + b % 128 * scale → Err (NotCount at) ≡ read_count at rest
    unfolding read_count
    scan_large low large = sym (ap (count_at at) (found low) ∙ cond-false _ _ _ (not_small _ (rw total large)))

    -- the count ends here
    pub scan_done : b < 128 → (0 < i → 0 < b) → n + b % 128 * scale < 4294967296 → Ok (n + b % 128 * scale, i + 1) ≡ read_count at rest
    unfolding read_count varint
    scan_done low short small =
        let code : varint_in 9 (count_of (take i rest ++ (b ∷ []))) ≡ take i rest ++ (b ∷ []) = is_varint (take i rest) s.tops (omega (arith, long s.within)) (λ k. short (omega (arith, k, long s.within))) in
        let same : same_bytes (varint_in 9 (count_of (take i rest ++ (b ∷ [])))) (take i rest ++ (b ∷ [])) ≡ true = rw code (same_bytes_refl (take i rest ++ (b ∷ []))) in
        let passes : is_count (take i rest ++ (b ∷ [])) ≡ true = and_from _ _ same (lt-ltb (count_of (take i rest ++ (b ∷ []))) 4294967296 (rw total small)) in
        sym (ap (count_at at) (found low) ∙ cond-true _ _ _ passes ∙ ap₂ answer total field_length)
      where
        answer : ℕ → ℕ → Result (ℕ × ℕ) ByteFault
        answer m k = Ok (m, k)

        is_varint : (xs : List ℕ) → Tops xs → length xs ≤ 9 → (0 < length xs → 0 < b) → varint_in 9 (count_of (xs ++ (b ∷ []))) ≡ xs ++ (b ∷ [])
        is_varint [] t few pos = let e : b % 128 + 128 * 0 ≡ b = omega arith in rw e (varint_last 9 b low)
        is_varint (x ∷ xs) t few pos = shortest (x ∷ xs) b 9 t (pos (omega arith)) low few
