-- What a word of digits writes, in the words of std. Assumes nothing.
use Rattle.std.proofs.Common.{◌≡◌, ℕ, ◌+◌, ◌-◌, ◌*◌, ◌^◌, ◌<◌, true, false, cond, ltb, List, [], ◌∷◌, length, Some, None, Ok, Err, Result, fold, refl, ap, sym, ◌&&◌, ◌≢◌, get_or, slice_get, ⊎_elim, rules, arith, ◌∙◌}
use Rattle.std.specs.Char.{is_ascii_digit}
use Rattle.std.specs.Str.{all_ascii_digits, IsUtf8}
use Rattle.std.specs.Str.Parse.{ParsesUnsigned}
use Rattle.std.specs.Result.{result_ok}
use Rattle.std.proofs.lemmas.Bool.{cases_Bool, lt-ltb, le-ltb}
use Rattle.std.proofs.lemmas.Fmt.{IsAscii-from_digits}
use Rattle.std.proofs.lemmas.Str.{IsUtf8-from_ascii}
use Rattle.std.proofs.lemmas.Str.Parse.{IsNumeralModel, numerals_by_fold, tells_all_ascii_digits, parse_plain}
use Rattle.loads.specs.Numbers.{number_of, value_of}

numerals : IsNumeralModel (λ bs. all_ascii_digits bs ≡ true) value_of
numerals = numerals_by_fold _ tells_all_ascii_digits (λ n bs. fold (λ n b. n * 10 + (b - 48)) n bs) (search rules)

not_digits : (bs : List ℕ) → all_ascii_digits bs ≡ false → None ≡ number_of bs
unfolding number_of
not_digits [] e = refl
not_digits (b ∷ bs) e = rw e refl

digits_text : (bs : List ℕ) → all_ascii_digits bs ≡ true → IsUtf8 bs
digits_text bs e = IsUtf8-from_ascii bs (IsAscii-from_digits bs (numerals.to bs e))

pub no_text : (bs : List ℕ) → ¬ (IsUtf8 bs) → None ≡ number_of bs
no_text bs never = ⊎_elim (λ e. absurd (never (digits_text bs e))) (λ e. not_digits bs e) (cases_Bool (all_ascii_digits bs))

by_digits : (bs : List ℕ) → 0 < length bs → all_ascii_digits bs ≡ true → number_of bs ≡ cond (ltb (value_of bs) (2 ^ 32)) (Some (value_of bs)) None
unfolding number_of
by_digits [] h e = absurd (omega arith)
by_digits (b ∷ bs) h e = rw e refl

beyond : (bs : List ℕ) → all_ascii_digits bs ≡ true → (0 < length bs → value_of bs < 2 ^ 32 → ⊥) → None ≡ number_of bs
unfolding number_of
beyond [] e never = refl
beyond (b ∷ bs) e never = sym (by_digits (b ∷ bs) (omega arith) e ∙ rw (le-ltb (value_of (b ∷ bs)) (2 ^ 32) (let far = never (omega arith) in grind (arith, far))) refl)

-- what the first byte tells
pub no_byte : (bs : List ℕ) → None ≡ slice_get bs 0 → None ≡ number_of bs
unfolding number_of
no_byte [] e = refl
no_byte (b ∷ bs) e = cc

pub no_digit : (bs : List ℕ) (d : ℕ) → slice_get bs 0 ≡ Some d → is_ascii_digit d ≡ false → None ≡ number_of bs
unfolding number_of
no_digit [] d e other = refl
no_digit (b ∷ bs) d e other = let same : b ≡ d = cc in not_digits (b ∷ bs) (ap (λ c. is_ascii_digit c && all_ascii_digits bs) same ∙ ap (λ t. t && all_ascii_digits bs) other)

pub no_plus : (bs : List ℕ) (d : ℕ) → slice_get bs 0 ≡ Some d → is_ascii_digit d ≡ true → get_or bs 0 0 ≢ 43
no_plus [] d e digit = cc
no_plus (b ∷ bs) d e digit = λ is. let plus : d ≡ 43 = cc in let wrong : is_ascii_digit 43 ≡ true = sym (ap is_ascii_digit plus) ∙ digit in cc

-- a text that has no sign at the front is a number where `parse` reads one
pub parsed : {E : Type 0} (bs text : List ℕ) (r : Result ℕ E) → get_or bs 0 0 ≢ 43 → text ≡ bs → ParsesUnsigned 32 10 text r → result_ok r ≡ number_of bs
parsed {E} bs text (Ok n) plain same p =
    let is = parse_plain numerals {E = E} 32 bs (Ok n) (rw same at p) plain in
    ap Some is.1 ∙ sym (by_digits bs is.0.1 is.0.0 ∙ rw (lt-ltb (value_of bs) (2 ^ 32) is.0.2) refl)
parsed {E} bs text (Err r) plain same p =
    let is_not = parse_plain numerals {E = E} 32 bs (Err r) (rw same at p) plain in
    ⊎_elim (λ e. beyond bs e (λ some fits. is_not (e, some, fits))) (λ e. not_digits bs e) (cases_Bool (all_ascii_digits bs))
