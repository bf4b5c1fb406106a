-- The loads one by one: their numbers, and the first beyond the field. Assumes nothing.
use Rattle.std.proofs.Common.{◌≡◌, ℕ, ◌+◌, ◌*◌, ◌%◌, ◌<◌, ◌≤◌, cond, ltb, List, [], ◌∷◌, ◌++◌, map, length, get_or, take, drop, sym, refl, ap, ◌∙◌, ap₂, mod-eq_of_lt, arith, Some}
use Rattle.std.proofs.Math.Nat.{add-mod}
use Rattle.std.proofs.lemmas.List.{at_drop_more, map_more}
use Rattle.std.proofs.lemmas.List.Sums.{sum_by-cons}
use Rattle.std.proofs.lemmas.Bool.{lt-ltb, le-ltb, and_from, and_left, and_right}
use Rattle.loads.specs.declared.Load.{Load}
use Rattle.modular.specs.Mod251.{Mod251, field251}
use Rattle.algebra.specs.Powers.{both_mod}
use Rattle.std.proofs.lemmas.List.{map-id}
use Rattle.algebra.specs.Structures.{FieldOps, SpaceOps}
use Rattle.algebra.specs.Claims.{ClaimOf}
use Rattle.algebra.specs.Sums.{dot}
use Rattle.ipa.specs.Claiming.{Claims}
use Rattle.algebra.proofs.Residues.{by_value}
use Rattle.settle.specs.Day.{total_of, number, litres_of, fat_of, in_range, first_beyond}

-- a number below 251 is itself an element
pub is_number : (x : Mod251) (n : ℕ) → x.value ≡ n → x ≡ number n
is_number x n e = by_value _ _ (e ∙ sym (let small = x.below in mod-eq_of_lt (omega (arith, e, small))))

-- one number more of a column
pub column_more : (f : Load → ℕ) (ls : List Load) (i : ℕ) (d : Load) (xs ys : List Mod251) (x : Mod251) → i < length ls → ys ≡ xs ++ (x ∷ []) → x.value ≡ f (get_or ls i d)
    → xs ≡ map (λ l. number (f l)) (take i ls) → ys ≡ map (λ l. number (f l)) (take (i + 1) ls)
column_more f ls i d xs ys x h pushed e before =
    pushed ∙ ap₂ (λ s t. s ++ (t ∷ [])) before (is_number x (f (get_or ls i d)) e) ∙ sym (map_more (λ l. number (f l)) ls i d h)

-- the load at i, where those before it are in range
module _ (ls : List Load) (i : ℕ) (d : Load) (h : i < length ls) where
  at_load : first_beyond (i + 1) (drop i ls) ≡ cond (in_range (get_or ls i d)) (first_beyond (i + 1 + 1) (drop (i + 1) ls)) (Some (i + 1))
  at_load = at_drop_more (first_beyond (i + 1)) ls i d h

  pub beyond_more : first_beyond (i + 1) (drop i ls) ≡ first_beyond 1 ls → (get_or ls i d).litres < 251 → (get_or ls i d).fat < 251
      → first_beyond (i + 1 + 1) (drop (i + 1) ls) ≡ first_beyond 1 ls
  beyond_more inv litres fat =
      sym (at_load ∙ rw (and_from (ltb (get_or ls i d).litres 251) (ltb (get_or ls i d).fat 251) (lt-ltb (get_or ls i d).litres 251 litres) (lt-ltb (get_or ls i d).fat 251 fat)) refl) ∙ inv

-- the inner product of litres and fat is the total, modulo 251
pub dot_total : (ls : List Load) → (dot field251 (litres_of ls) (fat_of ls)).value ≡ total_of ls % 251
dot_total [] = refl
dot_total (l ∷ ls) =
    ap (λ t. ((l.litres % 251 * (l.fat % 251)) % 251 + t) % 251) (dot_total ls)
    ∙ ap (λ t. (t + total_of ls % 251) % 251) (both_mod l.litres l.fat 251)
    ∙ sym (add-mod (l.litres * l.fat) (total_of ls) 251)
    ∙ ap (λ t. t % 251) (sym (sum_by-cons (λ d. d.litres * d.fat) l ls))

-- A claim of values that are elements, as one of the elements.
module _ {E V : Type 0} (K : FieldOps E) (S : SpaceOps E V) where
  pub plain_claim : (g h : List V) (a b c d : List E) (y : E) (claim : ClaimOf E V) → a ≡ c → b ≡ d → Claims K S (map (λ v. v) g) (map (λ v. v) h) (map (λ x. x) a) (map (λ x. x) b) y claim → Claims K S g h c d y claim
  plain_claim g h a b c d y claim e f claims = rw (map-id g, map-id h, map-id a, map-id b, e, f) at claims
