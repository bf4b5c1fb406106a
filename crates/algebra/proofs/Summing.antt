-- The turns of loops that sum over slices. Assumes nothing.
use Rattle.std.proofs.Common.{◌≡◌, ℕ, suc, ◌+◌, ◌<◌, List, [], ◌∷◌, map, length, get_or, drop, sym, refl, ap, ◌∙◌, ap₂}
use Rattle.std.proofs.lemmas.List.{drop_more}
use Rattle.algebra.specs.Structures.{FieldOps, IsField, GroupOps, IsGroup, with_multiples}
use Rattle.algebra.specs.Sums.{lin, powers}

-- what is left of a slice, at a place where x was read
pub left_at : {X : Type 0} (xs : List X) (i : ℕ) (x : X) → i < length xs → x ≡ get_or xs i x → drop i xs ≡ x ∷ drop (i + 1) xs
left_at xs i x h e = drop_more xs i x h ∙ ap (λ y. y ∷ drop (i + 1) xs) (sym e)

module _ {E V : Type 0} {g : GroupOps V} (laws : IsGroup g) (scale : E → V → V) where
  pub lin_start : (v : V) → g.add g.zero v ≡ v
  lin_start v = laws.add_comm g.zero v ∙ laws.add-zero v

  pub lin_nil : (ss : List E) → lin (with_multiples g scale) ss [] ≡ g.zero
  lin_nil [] = refl
  lin_nil (s ∷ ss) = refl

  -- nothing is left of one side
  pub lin_end_left : (sum : V) (ss : List E) (vs : List V) → ss ≡ [] → g.add sum (lin (with_multiples g scale) ss vs) ≡ sum
  lin_end_left sum ss vs e = ap (λ t. g.add sum (lin (with_multiples g scale) t vs)) e ∙ laws.add-zero sum

  pub lin_end_right : (sum : V) (ss : List E) (vs : List V) → vs ≡ [] → g.add sum (lin (with_multiples g scale) ss vs) ≡ sum
  lin_end_right sum ss vs e = ap (λ t. g.add sum (lin (with_multiples g scale) ss t)) e ∙ ap (g.add sum) (lin_nil ss) ∙ laws.add-zero sum

  -- one term more
  pub lin_more : (sum : V) (ss ts : List E) (vs ws : List V) (s : E) (v : V) → ss ≡ s ∷ ts → vs ≡ v ∷ ws
      → g.add (g.add sum (scale s v)) (lin (with_multiples g scale) ts ws) ≡ g.add sum (lin (with_multiples g scale) ss vs)
  lin_more sum ss ts vs ws s v e d = laws.add_assoc sum (scale s v) _ ∙ sym (ap₂ (λ t u. g.add sum (lin (with_multiples g scale) t u)) e d)

module _ {E : Type 0} {K : FieldOps E} (laws : IsField K) where
  mul_twice : (w y : E) (xs : List E) → map (K.mul w) (map (K.mul y) xs) ≡ map (K.mul (K.mul w y)) xs
  mul_twice w y [] = refl
  mul_twice w y (x ∷ xs) = ap₂ ◌∷◌ (sym (laws.mul_assoc w y x)) (mul_twice w y xs)

  pub mul_by_one : (xs : List E) → map (K.mul K.one) xs ≡ xs
  mul_by_one [] = refl
  mul_by_one (x ∷ xs) = ap₂ ◌∷◌ (laws.mul_comm K.one x ∙ laws.mul-one x) (mul_by_one xs)

  -- the powers from w on
  pub powers_more : (w y : E) (n m : ℕ) → n ≡ suc m → map (K.mul w) (powers K y n) ≡ w ∷ map (K.mul (K.mul w y)) (powers K y m)
  powers_more w y n m e = ap (λ k. map (K.mul w) (powers K y k)) e ∙ ap₂ ◌∷◌ (laws.mul-one w) (mul_twice w y (powers K y m))
