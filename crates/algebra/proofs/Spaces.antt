-- What the laws give of sums of multiples, with the rules that sort such sums in one set. Assumes nothing.
use Rattle.std.proofs.Common.{◌≡◌, ℕ, zero, suc, List, [], ◌∷◌, map, take, drop, sym, refl, ap, ◌∙◌}
use Rattle.std.proofs.Math.Path.{fun_ext}
use Rattle.algebra.specs.Structures.{FieldOps, IsField, GroupOps, IsGroup, SpaceOps, with_multiples, OverSum, OverAdd, OverMul, ByOne, IsSpace, additive, over_itself}
use Rattle.algebra.specs.Sums.{lin}
use Rattle.algebra.specs.Folds.{mix, SumsOfMixes}

-- As a space, a field is multiplied by what a value means that was picked for an element: by that element.
pub picked_multiples : {F E : Type 0} (K : FieldOps E) (means : F → E) (pick : E → F) → ((x : E) → means (pick x) ≡ x) → with_multiples (additive K) (λ s. K.mul (means (pick s))) ≡ over_itself K
picked_multiples K means pick picked = ap (with_multiples (additive K)) (fun_ext (λ s. ap K.mul (picked s)))

-- The laws of a space in one record.
pub gathered : {E V : Type 0} (K : FieldOps E) {g : GroupOps V} (scale : E → V → V) → IsGroup g → OverSum K (with_multiples g scale) → OverAdd K (with_multiples g scale) → OverMul K (with_multiples g scale)
    → ByOne K (with_multiples g scale) → IsSpace K (with_multiples g scale)
gathered K scale l sum add mul one = record {
  add_assoc = l.add_assoc;
  add_comm = l.add_comm;
  add-zero = l.add-zero;
  add-neg = l.add-neg;
  over_sum = sum;
  over_add = add;
  over_mul = mul;
  by_one = one;
}

module _ {E V : Type 0} {K : FieldOps E} {S : SpaceOps E V} (field : IsField K) (laws : IsSpace K S) where
  pub assoc : (x y z : V) → S.add (S.add x y) z ≡ S.add x (S.add y z)
  assoc = laws.add_assoc

  pub comm : (x y : V) → S.add x y ≡ S.add y x
  comm = laws.add_comm

  pub left_comm : (x y z : V) → S.add x (S.add y z) ≡ S.add y (S.add x z)
  left_comm x y z = sym (assoc x y z) ∙ ap (λ w. S.add w z) (comm x y) ∙ assoc y x z

  pub add-zero : (x : V) → S.add x S.zero ≡ x
  add-zero = laws.add-zero

  pub zero-add : (x : V) → S.add S.zero x ≡ x
  zero-add x = comm _ _ ∙ add-zero x

  -- a sum without its second part
  pub undo : (x y : V) → S.add (S.add x y) (S.neg y) ≡ x
  undo x y = assoc _ _ _ ∙ ap (S.add x) (laws.add-neg y) ∙ add-zero x

  pub cancel : {x y z : V} → S.add x z ≡ S.add y z → x ≡ y
  cancel {x} {y} {z} e = sym (undo x z) ∙ ap (λ w. S.add w (S.neg z)) e ∙ undo y z

  pub scale_zero : (s : E) → S.scale s S.zero ≡ S.zero
  scale_zero s = cancel (sym (laws.over_sum s _ _) ∙ ap (S.scale s) (add-zero _) ∙ sym (zero-add _))

  pub zero_scale : (x : V) → S.scale K.zero x ≡ S.zero
  zero_scale x = cancel (sym (laws.over_add _ _ x) ∙ ap (λ s. S.scale s x) (field.add-zero _) ∙ sym (zero-add _))

  pub scale_add : (s : E) (x y : V) → S.scale s (S.add x y) ≡ S.add (S.scale s x) (S.scale s y)
  scale_add = laws.over_sum

  pub add-scale : (s t : E) (x : V) → S.scale (K.add s t) x ≡ S.add (S.scale s x) (S.scale t x)
  add-scale = laws.over_add

  pub mul-scale : (s t : E) (x : V) → S.scale (K.mul s t) x ≡ S.scale s (S.scale t x)
  mul-scale = laws.over_mul

  pub scale_comm : (s t : E) (x : V) → S.scale s (S.scale t x) ≡ S.scale t (S.scale s x)
  scale_comm s t x = sym (mul-scale s t x) ∙ ap (λ r. S.scale r x) (field.mul_comm s t) ∙ mul-scale t s x

  -- what is taken away goes to the other side
  pub to_right : (x b y : V) → x ≡ S.add y b → S.add x (S.neg b) ≡ y
  to_right x b y e = ap (λ w. S.add w (S.neg b)) e ∙ undo y b

  pub differ : (x b y d : V) → S.add x d ≡ S.add y b → S.add x (S.neg b) ≡ S.add y (S.neg d)
  differ x b y d e = to_right x b _ (sym (to_right _ d x (sym e)) ∙ simp (assoc, comm, left_comm))

  pub neg_unique : (x y : V) → S.add x y ≡ S.zero → y ≡ S.neg x
  neg_unique x y e = cancel {z = x} (comm y x ∙ e ∙ sym (laws.add-neg x) ∙ comm x _)

  pub neg-add : (x y : V) → S.neg (S.add x y) ≡ S.add (S.neg x) (S.neg y)
  neg-add x y = sym (neg_unique (S.add x y) _ (simp (assoc, left_comm y, laws.add-neg, add-zero)))

  pub neg-zero : S.neg S.zero ≡ S.zero
  neg-zero = sym (neg_unique _ _ (add-zero _))

  pub neg-neg : (x : V) → S.neg (S.neg x) ≡ x
  neg-neg x = sym (neg_unique _ _ (comm _ _ ∙ laws.add-neg x))

  pub scale_neg : (s : E) (x : V) → S.scale s (S.neg x) ≡ S.neg (S.scale s x)
  scale_neg s x = neg_unique _ _ (sym (scale_add s x _) ∙ ap (S.scale s) (laws.add-neg x) ∙ scale_zero s)

  pub neg-scale : (s : E) (x : V) → S.scale (K.neg s) x ≡ S.neg (S.scale s x)
  neg-scale s x = neg_unique _ _ (sym (add-scale s _ x) ∙ ap (λ r. S.scale r x) (field.add-neg s) ∙ zero_scale x)

  pub ruleset tidy = (assoc, comm, left_comm, add-zero, zero-add, scale_zero, zero_scale, scale_add, add-scale, mul-scale, scale_comm)

  -- with differences
  pub ruleset tidier = (tidy, neg-add, neg-zero, neg-neg, scale_neg, neg-scale)

  pub lin-map_left : (u : E) (ss : List E) (vs : List V) → lin S (map (K.mul u) ss) vs ≡ S.scale u (lin S ss vs)
  lin-map_left u [] vs = simp tidy
  lin-map_left u (s ∷ ss) [] = simp tidy
  lin-map_left u (s ∷ ss) (v₀ ∷ vs) = simp (lin-map_left u ss vs, tidy)

  pub lin-map_right : (u : E) (ss : List E) (vs : List V) → lin S ss (map (S.scale u) vs) ≡ S.scale u (lin S ss vs)
  lin-map_right u [] vs = simp tidy
  lin-map_right u (s ∷ ss) [] = simp tidy
  lin-map_right u (s ∷ ss) (v₀ ∷ vs) = simp (lin-map_right u ss vs, tidy)

  pub lin_none : (ss : List E) → lin S ss [] ≡ S.zero
  lin_none [] = refl
  lin_none (s ∷ ss) = refl

  pub lin_mix_left : (u : E) (xs : List E) (v : E) (ys : List E) (vs : List V)
      → lin S (mix (over_itself K) u xs v ys) vs ≡ S.add (S.scale u (lin S xs vs)) (S.scale v (lin S ys vs))
  lin_mix_left u [] v ys vs = simp (lin-map_left, tidy)
  lin_mix_left u (x ∷ xs) v [] vs = lin-map_left u (x ∷ xs) vs ∙ simp tidy
  lin_mix_left u (x ∷ xs) v (y ∷ ys) [] = simp tidy
  lin_mix_left u (x ∷ xs) v (y ∷ ys) (v₀ ∷ vs) = simp (lin_mix_left u xs v ys vs, tidy)

  pub lin_mix_right : (ss : List E) (u : E) (xs : List V) (v : E) (ys : List V)
      → lin S ss (mix S u xs v ys) ≡ S.add (S.scale u (lin S ss xs)) (S.scale v (lin S ss ys))
  lin_mix_right [] u xs v ys = simp tidy
  lin_mix_right (s ∷ ss) u [] v ys = simp (lin-map_right, tidy)
  lin_mix_right (s ∷ ss) u (x ∷ xs) v [] = lin-map_right u (s ∷ ss) (x ∷ xs) ∙ simp tidy
  lin_mix_right (s ∷ ss) u (x ∷ xs) v (y ∷ ys) = simp (lin_mix_right ss u xs v ys, tidy)

  pub lin_split : (m : ℕ) (ss : List E) (vs : List V) → lin S ss vs ≡ S.add (lin S (take m ss) (take m vs)) (lin S (drop m ss) (drop m vs))
  lin_split zero ss vs = simp tidy
  lin_split (suc m) [] vs = simp tidy
  lin_split (suc m) (s ∷ ss) [] = simp (lin_none, tidy)
  lin_split (suc m) (s ∷ ss) (v₀ ∷ vs) = ap (S.add _) (lin_split m ss vs) ∙ simp tidy

  -- all of them
  pub ruleset list_algebra = (lin-map_left, lin-map_right, lin_none, lin_mix_left, lin_mix_right, tidier)

  pub sums_of_mixes : SumsOfMixes K S
  sums_of_mixes = record { left = lin_mix_left; right = lin_mix_right; parts = lin_split }
