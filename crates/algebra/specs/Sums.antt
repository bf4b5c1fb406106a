-- Sums of multiples, inner products, and powers. Assumes nothing.
use Rattle.std.specs.Prelude.{ℕ, zero, suc, List, [], ◌∷◌, map}
use Rattle.algebra.specs.Structures.{FieldOps, SpaceOps, over_itself}

-- s₀ v₀ + s₁ v₁ + .., as far as both lists go.
abbrev pub lin : {E V : Type 0} → SpaceOps E V → List E → List V → V
lin S [] vs = S.zero
lin S (s ∷ ss) [] = S.zero
lin S (s ∷ ss) (v ∷ vs) = S.add (S.scale s v) (lin S ss vs)

-- The inner product x₀ y₀ + x₁ y₁ + .. is such a sum over the field itself.
abbrev pub dot : {E : Type 0} → FieldOps E → List E → List E → E
dot K = lin (over_itself K)

-- x₀ y₀, x₁ y₁, .., as far as both lists go.
abbrev pub products : {E : Type 0} → FieldOps E → List E → List E → List E
products K [] ys = []
products K (x ∷ xs) [] = []
products K (x ∷ xs) (y ∷ ys) = K.mul x y ∷ products K xs ys

-- 1, y, y², .., n of them.
abbrev pub powers : {E : Type 0} → FieldOps E → E → ℕ → List E
powers K y zero = []
powers K y (suc n) = K.one ∷ map (K.mul y) (powers K y n)
