-- Lists mixed entry by entry, and a list's upper part folded onto its lower part. Assumes nothing.
use Rattle.std.specs.Prelude.{◌≡◌, ℕ, List, [], ◌∷◌, ◌++◌, map, length, take, drop}
use Rattle.algebra.specs.Structures.{FieldOps, SpaceOps, over_itself}
use Rattle.algebra.specs.Sums.{lin}

module _ {E V : Type 0} (S : SpaceOps E V) where
  -- u x₀ + v y₀, u x₁ + v y₁, ..; where one list ends, zeros stand for its entries.
  abbrev pub mix : E → List V → E → List V → List V
  mix u [] v ys = map (S.scale v) ys
  mix u (x ∷ xs) v [] = map (S.scale u) (x ∷ xs)
  mix u (x ∷ xs) v (y ∷ ys) = S.add (S.scale u x) (S.scale v y) ∷ mix u xs v ys

  -- Of a list with the halves lo and hi of `mid` entries: u lo + v hi in place of lo, and all from hi on as it was.
  abbrev pub folded : E → E → ℕ → List V → List V
  folded u v mid xs = mix u (take mid xs) v (take mid (drop mid xs)) ++ drop mid xs

  -- s₀ v₀, s₁ v₁, .., as far as both lists go.
  abbrev pub multiples : List E → List V → List V
  multiples [] vs = []
  multiples (s ∷ ss) [] = []
  multiples (s ∷ ss) (v ∷ vs) = S.scale s v ∷ multiples ss vs

-- A sum of multiples of a mix is the mix of the sums, on either side, and a sum over two parts is the sum of both.
pub record SumsOfMixes {E V : Type 0} (K : FieldOps E) (S : SpaceOps E V) : Type 0 where
  pub left : (u : E) (xs : List E) (v : E) (ys : List E) (vs : List V) → lin S (mix (over_itself K) u xs v ys) vs ≡ S.add (S.scale u (lin S xs vs)) (S.scale v (lin S ys vs))
  pub right : (ss : List E) (u : E) (xs : List V) (v : E) (ys : List V) → lin S ss (mix S u xs v ys) ≡ S.add (S.scale u (lin S ss xs)) (S.scale v (lin S ss ys))
  pub parts : (m : ℕ) (ss : List E) (vs : List V) → lin S ss vs ≡ S.add (lin S (take m ss) (take m vs)) (lin S (drop m ss) (drop m vs))

-- The first list written over the front of the second, as far as both go.
abbrev pub written_over : {X : Type 0} → List X → List X → List X
written_over xs ys = take (length ys) xs ++ drop (length xs) ys
