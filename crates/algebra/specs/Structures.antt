-- Fields, commutative groups, and what makes a group a space over a field. Assumes nothing.
use Rattle.std.specs.Prelude.{◌≡◌}

pub record FieldOps (E : Type 0) : Type 0 where
  pub zero : E
  pub one : E
  pub add : E → E → E
  pub mul : E → E → E
  pub neg : E → E
  pub inv : E → E

pub record IsField {E : Type 0} (K : FieldOps E) : Type 0 where
  pub add_assoc : (x y z : E) → K.add (K.add x y) z ≡ K.add x (K.add y z)
  pub add_comm : (x y : E) → K.add x y ≡ K.add y x
  pub add-zero : (x : E) → K.add x K.zero ≡ x
  pub add-neg : (x : E) → K.add x (K.neg x) ≡ K.zero
  pub mul_assoc : (x y z : E) → K.mul (K.mul x y) z ≡ K.mul x (K.mul y z)
  pub mul_comm : (x y : E) → K.mul x y ≡ K.mul y x
  pub mul-one : (x : E) → K.mul x K.one ≡ x
  pub mul-add : (x y z : E) → K.mul x (K.add y z) ≡ K.add (K.mul x y) (K.mul x z)
  pub mul-inv : (x : E) → ¬ (x ≡ K.zero) → K.mul x (K.inv x) ≡ K.one
  pub inv-zero : K.inv K.zero ≡ K.zero
  pub one-zero : ¬ (K.one ≡ K.zero)

pub record GroupOps (V : Type 0) : Type 0 where
  pub zero : V
  pub add : V → V → V
  pub neg : V → V

-- A commutative group.
pub record IsGroup {V : Type 0} (g : GroupOps V) : Type 0 where
  pub add_assoc : (x y z : V) → g.add (g.add x y) z ≡ g.add x (g.add y z)
  pub add_comm : (x y : V) → g.add x y ≡ g.add y x
  pub add-zero : (x : V) → g.add x g.zero ≡ x
  pub add-neg : (x : V) → g.add x (g.neg x) ≡ g.zero

-- A space: elements with sums, and with multiples by the numbers of E.
pub record SpaceOps (E V : Type 0) : Type 0 where
  pub zero : V
  pub add : V → V → V
  pub neg : V → V
  pub scale : E → V → V

-- A group with multiples.
abbrev pub with_multiples : {E V : Type 0} → GroupOps V → (E → V → V) → SpaceOps E V
with_multiples g scale = record { zero = g.zero; add = g.add; neg = g.neg; scale = scale }

-- The sums of a field.
abbrev pub additive : {E : Type 0} → FieldOps E → GroupOps E
additive K = record { zero = K.zero; add = K.add; neg = K.neg }

-- A field as a space over itself: its multiples are its products.
abbrev pub over_itself : {E : Type 0} → FieldOps E → SpaceOps E E
over_itself K = with_multiples (additive K) K.mul

-- The four laws that join a space to its numbers.
module _ {E V : Type 0} (K : FieldOps E) (S : SpaceOps E V) where
  -- s (v + w) = s v + s w
  abbrev pub OverSum : Type 0
  OverSum = (s : E) (v w : V) → S.scale s (S.add v w) ≡ S.add (S.scale s v) (S.scale s w)

  -- (s + t) v = s v + t v
  abbrev pub OverAdd : Type 0
  OverAdd = (s t : E) (v : V) → S.scale (K.add s t) v ≡ S.add (S.scale s v) (S.scale t v)

  -- (s × t) v = s (t v)
  abbrev pub OverMul : Type 0
  OverMul = (s t : E) (v : V) → S.scale (K.mul s t) v ≡ S.scale s (S.scale t v)

  -- 1 v = v
  abbrev pub ByOne : Type 0
  ByOne = (v : V) → S.scale K.one v ≡ v

-- A space over a field: its sums are those of a commutative group, and the four laws join it to its numbers.
pub record IsSpace {E V : Type 0} (K : FieldOps E) (S : SpaceOps E V) : Type 0 where
  pub add_assoc : (x y z : V) → S.add (S.add x y) z ≡ S.add x (S.add y z)
  pub add_comm : (x y : V) → S.add x y ≡ S.add y x
  pub add-zero : (x : V) → S.add x S.zero ≡ x
  pub add-neg : (x : V) → S.add x (S.neg x) ≡ S.zero
  pub over_sum : OverSum K S
  pub over_add : OverAdd K S
  pub over_mul : OverMul K S
  pub by_one : ByOne K S
