-- What a claim says of two vectors a and b: P = ⟨a, G⟩ + ⟨yⁿ ∘ b, H⟩ and c = ⟨a, b⟩. Assumes nothing.
use Rattle.std.specs.Prelude.{◌≡◌, ℕ, zero, suc, ◌^◌, Bool, false, ◌||◌, List, [], ◌∷◌, length, Result, ◌==◌, nat_le}
use Rattle.algebra.specs.declared.field.Field as field
use Rattle.algebra.specs.declared.space.Space as space
use Rattle.algebra.specs.declared.claim.Claim.{Claim}
use Rattle.algebra.specs.Structures.{FieldOps, SpaceOps}
use Rattle.algebra.specs.Over.{space_over, numbers, elements, claim_meant}
use Rattle.algebra.specs.Setups.{count, g_part, h_part}
use Rattle.algebra.specs.Sums.{lin, dot, products, powers}
use Rattle.algebra.specs.Claims.{ClaimOf}
use Rattle.ipa.specs.Faults.{first_fault, Answers}
use Rattle.ipa.specs.declared.fault.Fault.{Fault}
use Rattle.ipa.specs.declared.fault.Fault.TheVariants.{Lengths, NotPowerOfTwo, SmallSetup}

-- n is one of 1, 2, 4, .., 2^(k-1).
unfoldable pub power_below : ℕ → ℕ → Bool
power_below zero n = false
power_below (suc k) n = 2 ^ k == n || power_below k n

-- Lengths are below 2^64.
abbrev pub is_power_of_two : ℕ → Bool
is_power_of_two n = power_below 64 n

-- The tests of two vectors of these lengths against a setup of n pairs, in their order.
abbrev pub claim_tests : (n len_a len_b : ℕ) → List (Bool × Fault)
claim_tests n len_a len_b =
    (len_a == len_b, Lengths)
    ∷ (is_power_of_two len_a, NotPowerOfTwo)
    ∷ (nat_le len_a n, SmallSetup)
    ∷ []

module _ {E V : Type 0} (K : FieldOps E) (S : SpaceOps E V) where
  -- ⟨a, G⟩ + ⟨yⁿ ∘ b, H⟩: the sum of a_i G_i + y^i b_i H_i.
  abbrev pub commitment_of : (g h : List V) (a b : List E) (y : E) → V
  commitment_of g h a b y = S.add (lin S a g) (lin S (products K (powers K y (length b)) b) h)

  -- A claim is true of a and b: commitment and product are theirs, and so is the length.
  pub record Claims (g h : List V) (a b : List E) (y : E) (c : ClaimOf E V) : Type 0 where
    pub commitment : c.commitment ≡ commitment_of g h a b y
    pub product : c.product ≡ dot K a b
    pub same_y : c.y ≡ y
    pub length_a : 2 ^ c.log_len ≡ length a

-- What making a claim answers: the first fault, or the claim that is true of a and b.
abbrev pub MakesClaim : {F G : Type 0} (f : field.Ghosts F) (s : space.Ghosts G F) (row : List G) (a b : List F) (y : F) → Result (Claim F G) Fault → Type 0
MakesClaim f s row a b y =
    Answers (first_fault (claim_tests (count row) (length a) (length b)))
    (λ c. Claims f.field (space_over f s) (elements s (g_part row)) (elements s (h_part row)) (numbers f a) (numbers f b) (f.means y) (claim_meant f s c))
