-- A day's loads, their total, and the claim that is made of them at the bench. Assumes nothing.
use Rattle.std.specs.Prelude.{◌≡◌, ℕ, ◌+◌, ◌*◌, ◌%◌, Bool, if◌then◌else◌, ◌&&◌, List, [], ◌∷◌, map, sum_by, length, Ok, Err, vec_items, Result, nat_lt, Option, None, Some}
use Rattle.std.proofs.Common.{lit<}
use Rattle.loads.specs.declared.Load.{Load}
use Rattle.algebra.specs.declared.claim.Claim.{Claim}
use Rattle.algebra.specs.Structures.{SpaceOps, with_multiples}
use Rattle.algebra.specs.Modular.{reduced}
use Rattle.modular.specs.Mod251.{Mod251, field251}
use Rattle.bench.specs.Squares.{Square, squares, power}
use Rattle.algebra.specs.Setups.{count, g_part, h_part}
use Rattle.algebra.specs.Claims.{ClaimOf, claim_of}
use Rattle.ipa.specs.Faults.{first_fault}
use Rattle.ipa.specs.Claiming.{claim_tests, Claims}
use Rattle.settle.specs.declared.day.Vectors.{Vectors}
use Rattle.settle.specs.declared.day.DayFault.{DayFault}
use Rattle.settle.specs.declared.day.DayFault.TheVariants as fault

-- Litres times fat points, summed over the loads.
abbrev pub total_of : List Load → ℕ
total_of = sum_by (λ l. l.litres * l.fat)

-- A number as an element of the field.
abbrev pub number : ℕ → Mod251
number = reduced (lit< tt)

abbrev pub litres_of : List Load → List Mod251
litres_of = map (λ l. number l.litres)

abbrev pub fat_of : List Load → List Mod251
fat_of = map (λ l. number l.fat)

-- Both numbers of a load are below 251, so that each is an element by itself.
abbrev pub in_range : Load → Bool
in_range l = nat_lt l.litres 251 && nat_lt l.fat 251

-- The first load that is not, counted from n.
abbrev pub first_beyond : ℕ → List Load → Option ℕ
first_beyond n [] = None
first_beyond n (l ∷ ls) = if in_range l then first_beyond (n + 1) ls else Some n

abbrev pub bench_space : SpaceOps Mod251 Square
bench_space = with_multiples squares (λ s. power s.value)

-- Here a value is its element, so that a claim of values is one of elements.
abbrev pub claimed : Claim Mod251 Square → ClaimOf Mod251 Square
claimed = claim_of (λ x. x) (λ v. v)

-- The vectors of the loads, or the first load that has a number beyond the field; `Memory` says only that there was none.
abbrev pub Converts : List Load → Result Vectors DayFault → Type 0
Converts ls (Ok v) = (first_beyond 1 ls ≡ None) × (vec_items v.litres ≡ litres_of ls) × (vec_items v.fat ≡ fat_of ls)
Converts ls (Err (fault.Beyond n)) = first_beyond 1 ls ≡ Some n
Converts ls (Err (fault.Claim f)) = ⊥
Converts ls (Err fault.Memory) = Unit {0}

-- The claim that is true of the day: it commits to litres and fat, and its product is the day's total modulo 251.
pub record DayClaim (row : List Square) (ls : List Load) (y : Mod251) (c : Claim Mod251 Square) : Type 0 where
  pub in_range : first_beyond 1 ls ≡ None
  pub supported : first_fault (claim_tests (count row) (length ls) (length ls)) ≡ None
  pub claims : Claims field251 bench_space (g_part row) (h_part row) (litres_of ls) (fat_of ls) y (claimed c)
  pub total : c.product.value ≡ total_of ls % 251

-- That claim, or what is in its way.
abbrev pub Settles : List Square → List Load → Mod251 → Result (Claim Mod251 Square) DayFault → Type 0
Settles row ls y (Ok c) = DayClaim row ls y c
Settles row ls y (Err (fault.Beyond n)) = first_beyond 1 ls ≡ Some n
Settles row ls y (Err (fault.Claim f)) = (first_beyond 1 ls ≡ None) × (first_fault (claim_tests (count row) (length ls) (length ls)) ≡ Some f)
Settles row ls y (Err fault.Memory) = Unit {0}
