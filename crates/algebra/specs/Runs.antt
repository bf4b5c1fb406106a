-- Elements written one behind the other, and the places of an area that they come from and go to. Assumes nothing.
use Rattle.std.specs.Prelude.{◌≡◌, ℕ, zero, suc, ◌+◌, ◌*◌, ◌/◌, ◌%◌, Bool, true, false, List, [], ◌∷◌, ◌++◌, map, take, drop, Ok, Err, Result, slice_set, Option, None, Some}
use Rattle.std.specs.List.{flat_map}
use Rattle.algebra.specs.declared.fault.ByteFault.{ByteFault}
use Rattle.algebra.specs.declared.run.Order.{Order}
use Rattle.algebra.specs.declared.run.Order.TheVariants.{InTurn, Halves}
use Rattle.algebra.specs.Codec.{Codec}
use Rattle.algebra.specs.Bytes.{Input, meant, read_one}

-- The place in the area of the element that is written as number j.
abbrev pub slot : Order → ℕ → ℕ
slot InTurn j = j
slot (Halves n) j = j % 2 * n + j / 2

-- The elements of the area in the order in which they are written: k of them, from number j on.
abbrev pub in_order : {G : Type 0} → Order → ℕ → ℕ → List G → List G
in_order order j zero area = []
in_order order j (suc k) area = take 1 (drop (slot order j) area) ++ in_order order (j + 1) k area

-- Elements, from number j on, with the places that they go to.
abbrev pub with_places : {V : Type 0} → Order → ℕ → List V → List (ℕ × V)
with_places order j [] = []
with_places order j (x ∷ xs) = (slot order j, x) ∷ with_places order (j + 1) xs

-- The area with each value put in its place.
abbrev pub put_in : {G : Type 0} → List (ℕ × G) → List G → List G
put_in [] area = area
put_in (p ∷ ps) area = put_in ps (slice_set area p.0 p.1)

-- The area has values of these elements in their places, and all else as it was.
pub record Placed {G V : Type 0} (means : G → V) (elements : List (ℕ × V)) (before after : List G) : Type 0 where
  pub values : List (ℕ × G)
  pub mean : map (λ p. (p.0, means p.1)) values ≡ elements
  pub put : after ≡ put_in values before

-- The pairs of a record, one element behind the other.
abbrev pub in_turn : {V : Type 0} → List (V × V) → List V
in_turn [] = []
in_turn (p ∷ ps) = p.0 ∷ p.1 ∷ in_turn ps

-- The pairs of a list, two by two.
abbrev pub pairs_of : {V : Type 0} → List V → List (V × V)
pairs_of [] = []
pairs_of (x ∷ []) = []
pairs_of (x ∷ y ∷ xs) = (x, y) ∷ pairs_of xs

module _ {V : Type 0} (c : Codec V) where
  -- Elements one behind the other.
  abbrev pub encode_run : List V → List ℕ
  encode_run = flat_map c.encode

  -- The elements that were accepted, and what refused the next one, if anything did.
  pub record Run : Type 0 where
    pub accepted : List V
    pub refused : Option ByteFault

  abbrev pub and_more : Result V ByteFault → Run → Run
  and_more (Ok x) rest = record { accepted = x ∷ rest.accepted; refused = rest.refused }
  and_more (Err e) rest = record { accepted = []; refused = Some e }

  -- What is read where up to k elements begin at `at`.
  unfoldable pub read_run : ℕ → ℕ → List ℕ → Run
  read_run zero at bytes = record { accepted = []; refused = None }
  read_run (suc k) at bytes = and_more (read_one c at (drop at bytes)) (read_run k (at + c.size) bytes)

-- A refusal, or else the answer.
abbrev pub unless : {X : Type 0} → Option ByteFault → Result X ByteFault → Result X ByteFault
unless None r = r
unless (Some e) r = Err e

-- Up to k elements were read into an area; where all were, the reader stands behind them.
pub record ReadsRun {G V : Type 0} (c : Codec V) (means : G → V) (order : Order) (k : ℕ) (from now : Input) (before after : List G) (r : Result (Unit {0}) ByteFault) : Type 0 where
  pub answer : meant (λ _. now.at) r ≡ unless (read_run c k from.at from.bytes).refused (Ok (from.at + k * c.size))
  pub same : now.bytes ≡ from.bytes
  pub area : Placed means (with_places order 0 (read_run c k from.at from.bytes).accepted) before after

-- What reading a record into an area answers, and the elements that it has then placed.
pub record Reading (X V : Type 0) : Type 0 where
  pub answer : Result X ByteFault
  pub placed : List (ℕ × V)

-- A refusal before anything was placed.
abbrev pub refuse : {X V : Type 0} → ByteFault → Reading X V
refuse e = record { answer = Err e; placed = [] }

abbrev pub go_on : {Y X V : Type 0} → Result Y ByteFault → (Y → Reading X V) → Reading X V
go_on (Ok y) f = f y
go_on (Err e) f = refuse e

abbrev pub provided : {X V : Type 0} → Bool → ByteFault → Reading X V → Reading X V
provided true e reading = reading
provided false e reading = refuse e
