-- Each fault of the argument by number, layer and place, and which of several is met first. Assumes nothing.
use Rattle.std.specs.Prelude.{◌≡◌, ℕ, codes, Bool, if◌then◌else◌, List, [], ◌∷◌, Ok, Err, Result, Option, None, Some}
use Rattle.algebra.specs.declared.entry.Layer.TheVariants.{Argument}
use Rattle.algebra.specs.declared.entry.Entry.{Entry}
use Rattle.algebra.specs.Faults.{entry}
use Rattle.ipa.specs.declared.fault.Fault.{Fault}
use Rattle.ipa.specs.declared.fault.Fault.TheVariants.{Lengths, NotPowerOfTwo, SmallSetup}

abbrev pub argument_entry : Fault → Entry
argument_entry Lengths = entry 20 Argument 0
argument_entry NotPowerOfTwo = entry 21 Argument 0
argument_entry SmallSetup = entry 22 Argument 0

-- What each says in print.
abbrev pub argument_text : Fault → List ℕ
argument_text Lengths = codes "the two vectors differ in length"
argument_text NotPowerOfTwo = codes "the number of loads is not a power of two"
argument_text SmallSetup = codes "there are more loads than the setup has pairs"

-- Of tests in their order, the first that fails gives its fault.
abbrev pub first_fault : List (Bool × Fault) → Option Fault
first_fault [] = None
first_fault (test ∷ tests) = if test.0 then first_fault tests else Some test.1

-- The answer is that fault, or where there is none a value with the property.
abbrev pub Answers : {X : Type 0} → Option Fault → (X → Type 0) → Result X Fault → Type 0
Answers (Some f) P (Ok x) = ⊥
Answers (Some f) P (Err e) = e ≡ f
Answers None P (Ok x) = P x
Answers None P (Err e) = ⊥
