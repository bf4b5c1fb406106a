-- What a line says. Assumes nothing.
use Rattle.std.specs.Prelude.{ℕ, List, [], ◌∷◌, Some, None, Option, Ok, Err, Result}
use Rattle.loads.specs.declared.Load.{Load}
use Rattle.loads.specs.declared.line.Malformed.{Malformed}
use Rattle.loads.specs.Pieces.{words_of}
use Rattle.loads.specs.Numbers.{number_of}

-- a load, or none where a line is blank; any other line is ill-formed
abbrev pub Line : Type 0
Line = Result (Option Load) Malformed

abbrev pub ill_formed : Line
ill_formed = Err (record {})

-- two numbers are a load, its litres and then its fat
abbrev pub load_of : Option ℕ → Option ℕ → Line
load_of (Some l) (Some f) = Ok (Some (record { litres = l; fat = f }))
load_of (Some l) None = ill_formed
load_of None f = ill_formed

-- what the words of a line say: none that it is blank, two that it may be a load
unfoldable pub said : List (List ℕ) → Line
said [] = Ok None
said (l ∷ []) = ill_formed
said (l ∷ f ∷ []) = load_of (number_of l) (number_of f)
said (l ∷ f ∷ w ∷ ws) = ill_formed

-- what a line says
abbrev pub line_of : List ℕ → Line
line_of bs = said (words_of bs)
