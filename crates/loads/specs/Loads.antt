-- What the reading of a text is. Assumes nothing.
use Rattle.std.specs.Prelude.{◌≡◌, ℕ, ◌+◌, List, [], ◌∷◌, Some, None, Ok, Err, vec_items, Result, Vec}
use Rattle.std.specs.declared.alloc.Global.{Global}
use Rattle.loads.specs.declared.Load.{Load}
use Rattle.loads.specs.declared.LoadsFault.{LoadsFault}
use Rattle.loads.specs.declared.LoadsFault.TheVariants as fault
use Rattle.loads.specs.Pieces.{lines_of}
use Rattle.loads.specs.Lines.{Line, line_of}

-- the loads of a text, or the number and the bytes of its first malformed line
pub data Reading : Type 0 where
  loads : List Load → Reading
  malformed : ℕ → List ℕ → Reading

-- a reading with one more load in front
abbrev pub with_load : Load → Reading → Reading
with_load x (loads xs) = loads (x ∷ xs)
with_load x (malformed n bs) = malformed n bs

-- a reading with a line in front: the line's number and bytes, and what it says
abbrev pub with_line : ℕ → List ℕ → Line → Reading → Reading
with_line n bs (Ok None) r = r
with_line n bs (Ok (Some x)) r = with_load x r
with_line n bs (Err _) r = malformed n bs

-- the reading of lines, the first of which has the number n
unfoldable pub reading : ℕ → List (List ℕ) → Reading
reading n [] = loads []
reading n (bs ∷ more) = with_line n bs (line_of bs) (reading (n + 1) more)

-- the reading of a text, whose lines are counted from 1
abbrev pub loads_of : List ℕ → Reading
loads_of bs = reading 1 (lines_of bs)

-- an answer is the reading of the text; `Memory` says nothing of it, only that the list found no room
abbrev pub Reads : List ℕ → Result (Vec Load Global) LoadsFault → Type 0
Reads bs (Ok v) = loads_of bs ≡ loads (vec_items v)
Reads bs (Err (fault.Malformed n t)) = loads_of bs ≡ malformed n t.now
Reads bs (Err fault.Memory) = Unit {0}
