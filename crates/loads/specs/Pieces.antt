-- What the lines of a text are, and the words of a line. Assumes nothing.
use Rattle.std.specs.Prelude.{ℕ, Bool, if◌then◌else◌, ◌||◌, List, [], ◌∷◌, ◌==◌}

-- the byte that ends a line
abbrev pub newline : ℕ → Bool
newline b = b == 10

-- a space, a tab or a carriage return
abbrev pub blank : ℕ → Bool
blank b = b == 32 || (b == 9 || b == 13)

-- b at the front of the first piece, or a piece of its own where there is none
unfoldable pub grown : ℕ → List (List ℕ) → List (List ℕ)
grown b [] = (b ∷ []) ∷ []
grown b (p ∷ ps) = (b ∷ p) ∷ ps

-- the pieces of some bytes: each byte that cuts ends one, and what follows the last cut is one more, unless it is empty
unfoldable pub pieces : (ℕ → Bool) → List ℕ → List (List ℕ)
pieces cuts [] = []
pieces cuts (b ∷ bs) = if cuts b then [] ∷ pieces cuts bs else grown b (pieces cuts bs)

-- the pieces that are not empty
unfoldable pub filled : List (List ℕ) → List (List ℕ)
filled [] = []
filled ([] ∷ ps) = filled ps
filled ((b ∷ bs) ∷ ps) = (b ∷ bs) ∷ filled ps

-- the lines of a text: a final newline begins no other
abbrev pub lines_of : List ℕ → List (List ℕ)
lines_of bs = pieces newline bs

-- the words of a line: its longest runs of bytes that are not blank
abbrev pub words_of : List ℕ → List (List ℕ)
words_of bs = filled (pieces blank bs)
