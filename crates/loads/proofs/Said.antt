-- What a line says, by how many words it has. Assumes nothing.
use Rattle.std.proofs.Common.{◌≡◌, ℕ, List, [], ◌∷◌, None, Ok, refl, ap}
use Rattle.loads.specs.Pieces.{words_of}
use Rattle.loads.specs.Numbers.{number_of}
use Rattle.loads.specs.Lines.{ill_formed, load_of, said, line_of}

pub no_words : (bs : List ℕ) → words_of bs ≡ [] → line_of bs ≡ Ok None
unfolding said
no_words bs e = ap said e

too_many : (l f : List ℕ) (ws : List (List ℕ)) → (ws ≡ [] → ⊥) → said (l ∷ f ∷ ws) ≡ ill_formed
unfolding said
too_many l f [] more_words = absurd (more_words refl)
too_many l f (w ∷ ws) more_words = refl

module _ (bs l rest : List ℕ) (first : words_of bs ≡ l ∷ words_of rest) where
  pub one_word : words_of rest ≡ [] → line_of bs ≡ ill_formed
  unfolding said
  one_word e = rw (first, e) refl

  module _ (f more : List ℕ) (second : words_of rest ≡ f ∷ words_of more) where
    pub two_words : words_of more ≡ [] → line_of bs ≡ load_of (number_of l) (number_of f)
    unfolding said
    two_words e = rw (first, second, e) refl

    pub many_words : (words_of more ≡ [] → ⊥) → line_of bs ≡ ill_formed
    unfolding said
    many_words more_words = rw (first, second) (too_many l f (words_of more) more_words)
