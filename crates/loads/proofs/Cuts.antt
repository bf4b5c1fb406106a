-- The parts that `split` gives are the pieces, but that it gives an empty one more where bytes end with the byte that cuts, or there are none. Assumes nothing.
use Rattle.std.proofs.Common.{◌≡◌, ℕ, Bool, List, [], ◌∷◌, ◌++◌, refl, ap, ◌⊎◌, inl, inr, ⊎_elim}
use Rattle.std.specs.List.{slice_split, onto_first}
use Rattle.std.proofs.lemmas.Bool.{cases_Bool}
use Rattle.loads.specs.Pieces.{pieces, grown}

-- what stands for the parts of bytes: their pieces, or these and an empty one
abbrev pub Parts : List (List ℕ) → List (List ℕ) → Type 0
Parts parts ps = (parts ≡ ps) ⊎ (parts ≡ ps ++ [] ∷ [])

onto : (b : ℕ) (parts ps : List (List ℕ)) → Parts parts ps → Parts (onto_first b parts) (grown b ps)
unfolding grown
onto b parts [] (inl e) = inl (ap (onto_first b) e)
onto b parts (p ∷ ps) (inl e) = inl (ap (onto_first b) e)
onto b parts [] (inr e) = inl (ap (onto_first b) e)
onto b parts (p ∷ ps) (inr e) = inr (ap (onto_first b) e)

after : (parts ps : List (List ℕ)) → Parts parts ps → Parts ([] ∷ parts) ([] ∷ ps)
after parts ps (inl e) = inl (ap (λ l. [] ∷ l) e)
after parts ps (inr e) = inr (ap (λ l. [] ∷ l) e)

pub parts : (cuts : ℕ → Bool) (bs : List ℕ) → Parts (slice_split cuts bs) (pieces cuts bs)
unfolding pieces
parts cuts [] = inr refl
parts cuts (b ∷ bs) =
    ⊎_elim
    (λ e. rw e (after _ _ (parts cuts bs)))
    (λ e. rw e (onto b _ _ (parts cuts bs)))
    (cases_Bool (cuts b))
