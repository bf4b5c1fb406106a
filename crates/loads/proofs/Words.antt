-- The first word of some bytes, by how far the blanks at the front go and how far the bytes behind them. Assumes nothing.
use Rattle.std.proofs.Common.{◌≡◌, ℕ, ◌<◌, ◌≤◌, Bool, not, List, [], ◌∷◌, length, take, drop, cond, ltb, Option, Some, None, refl, ap, ⊎_elim, one-add, arith}
use Rattle.std.specs.List.{position_or_len}
use Rattle.std.specs.Option.{unwrap_or}
use Rattle.std.proofs.lemmas.Grind.{common_steps}
use Rattle.std.proofs.lemmas.Bool.{cases_Bool}
use Rattle.std.proofs.lemmas.List.Sums.{prefix_len-le-length}
use Rattle.loads.specs.Pieces.{pieces, grown, filled}

module _ (cuts : ℕ → Bool) where
  -- how far the bytes go that cut, and how far those that do not
  abbrev pub skip : List ℕ → ℕ
  skip bs = position_or_len (λ b. not (cuts b)) bs

  abbrev pub reach : List ℕ → ℕ
  reach bs = position_or_len cuts bs

  -- the first piece, where its first byte is known
  grown_piece : (b : ℕ) (bs : List ℕ) → grown b (pieces cuts bs) ≡ (b ∷ take (reach bs) bs) ∷ pieces cuts (drop 1 (drop (reach bs) bs))
  unfolding pieces grown
  grown_piece b [] = refl
  grown_piece b (c ∷ bs) =
      ⊎_elim
      (λ e. rw e refl)
      (λ e. rw e (rw one-add (ap (grown b) (grown_piece c bs))))
      (cases_Bool (cuts c))

  -- the byte that cuts ends a piece that is empty, and so no word
  filled_past : (bs : List ℕ) → filled (pieces cuts (drop 1 (drop (reach bs) bs))) ≡ filled (pieces cuts (drop (reach bs) bs))
  unfolding pieces filled
  filled_past [] = refl
  filled_past (b ∷ bs) =
      ⊎_elim
      (λ e. rw e (rw e refl))
      (λ e. rw e (rw one-add (filled_past bs)))
      (cases_Bool (cuts b))

  pub first_word : (bs : List ℕ) → skip bs < length bs → let solid = drop (skip bs) bs in filled (pieces cuts bs) ≡ take (reach solid) solid ∷ filled (pieces cuts (drop (reach solid) solid))
  unfolding pieces filled
  first_word [] h = absurd (omega arith)
  first_word (b ∷ bs) h =
      ⊎_elim
      (λ e. rw e (rw one-add (first_word bs (let far = rw e at h in omega arith))))
      (λ e. rw e (rw e (rw (one-add, grown_piece b bs) (ap (λ ws. (b ∷ take (reach bs) bs) ∷ ws) (filled_past bs)))))
      (cases_Bool (cuts b))

  pub no_word : (bs : List ℕ) → length bs ≤ skip bs → filled (pieces cuts bs) ≡ []
  unfolding pieces filled
  no_word [] h = refl
  no_word (b ∷ bs) h =
      ⊎_elim
      (λ e. rw e (no_word bs (let far = rw e at h in omega arith)))
      (λ e. let far = rw e at h in absurd (omega arith))
      (cases_Bool (cuts b))

-- what the answer of `position` tells of the place
pub at_none : (n len : ℕ) (r : Option ℕ) → r ≡ cond (ltb n len) (Some n) None → r ≡ None → len ≤ n
at_none n len r e is = grind (arith, common_steps)

pub at_some : (n len i : ℕ) (r : Option ℕ) → r ≡ cond (ltb n len) (Some n) None → r ≡ Some i → (i ≡ n) × (n < len)
at_some n len i r e is = grind (arith, common_steps)

pub at_end : (cuts : ℕ → Bool) (bs : List ℕ) (r : Option ℕ) → r ≡ cond (ltb (reach cuts bs) (length bs)) (Some (reach cuts bs)) None → unwrap_or r (length bs) ≡ reach cuts bs
at_end cuts bs r e =
    let within = prefix_len-le-length (λ b. not (cuts b)) bs in
    grind (arith, common_steps)
