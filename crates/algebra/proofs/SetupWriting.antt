-- The setup that a row is, and its code. Assumes nothing.
use Rattle.std.proofs.Common.{◌≡◌, ℕ, zero, suc, ◌+◌, ◌*◌, List, [], ◌∷◌, ◌++◌, map, length, get_or, take, drop, sym, refl, ap, ◌∙◌, ap₂, arith, length-append, length-drop}
use Rattle.std.proofs.lemmas.List.{map-append, length-map, take-map, drop-map, take-append-drop, drop-drop, length-take-le, drop_all, drop_more}
use Rattle.algebra.specs.declared.run.Order.{Order}
use Rattle.algebra.specs.declared.run.Order.TheVariants.{Halves}
use Rattle.algebra.specs.Codec.{Codec, IsCodec}
use Rattle.algebra.specs.Varint.{varint}
use Rattle.algebra.specs.Runs.{slot, in_order, in_turn, encode_run}
use Rattle.algebra.specs.SetupCode.{SetupOf, row_of, encode_setup, setup_size}
use Rattle.algebra.proofs.InOrder.{length_run}
use Rattle.algebra.proofs.Places.{length_in_turn, order_halves}

abbrev pub pair_up : {V : Type 0} → List V → List V → List (V × V)
pair_up [] ys = []
pair_up (x ∷ xs) [] = []
pair_up (x ∷ xs) (y ∷ ys) = (x, y) ∷ pair_up xs ys

pair_left : {V : Type 0} (xs ys : List V) → length xs ≡ length ys → map (λ p. p.0) (pair_up xs ys) ≡ xs
pair_left [] ys e = refl
pair_left (x ∷ xs) [] e = absurd (omega arith)
pair_left (x ∷ xs) (y ∷ ys) e = ap (λ t. x ∷ t) (pair_left xs ys (omega arith))

pair_right : {V : Type 0} (xs ys : List V) → length xs ≡ length ys → map (λ p. p.1) (pair_up xs ys) ≡ ys
pair_right [] [] e = refl
pair_right [] (y ∷ ys) e = absurd (omega arith)
pair_right (x ∷ xs) [] e = absurd (omega arith)
pair_right (x ∷ xs) (y ∷ ys) e = ap (λ t. y ∷ t) (pair_right xs ys (omega arith))

pub map_in_order : {G V : Type 0} (means : G → V) (order : Order) (j k : ℕ) (area : List G) → map means (in_order order j k area) ≡ in_order order j k (map means area)
map_in_order means order j zero area = refl
map_in_order means order j (suc k) area =
    map-append means (take 1 (drop (slot order j) area)) (in_order order (j + 1) k area)
    ∙ ap₂ ◌++◌ (sym (take-map means 1 (drop (slot order j) area)) ∙ ap (take 1) (sym (drop-map means (slot order j) area))) (map_in_order means order (j + 1) k area)

module _ {G V : Type 0} (means : G → V) (row : List G) (n : ℕ) (q : G) (long : length row ≡ 2 * n + 1) (last : q ≡ get_or row (n + n) q) where
  -- The setup that the row is.
  abbrev pub setup_at : SetupOf V
  setup_at = record { q = means q; pairs = pair_up (map means (take n row)) (map means (take n (drop n row))) }

  lefts : length (map means (take n row)) ≡ n
  lefts = length-map (take n row) means ∙ length-take-le n row (omega arith)

  rights : length (map means (take n (drop n row))) ≡ n
  rights = length-map (take n (drop n row)) means ∙ length-take-le n (drop n row) (let d = length-drop n row in omega (arith, d))

  pub pairs_count : length setup_at.pairs ≡ n
  pairs_count = sym (length-map setup_at.pairs (λ p. p.0)) ∙ ap length (pair_left _ _ (lefts ∙ sym rights)) ∙ lefts

  pub row_is : map means row ≡ row_of setup_at
  row_is =
      let end : drop (n + n) row ≡ q ∷ [] = drop_more row (n + n) q (omega arith) ∙ ap₂ ◌∷◌ (sym last) (drop_all (n + n + 1) row (omega arith)) in
      let whole : row ≡ take n row ++ (take n (drop n row) ++ (q ∷ [])) =
      sym (take-append-drop n row) ∙ ap (λ t. take n row ++ t) (sym (take-append-drop n (drop n row)) ∙ ap (λ t. take n (drop n row) ++ t) (drop-drop n n row ∙ end)) in
      ap (map means) whole ∙ map-append means (take n row) _ ∙ ap (λ t. map means (take n row) ++ t) (map-append means (take n (drop n row)) (q ∷ []))
      ∙ ap₂ (λ t u. t ++ (u ++ (means q ∷ []))) (sym (pair_left _ _ (lefts ∙ sym rights))) (sym (pair_right _ _ (lefts ∙ sym rights)))

  module _ (c : Codec V) where
    -- Its code, part by part.
    pub setup_code : encode_setup c setup_at ≡ c.encode (means q) ++ (varint n ++ encode_run c (map means (in_order (Halves n) 0 (2 * n) row)))
    setup_code =
        let ps = setup_at.pairs in
        let twice : 2 * n ≡ length ps + length ps = (let l = pairs_count in omega (arith, l)) in
        let order : in_order (Halves n) 0 (2 * n) (map means row) ≡ in_turn ps = ap (in_order (Halves n) 0 (2 * n)) row_is ∙ order_halves n 0 (2 * n) ps [] [] (means q ∷ []) refl refl (omega (arith, pairs_count)) twice in
        ap₂ (λ t u. c.encode (means q) ++ (varint t ++ encode_run c u)) pairs_count (sym (map_in_order means (Halves n) 0 (2 * n) row ∙ order))

    pub setup_long : IsCodec c → length (encode_setup c setup_at) ≡ setup_size c n
    setup_long laws =
        let ps = setup_at.pairs in
        let a = length-append (c.encode (means q)) (varint (length ps) ++ encode_run c (in_turn ps)) in
        let b = length-append (varint (length ps)) (encode_run c (in_turn ps)) in
        let r = length_run c laws (in_turn ps) in
        let v = ap (λ t. length (varint t)) pairs_count in
        let d : length (in_turn ps) ≡ 2 * n = length_in_turn ps ∙ (let l = pairs_count in omega (arith, l)) in
        let rd = ap (λ t. t * c.size) d in
        omega (arith, a, b, r, v, rd, laws.sized (means q))
