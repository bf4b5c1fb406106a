-- What stands in an area after elements were put in their places, and what is taken from them. Assumes nothing.
use Rattle.std.proofs.Common.{◌≡◌, ℕ, zero, suc, ◌+◌, ◌*◌, ◌/◌, ◌%◌, ◌≤◌, List, [], ◌∷◌, ◌++◌, map, length, take, drop, set, sym, refl, ap, ◌∙◌, ap₂, append_assoc, arith, length-append, length-drop, take-add}
use Rattle.std.proofs.lemmas.List.{map-set, set_at, take-append-drop, length-take-le, length-map, take_at, drop_at, drop-drop}
use Rattle.algebra.specs.declared.run.Order.TheVariants.{InTurn, Halves}
use Rattle.algebra.specs.Runs.{slot, in_order, with_places, put_in, Placed, in_turn, pairs_of}

put_map : {G V : Type 0} (means : G → V) (values : List (ℕ × G)) (area : List G) → map means (put_in values area) ≡ put_in (map (λ p. (p.0, means p.1)) values) (map means area)
put_map means [] area = refl
put_map means (p ∷ ps) area = put_map means ps (set area p.0 p.1) ∙ ap (put_in (map (λ p. (p.0, means p.1)) ps)) (map-set means area p.0 p.1)

-- By meaning, the elements themselves were put.
pub placed_means : {G V : Type 0} (means : G → V) (elements : List (ℕ × V)) (before after : List G) → Placed means elements before after → map means after ≡ put_in elements (map means before)
placed_means means elements before after p = ap (map means) p.put ∙ put_map means p.values before ∙ ap (λ t. put_in t (map means before)) p.mean

-- The pairs of a list of even length.
pub pairs_in_turn : {V : Type 0} (n : ℕ) (xs : List V) → length xs ≡ n + n → in_turn (pairs_of xs) ≡ xs
pairs_in_turn n [] h = refl
pairs_in_turn n (x ∷ []) h = absurd (omega arith)
pairs_in_turn zero (x ∷ y ∷ xs) h = absurd (omega arith)
pairs_in_turn (suc n) (x ∷ y ∷ xs) h = ap (λ t. x ∷ y ∷ t) (pairs_in_turn n xs (omega arith))

pub length_in_turn : {V : Type 0} (ps : List (V × V)) → length (in_turn ps) ≡ length ps + length ps
length_in_turn [] = refl
length_in_turn (p ∷ ps) = let ih = length_in_turn ps in omega (arith, ih)

-- Places in turn.
pub put_turn : {V : Type 0} (i : ℕ) (xs a x z : List V) → length a ≡ i → length x ≡ length xs → put_in (with_places InTurn i xs) (a ++ (x ++ z)) ≡ a ++ (xs ++ z)
put_turn i [] a [] z la lx = refl
put_turn i [] a (y ∷ ys) z la lx = absurd (omega arith)
put_turn i (v ∷ vs) a [] z la lx = absurd (omega arith)
put_turn i (v ∷ vs) a (y ∷ ys) z la lx =
    let longer : length (a ++ (v ∷ [])) ≡ i + 1 = length-append a (v ∷ []) ∙ ap (λ t. t + 1) la in
    ap (put_in (with_places InTurn (i + 1) vs)) (set_at a y (ys ++ z) v i la ∙ sym (append_assoc a (v ∷ []) (ys ++ z)))
    ∙ put_turn (i + 1) vs (a ++ (v ∷ [])) ys z longer (omega arith)
    ∙ append_assoc a (v ∷ []) (vs ++ z)

even_slot : (n i : ℕ) → slot (Halves n) (i + i) ≡ i
even_slot n i = let e : (i + i) % 2 ≡ 0 = omega arith in let h : (i + i) / 2 ≡ i = omega arith in rw (e, h) (omega arith)

odd_slot : (n i : ℕ) → slot (Halves n) (i + i + 1) ≡ n + i
odd_slot n i = let e : (i + i + 1) % 2 ≡ 1 = omega arith in let h : (i + i + 1) / 2 ≡ i = omega arith in rw (e, h) (omega arith)

-- Places in halves: i pairs stand, and the rest are put.
pub put_halves : {V : Type 0} (n i : ℕ) (ps : List (V × V)) (a x b y z : List V) → length a ≡ i → length b ≡ i → length x ≡ length ps → length y ≡ length ps → i + length ps ≡ n
    → put_in (with_places (Halves n) (i + i) (in_turn ps)) (a ++ (x ++ (b ++ (y ++ z)))) ≡ a ++ (map (λ p. p.0) ps ++ (b ++ (map (λ p. p.1) ps ++ z)))
put_halves n i [] a [] b [] z la lb lx ly h = refl
put_halves n i [] a (u ∷ x) b y z la lb lx ly h = absurd (omega arith)
put_halves n i [] a [] b (u ∷ y) z la lb lx ly h = absurd (omega arith)
put_halves n i (p ∷ ps) a [] b y z la lb lx ly h = absurd (omega arith)
put_halves n i (p ∷ ps) a (u ∷ x) b [] z la lb lx ly h = absurd (omega arith)
put_halves n i (p ∷ ps) a (u ∷ x) b (v ∷ y) z la lb lx ly h =
    let front = a ++ (p.0 ∷ (x ++ b)) in
    let long : length front ≡ n + i = length-append a (p.0 ∷ (x ++ b)) ∙ (let l = length-append x b in omega (arith, l)) in
    let first : set (a ++ (u ∷ (x ++ (b ++ (v ∷ (y ++ z)))))) (slot (Halves n) (i + i)) p.0 ≡ front ++ (v ∷ (y ++ z)) =
    ap (λ t. set (a ++ (u ∷ (x ++ (b ++ (v ∷ (y ++ z)))))) t p.0) (even_slot n i) ∙ set_at a u _ p.0 i la
    ∙ sym (append_assoc a (p.0 ∷ (x ++ b)) (v ∷ (y ++ z)) ∙ ap (λ t. a ++ (p.0 ∷ t)) (append_assoc x b (v ∷ (y ++ z)))) in
    let second : set (front ++ (v ∷ (y ++ z))) (slot (Halves n) (i + i + 1)) p.1 ≡ (a ++ (p.0 ∷ [])) ++ (x ++ ((b ++ (p.1 ∷ [])) ++ (y ++ z))) =
    ap (λ t. set (front ++ (v ∷ (y ++ z))) t p.1) (odd_slot n i) ∙ set_at front v (y ++ z) p.1 (n + i) long
    ∙ append_assoc a (p.0 ∷ (x ++ b)) (p.1 ∷ (y ++ z)) ∙ ap (λ t. a ++ (p.0 ∷ t)) (append_assoc x b (p.1 ∷ (y ++ z)))
    ∙ sym (append_assoc a (p.0 ∷ []) _ ∙ ap (λ t. a ++ (p.0 ∷ (x ++ t))) (append_assoc b (p.1 ∷ []) (y ++ z))) in
    let next : i + i + 1 + 1 ≡ (i + 1) + (i + 1) = omega arith in
    let la' = length-append a (p.0 ∷ []) in
    let lb' = length-append b (p.1 ∷ []) in
    ap (λ t. put_in (with_places (Halves n) (i + i + 1 + 1) (in_turn ps)) (set t (slot (Halves n) (i + i + 1)) p.1)) first
    ∙ ap (put_in (with_places (Halves n) (i + i + 1 + 1) (in_turn ps))) second
    ∙ ap (λ t. put_in (with_places (Halves n) t (in_turn ps)) ((a ++ (p.0 ∷ [])) ++ (x ++ ((b ++ (p.1 ∷ [])) ++ (y ++ z))))) next
    ∙ put_halves n (i + 1) ps (a ++ (p.0 ∷ [])) x (b ++ (p.1 ∷ [])) y z (omega (arith, la')) (omega (arith, lb')) (omega arith) (omega arith) (omega arith)
    ∙ append_assoc a (p.0 ∷ []) _ ∙ ap (λ t. a ++ (p.0 ∷ (map (λ p. p.0) ps ++ t))) (append_assoc b (p.1 ∷ []) (map (λ p. p.1) ps ++ z))

-- The row of a setup, once all of its elements were put.
pub row_put : {V : Type 0} (n : ℕ) (q : V) (ps : List (V × V)) (area : List V) → length ps ≡ n → 2 * n + 1 ≤ length area
    → take (2 * n + 1) (put_in ((2 * n, q) ∷ with_places (Halves n) 0 (in_turn ps)) area) ≡ map (λ p. p.0) ps ++ (map (λ p. p.1) ps ++ (q ∷ []))
row_put n q ps area long room = split (drop (2 * n) area) refl where
  split : (z : List _) → drop (2 * n) area ≡ z → take (2 * n + 1) (put_in ((2 * n, q) ∷ with_places (Halves n) 0 (in_turn ps)) area) ≡ map (λ p. p.0) ps ++ (map (λ p. p.1) ps ++ (q ∷ []))
  split [] e = absurd (let l = ap length e in let d = length-drop (2 * n) area in omega (arith, l, d))
  split (w ∷ z) e =
      let x = take n area in
      let y = take n (drop n area) in
      let lx : length x ≡ n = length-take-le n area (omega arith) in
      let ly : length y ≡ n = length-take-le n (drop n area) (let d = length-drop n area in omega (arith, d)) in
      let rest : drop n (drop n area) ≡ w ∷ z = drop-drop n n area ∙ ap (λ t. drop t area) (let d : n + n ≡ 2 * n = omega arith in d) ∙ e in
      let whole : area ≡ (x ++ y) ++ (w ∷ z) = sym (take-append-drop n area) ∙ ap (λ t. x ++ t) (sym (take-append-drop n (drop n area)) ∙ ap (λ t. y ++ t) rest) ∙ sym (append_assoc x y (w ∷ z)) in
      let lxy : length (x ++ y) ≡ 2 * n = length-append x y ∙ (omega (arith, lx, ly)) in
      let first : set area (2 * n) q ≡ x ++ (y ++ (q ∷ z)) = ap (λ t. set t (2 * n) q) whole ∙ set_at (x ++ y) w z q (2 * n) lxy ∙ append_assoc x y (q ∷ z) in
      let gs = map (λ p. p.0) ps in
      let hs = map (λ p. p.1) ps in
      let put = put_halves n 0 ps [] x [] y (q ∷ z) refl refl (lx ∙ sym long) (ly ∙ sym long) (omega arith) in
      let regroup : gs ++ (hs ++ (q ∷ z)) ≡ (gs ++ (hs ++ (q ∷ []))) ++ z = sym (append_assoc gs (hs ++ (q ∷ [])) z ∙ ap (λ t. gs ++ t) (append_assoc hs (q ∷ []) z)) in
      let lg = length-map ps (λ p. p.0) in
      let lh = length-map ps (λ p. p.1) in
      let l₁ = length-append gs (hs ++ (q ∷ [])) in
      let l₂ = length-append hs (q ∷ []) in
      ap (λ t. take (2 * n + 1) (put_in (with_places (Halves n) 0 (in_turn ps)) t)) first ∙ ap (take (2 * n + 1)) (put ∙ regroup)
      ∙ take_at (gs ++ (hs ++ (q ∷ []))) z (2 * n + 1) (omega (arith, lg, lh, l₁, l₂, long))

-- The elements of a setup in the order in which they are written.
take_at_one : {V : Type 0} (front : List V) (v : V) (rest : List V) (i : ℕ) → length front ≡ i → take 1 (drop i (front ++ (v ∷ rest))) ≡ v ∷ []
take_at_one front v rest i e = ap (take 1) (drop_at front (v ∷ rest) i e)

pub order_halves : {V : Type 0} (n i k : ℕ) (ps : List (V × V)) (a b z : List V) → length a ≡ i → length b ≡ i → i + length ps ≡ n → k ≡ length ps + length ps
    → in_order (Halves n) (i + i) k (a ++ (map (λ p. p.0) ps ++ (b ++ (map (λ p. p.1) ps ++ z)))) ≡ in_turn ps
order_halves n i zero [] a b z la lb h e = refl
order_halves n i (suc k) [] a b z la lb h e = absurd (omega arith)
order_halves n i zero (p ∷ ps) a b z la lb h e = absurd (omega arith)
order_halves n i (suc zero) (p ∷ ps) a b z la lb h e = absurd (omega arith)
order_halves n i (suc (suc k)) (p ∷ ps) a b z la lb h e =
    let gs = map (λ p. p.0) ps in
    let hs = map (λ p. p.1) ps in
    let row = a ++ (p.0 ∷ (gs ++ (b ++ (p.1 ∷ (hs ++ z))))) in
    let front = a ++ (p.0 ∷ (gs ++ b)) in
    let lg = length-map ps (λ p. p.0) in
    let long : length front ≡ n + i = length-append a (p.0 ∷ (gs ++ b)) ∙ (let l = length-append gs b in omega (arith, l, lg)) in
    let is_front : row ≡ front ++ (p.1 ∷ (hs ++ z)) = sym (append_assoc a (p.0 ∷ (gs ++ b)) (p.1 ∷ (hs ++ z)) ∙ ap (λ t. a ++ (p.0 ∷ t)) (append_assoc gs b (p.1 ∷ (hs ++ z)))) in
    let is_next : row ≡ (a ++ (p.0 ∷ [])) ++ (gs ++ ((b ++ (p.1 ∷ [])) ++ (hs ++ z))) =
    sym (append_assoc a (p.0 ∷ []) _ ∙ ap (λ t. a ++ (p.0 ∷ (gs ++ t))) (append_assoc b (p.1 ∷ []) (hs ++ z))) in
    let first : take 1 (drop (slot (Halves n) (i + i)) row) ≡ p.0 ∷ [] = ap (λ t. take 1 (drop t row)) (even_slot n i) ∙ take_at_one a p.0 _ i la in
    let second : take 1 (drop (slot (Halves n) (i + i + 1)) row) ≡ p.1 ∷ [] = ap (λ t. take 1 (drop t row)) (odd_slot n i) ∙ ap (λ t. take 1 (drop (n + i) t)) is_front ∙ take_at_one front p.1 (hs ++ z) (n + i) long in
    let next : i + i + 1 + 1 ≡ (i + 1) + (i + 1) = omega arith in
    let la' = length-append a (p.0 ∷ []) in
    let lb' = length-append b (p.1 ∷ []) in
    let ih = order_halves n (i + 1) k ps (a ++ (p.0 ∷ [])) (b ++ (p.1 ∷ [])) z (omega (arith, la')) (omega (arith, lb')) (omega arith) (omega arith) in
    ap₂ ◌++◌ first (ap₂ ◌++◌ second (ap₂ (λ t u. in_order (Halves n) t k u) next is_next ∙ ih))

pub order_turn : {V : Type 0} (i k : ℕ) (area : List V) → i + k ≤ length area → in_order InTurn i k area ≡ take k (drop i area)
order_turn i zero area h = refl
order_turn i (suc k) area h =
    let one = take-add 1 k (drop i area) in
    ap (λ t. take 1 (drop i area) ++ t) (order_turn (i + 1) k area (omega arith) ∙ ap (take k) (sym (drop-drop 1 i area))) ∙ sym one ∙ ap (λ t. take t (drop i area)) (let e : 1 + k ≡ suc k = omega arith in e)

-- An area once all elements were put in turn.
pub turn_put : {V : Type 0} (xs area : List V) → length xs ≤ length area → take (length xs) (put_in (with_places InTurn 0 xs) area) ≡ xs
turn_put xs area room =
    let front = take (length xs) area in
    let rest = drop (length xs) area in
    ap (λ t. take (length xs) (put_in (with_places InTurn 0 xs) t)) (sym (take-append-drop (length xs) area))
    ∙ ap (take (length xs)) (put_turn 0 xs [] front rest refl (length-take-le (length xs) area room)) ∙ take_at xs rest (length xs) refl

pub pairs_of_turn : {V : Type 0} (ps : List (V × V)) → pairs_of (in_turn ps) ≡ ps
pairs_of_turn [] = refl
pairs_of_turn (p ∷ ps) = ap (λ t. p ∷ t) (pairs_of_turn ps)

pub length_pairs : {V : Type 0} (n : ℕ) (xs : List V) → length xs ≡ n + n → length (pairs_of xs) ≡ n
length_pairs n xs h = let turn = ap length (pairs_in_turn n xs h) in let l = length_in_turn (pairs_of xs) in omega (arith, turn, l, h)
