-- The loop that folds a slice in place, turn by turn. Assumes nothing.
use Rattle.std.proofs.Common.{◌≡◌, ℕ, ◌+◌, ◌-◌, ◌<◌, ◌≤◌, min, List, [], ◌∷◌, ◌++◌, map, length, get_or, take, drop, set, sym, refl, ap, ◌∙◌, ap₂, inl, inr, append_assoc, append-nil, arith, subst, length-append, length-drop, length-set, length-take}
use Rattle.std.proofs.lemmas.List.{map-append, map_push, length-map, get_or-map, get_or-take, get_or-drop, take_more_set, drop-set-lt, drop_all, drop-drop, take-append-drop, drop-map, set-append_left, get_or_append_left, get_or-append_right}
use Rattle.std.proofs.lemmas.Bool.{cases_lt}
use Rattle.algebra.specs.Structures.{SpaceOps}
use Rattle.algebra.specs.Folds.{mix, folded}
use Rattle.algebra.proofs.Summing.{left_at}

-- lists that are the same from i on have the same entries there
same_from : {X : Type 0} (xs ys : List X) (i k : ℕ) (d : X) → drop i xs ≡ drop i ys → i ≤ k → get_or xs k d ≡ get_or ys k d
same_from xs ys i k d e h =
    let back : i + (k - i) ≡ k = omega arith in
    ap (λ t. get_or xs t d) (sym back) ∙ sym (get_or-drop i xs (k - i) d) ∙ ap (λ l. get_or l (k - i) d) e ∙ get_or-drop i ys (k - i) d ∙ ap (λ t. get_or ys t d) back

pub further : {X : Type 0} (xs ys : List X) (i n : ℕ) → i ≤ n → drop i xs ≡ drop i ys → drop n xs ≡ drop n ys
further xs ys i n h e =
    let back : i + (n - i) ≡ n = omega arith in
    ap (λ t. drop t xs) (sym back) ∙ sym (drop-drop (n - i) i xs) ∙ ap (drop (n - i)) e ∙ drop-drop (n - i) i ys ∙ ap (λ t. drop t ys) back

-- nothing is past the end
from_min : {X : Type 0} (xs : List X) (n i : ℕ) → i ≡ min n (length xs) → drop i xs ≡ drop n xs
from_min xs n i e = elim (cases_lt (length xs) n) [
  | inl short ↦ drop_all i xs (omega arith) ∙ sym (drop_all n xs (omega arith))
  | inr long ↦ ap (λ t. drop t xs) (let same : i ≡ n = omega arith in same)
]

module _ {E V : Type 0} (S : SpaceOps E V) (u v : E) where
  pub mix_nil : (xs : List V) → mix S u xs v [] ≡ map (S.scale u) xs
  mix_nil [] = refl
  mix_nil (x ∷ xs) = refl

  module _ {G : Type 0} (means : G → V) (mid : ℕ) (before : List G) where
    abbrev all : List V
    all = map means before

    abbrev lo : List V
    lo = take mid all

    abbrev hi : List V
    hi = take mid (drop mid all)

    -- The entries below i are folded.
    pub record Folding (i : ℕ) (area : List G) : Type 0 where
      pub done : map means (take i area) ++ mix S u (drop i lo) v (drop i hi) ≡ mix S u lo v hi
      pub rest : drop i area ≡ drop i before
      pub long : length area ≡ length before

    module _ (i : ℕ) (area : List G) (f : Folding i area) where
      module _ (a : G) (is_a : a ≡ get_or area i a) (below : i < mid) (inside : i < length area) where
        low : drop i lo ≡ means a ∷ drop (i + 1) lo
        low =
            let l = length-map before means in
            let in_all : i < length all = omega (arith, l, f.long) in
            let in_lo : i < length lo = (let t = length-take mid all in omega (arith, t)) in
            let entry : get_or lo i (means a) ≡ means a = get_or-take mid all i (means a) below ∙ get_or-map means before i a (means a) (omega (arith, f.long)) ∙ ap means (sym (same_from area before i i a f.rest (omega arith)) ∙ sym is_a) in
            left_at lo i (means a) in_lo (sym entry)

        next : (x : G) (rest : List V) → mix S u (drop i lo) v (drop i hi) ≡ means x ∷ rest → rest ≡ mix S u (drop (i + 1) lo) v (drop (i + 1) hi) → Folding (i + 1) (set area i x)
        next x rest is same = record {
          done =
              ap (λ t. map means t ++ mix S u (drop (i + 1) lo) v (drop (i + 1) hi)) (take_more_set area i x inside)
              ∙ ap₂ ◌++◌ (map_push means (take i area) x) (sym same)
              ∙ append_assoc (map means (take i area)) (means x ∷ []) rest ∙ ap (λ t. map means (take i area) ++ t) (sym is) ∙ f.done;
          rest = drop-set-lt (i + 1) area i x (omega arith) ∙ further area before i (i + 1) (omega arith) f.rest;
          long = length-set area i x ∙ f.long;
        }

        pub folding_pair : (b x : G) → mid + i < length area → b ≡ get_or area (mid + i) b → means x ≡ S.add (S.scale u (means a)) (S.scale v (means b)) → Folding (i + 1) (set area i x)
        folding_pair b x partner is_b is_x =
            let l = length-map before means in
            let d = length-drop mid all in
            let in_hi : i < length hi = (let t = length-take mid (drop mid all) in omega (arith, t, d, l, f.long, partner)) in
            let entry : get_or hi i (means b) ≡ means b =
            get_or-take mid (drop mid all) i (means b) below ∙ get_or-drop mid all i (means b) ∙ get_or-map means before (mid + i) b (means b) (omega (arith, f.long, partner))
            ∙ ap means (sym (same_from area before i (mid + i) b f.rest (omega arith)) ∙ sym is_b) in
            let high = left_at hi i (means b) in_hi (sym entry) in
            next x (mix S u (drop (i + 1) lo) v (drop (i + 1) hi)) (ap₂ (λ t w. mix S u t v w) low high ∙ ap (λ t. t ∷ mix S u (drop (i + 1) lo) v (drop (i + 1) hi)) (sym is_x)) refl

        pub folding_alone : (x : G) → length area ≤ mid + i → means x ≡ S.scale u (means a) → Folding (i + 1) (set area i x)
        folding_alone x none_above is_x =
            let l = length-map before means in
            let d = length-drop mid all in
            let t = length-take mid (drop mid all) in
            let none_left : drop i hi ≡ [] = drop_all i hi (omega (arith, t, d, l, f.long, none_above)) in
            let none_then : drop (i + 1) hi ≡ [] = drop_all (i + 1) hi (omega (arith, t, d, l, f.long, none_above)) in
            next x (map (S.scale u) (drop (i + 1) lo)) (ap₂ (λ t w. mix S u t v w) low none_left ∙ ap (λ t. t ∷ map (S.scale u) (drop (i + 1) lo)) (sym is_x))
            (sym (ap (λ w. mix S u (drop (i + 1) lo) v w) none_then ∙ mix_nil (drop (i + 1) lo)))

      pub folding_done : min mid (length area) ≤ i → i ≤ min mid (length area) → (map means area ≡ folded S u v mid all) × (drop mid area ≡ drop mid before)
      folding_done h k =
          let l = length-map before means in
          let none_lo : drop i lo ≡ [] = drop_all i lo (let t = length-take mid all in omega (arith, t, l, f.long, h)) in
          let none_hi : drop i hi ≡ [] = drop_all i hi (let t = length-take mid (drop mid all) in let d = length-drop mid all in omega (arith, t, d, l, f.long, h)) in
          let front : map means (take i area) ≡ mix S u lo v hi = sym (append-nil (map means (take i area))) ∙ ap (λ t. map means (take i area) ++ t) (sym (ap₂ (λ t w. mix S u t v w) none_lo none_hi)) ∙ f.done in
          let past : drop i area ≡ drop mid before = f.rest ∙ from_min before mid i (omega (arith, h, k, f.long)) in (
            ap (map means) (sym (take-append-drop i area)) ∙ map-append means (take i area) (drop i area) ∙ ap₂ ◌++◌ front (ap (map means) past ∙ sym (drop-map means mid before)),
            further area before i mid (min_below (length area) k) f.rest,
          )
        where
          min_below : (n : ℕ) → i ≤ min mid n → i ≤ mid
          min_below n le = omega arith

    -- One entry more, of an area in two parts of which the first has what is folded.
    module _ (low high : List G) (i : ℕ) (f : Folding i (low ++ high)) (a : G) (is_a : a ≡ get_or low i a) (inside : i < length low) (cut : length low ≡ min mid (length before)) where
      whole : length low + length high ≡ length before
      whole = sym (length-append low high) ∙ f.long

      at_i : a ≡ get_or (low ++ high) i a
      at_i = is_a ∙ sym (get_or_append_left low high a i inside)

      in_whole : i < length (low ++ high)
      in_whole = omega (arith, length-append low high)

      pub pair_in_parts : (b x : G) → i < length high → b ≡ get_or high i b → means x ≡ S.add (S.scale u (means a)) (S.scale v (means b)) → Folding (i + 1) (set low i x ++ high)
      pair_in_parts b x partner is_b is_x =
          let long : length low ≡ mid = omega (arith, whole, cut) in
          let behind : mid + i - mid ≡ i = omega arith in
          let at_b : b ≡ get_or (low ++ high) (mid + i) b = is_b ∙ sym (get_or-append_right low high mid (mid + i) b long (omega arith) ∙ ap (λ t. get_or high t b) behind) in
          subst (Folding (i + 1)) (set-append_left low high i x inside)
          (folding_pair i (low ++ high) f a at_i (omega (arith, long, inside)) in_whole b x (omega (arith, length-append low high, long, partner)) at_b is_x)

      pub alone_in_parts : (x : G) → length high ≤ i → means x ≡ S.scale u (means a) → Folding (i + 1) (set low i x ++ high)
      alone_in_parts x none_above is_x =
          subst (Folding (i + 1)) (set-append_left low high i x inside)
          (folding_alone i (low ++ high) f a at_i (omega (arith, cut, inside)) in_whole x (omega (arith, length-append low high, cut, none_above)) is_x)

    pub parts_done : (low high : List G) (i : ℕ) → Folding i (low ++ high) → length low ≡ min mid (length before) → length low ≤ i → i ≤ length low
        → (map means (low ++ high) ≡ folded S u v mid all) × (drop mid (low ++ high) ≡ drop mid before)
    parts_done low high i f cut h k = folding_done i (low ++ high) f (omega (arith, cut, h, f.long)) (omega (arith, cut, k, f.long))
