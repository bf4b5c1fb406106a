-- The loop that writes multiples over the front of a slice, turn by turn. Assumes nothing.
use Rattle.std.proofs.Common.{◌≡◌, ℕ, zero, suc, ◌+◌, ◌-◌, ◌<◌, ◌≤◌, List, [], ◌∷◌, ◌++◌, map, length, get_or, take, drop, set, sym, refl, ap, ◌∙◌, ap₂, append_assoc, append-nil, arith, length-set}
use Rattle.std.proofs.Math.Nat.{sub-zero}
use Rattle.std.proofs.lemmas.List.{map-append, map_push, length-map, take_more_set, drop-set-lt, drop_all, take_all, take_at, take-append-drop, drop-map}
use Rattle.algebra.specs.Structures.{FieldOps, IsField, SpaceOps}
use Rattle.algebra.specs.Sums.{powers}
use Rattle.algebra.specs.Folds.{multiples, written_over}
use Rattle.algebra.proofs.Summing.{left_at, mul_by_one, powers_more}
use Rattle.algebra.proofs.Folding.{further}

length-powers : {E : Type 0} (K : FieldOps E) (y : E) (n : ℕ) → length (powers K y n) ≡ n
length-powers K y zero = refl
length-powers K y (suc n) = ap suc (length-map (powers K y n) (K.mul y) ∙ length-powers K y n)

length-multiples : {E V : Type 0} (S : SpaceOps E V) (ss : List E) (vs : List V) → length ss ≡ length vs → length (multiples S ss vs) ≡ length vs
length-multiples S [] [] e = refl
length-multiples S [] (v ∷ vs) e = absurd (omega arith)
length-multiples S (s ∷ ss) [] e = absurd (omega arith)
length-multiples S (s ∷ ss) (v ∷ vs) e = ap suc (length-multiples S ss vs (omega arith))

multiples_none : {E V : Type 0} (S : SpaceOps E V) (ss : List E) → multiples S ss [] ≡ []
multiples_none S [] = refl
multiples_none S (s ∷ ss) = refl

module _ {E V G : Type 0} (K : FieldOps E) (S : SpaceOps E V) (means : G → V) (y : E) (values before : List G) where
  abbrev n : ℕ
  n = length values

  abbrev whole : List V
  whole = multiples S (powers K y n) (map means values)

  -- i entries were written, and w is y^i.
  pub record Weighing (i : ℕ) (w : E) (area : List G) : Type 0 where
    pub done : map means (take i area) ++ multiples S (map (K.mul w) (powers K y (n - i))) (drop i (map means values)) ≡ whole
    pub rest : drop i area ≡ drop i before
    pub long : length area ≡ length before

  pub weighing_none : IsField K → (w : E) → w ≡ K.one → Weighing 0 w before
  weighing_none laws w is = record {
    done = ap (λ t. multiples S t (map means values)) (ap (λ t. map (K.mul t) (powers K y (n - 0))) is ∙ mul_by_one laws (powers K y (n - 0)) ∙ ap (powers K y) (sub-zero n));
    rest = refl;
    long = refl;
  }

  whole_long : length whole ≡ n
  whole_long = length-multiples S (powers K y n) (map means values) (length-powers K y n ∙ sym (length-map values means)) ∙ length-map values means

  module _ (i : ℕ) (w : E) (area : List G) (f : Weighing i w area) where
    pub weighing_more : IsField K → (a x : G) (next : E) → i < n → i < length area → a ≡ get_or values i a → means x ≡ S.scale w (means a) → next ≡ K.mul w y → Weighing (i + 1) next (set area i x)
    weighing_more laws a x next h inside is_a is_x is_next =
        let one_less : n - i ≡ suc (n - (i + 1)) = omega arith in
        let first : drop i (map means values) ≡ means a ∷ drop (i + 1) (map means values) = drop-map means i values ∙ ap (map means) (left_at values i a h is_a) ∙ ap (λ t. means a ∷ t) (sym (drop-map means (i + 1) values)) in
        let left : multiples S (map (K.mul w) (powers K y (n - i))) (drop i (map means values)) ≡ means x ∷ multiples S (map (K.mul next) (powers K y (n - (i + 1)))) (drop (i + 1) (map means values)) =
        ap₂ (multiples S) (powers_more laws w y (n - i) (n - (i + 1)) one_less) first
        ∙ ap₂ (λ t u. t ∷ multiples S (map (K.mul u) (powers K y (n - (i + 1)))) (drop (i + 1) (map means values))) (sym is_x) (sym is_next) in
        record {
          done =
              ap (λ t. map means t ++ multiples S (map (K.mul next) (powers K y (n - (i + 1)))) (drop (i + 1) (map means values))) (take_more_set area i x inside)
              ∙ ap (λ t. t ++ multiples S (map (K.mul next) (powers K y (n - (i + 1)))) (drop (i + 1) (map means values))) (map_push means (take i area) x)
              ∙ append_assoc (map means (take i area)) (means x ∷ []) _ ∙ ap (λ t. map means (take i area) ++ t) (sym left) ∙ f.done;
          rest = drop-set-lt (i + 1) area i x (omega arith) ∙ further area before i (i + 1) (omega arith) f.rest;
          long = length-set area i x ∙ f.long;
        }

    -- all were written
    pub weighed_all : n ≤ i → i ≤ n → i ≤ length area → (map means area ≡ written_over whole (map means before)) × (drop n area ≡ drop n before)
    weighed_all h k room =
        let l = length-map values means in
        let none_left = ap (multiples S (map (K.mul w) (powers K y (n - i)))) (drop_all i (map means values) (omega (arith, l))) ∙ multiples_none S (map (K.mul w) (powers K y (n - i))) in
        let front : map means (take i area) ≡ whole = sym (append-nil (map means (take i area))) ∙ ap (λ t. map means (take i area) ++ t) (sym none_left) ∙ f.done in
        let fits : take (length (map means before)) whole ≡ whole = take_all _ whole (let m = length-map before means in omega (arith, whole_long, m, room, f.long, k, h)) in
        let behind : map means (drop i area) ≡ drop (length whole) (map means before) = ap (map means) f.rest ∙ sym (drop-map means i before) ∙ ap (λ t. drop t (map means before)) (omega (arith, whole_long, h, k)) in (
          ap (map means) (sym (take-append-drop i area)) ∙ map-append means (take i area) (drop i area) ∙ ap₂ ◌++◌ (front ∙ sym fits) behind,
          further area before i n k f.rest,
        )

    -- the output is full
    pub weighed_full : length area ≤ i → i ≤ n → (map means area ≡ written_over whole (map means before)) × (drop n area ≡ drop n before)
    weighed_full h k =
        let m = length-map before means in
        let a = length-map area means in
        let front : take (length (map means before)) whole ≡ map means area =
        ap (take (length (map means before))) (sym f.done ∙ ap (λ t. map means t ++ multiples S (map (K.mul w) (powers K y (n - i))) (drop i (map means values))) (take_all i area h))
        ∙ take_at (map means area) _ (length (map means before)) (omega (arith, m, a, f.long)) in
        let none_behind : drop (length whole) (map means before) ≡ [] = drop_all (length whole) (map means before) (omega (arith, whole_long, m, h, k, f.long)) in
        (sym (append-nil (map means area)) ∙ ap₂ ◌++◌ (sym front) (sym none_behind), further area before i n k f.rest)
