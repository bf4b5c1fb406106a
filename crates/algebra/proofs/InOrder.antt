-- The elements of an area in the order in which they are written, and the loop that writes them. Assumes nothing.
use Rattle.std.proofs.Common.{◌≡◌, ℕ, zero, suc, ◌+◌, ◌-◌, ◌*◌, ◌<◌, ◌≤◌, List, [], ◌∷◌, ◌++◌, map, length, get_or, take, drop, Ok, Err, Result, sym, refl, ap, ◌∙◌, append_assoc, append-nil, add-zero, mul-le-mul_right, suc-mul, zero-add, zero-mul, add-one, arith, length-append, length-drop}
use borrow.Rule.Slice.PartMut.{put_mid}
use Rattle.std.proofs.lemmas.List.{flat_map_more, map-append, length-map}
use Rattle.algebra.specs.declared.fault.ByteFault.{ByteFault}
use Rattle.algebra.specs.declared.fault.ByteFault.TheVariants.{Output}
use Rattle.algebra.specs.declared.run.Order.{Order}
use Rattle.algebra.specs.Codec.{Codec, IsCodec}
use Rattle.algebra.specs.Bytes.{Written}
use Rattle.algebra.specs.Runs.{slot, in_order, encode_run}
use Rattle.algebra.proofs.Summing.{left_at}
use Rattle.algebra.proofs.Writing.{Holds, holds_length, holds_next, held_written, too_short}

pub length_run : {V : Type 0} (c : Codec V) → IsCodec c → (xs : List V) → length (encode_run c xs) ≡ length xs * c.size
length_run c laws [] = sym (zero-mul c.size)
length_run c laws (x ∷ xs) =
    let a = length-append (c.encode x) (encode_run c xs) in
    let ih = length_run c laws xs in
    let m = suc-mul (length xs) c.size in
    omega (arith, a, ih, m, laws.sized x)

pub run_push : {V : Type 0} (c : Codec V) (xs : List V) (x : V) → encode_run c (xs ++ (x ∷ [])) ≡ encode_run c xs ++ c.encode x
run_push c xs x = sym (flat_map_more c.encode [] xs x)

pub run_append : {V : Type 0} (c : Codec V) (xs ys : List V) → encode_run c (xs ++ ys) ≡ encode_run c xs ++ encode_run c ys
run_append c [] ys = refl
run_append c (x ∷ xs) ys = ap (λ t. c.encode x ++ t) (run_append c xs ys) ∙ sym (append_assoc (c.encode x) (encode_run c xs) (encode_run c ys))

one_long : {X : Type 0} (xs : List X) → 0 < length xs → length (take 1 xs) ≡ 1
one_long [] h = absurd (omega arith)
one_long (x ∷ xs) h = refl

pub in_order_length : {G : Type 0} (order : Order) (j k : ℕ) (area : List G) → ((i : ℕ) → i < j + k → slot order i < length area) → length (in_order order j k area) ≡ k
in_order_length order j zero area h = refl
in_order_length order j (suc k) area h =
    let a = length-append (take 1 (drop (slot order j) area)) (in_order order (j + 1) k area) in
    let inside = h j (omega arith) in
    let one = one_long (drop (slot order j) area) (simp length-drop (omega (arith, inside))) in
    let ih = in_order_length order (j + 1) k area (λ i l. h i (omega arith)) in
    omega (arith, a, one, ih)

in_order_push : {G : Type 0} (order : Order) (j k : ℕ) (area : List G) → in_order order j (suc k) area ≡ in_order order j k area ++ take 1 (drop (slot order (j + k)) area)
in_order_push order j zero area = append-nil _ ∙ ap (λ t. take 1 (drop (slot order t) area)) (sym (add-zero j))
in_order_push order j (suc k) area =
    let same : j + 1 + k ≡ j + suc k = omega arith in
    ap (λ t. take 1 (drop (slot order j) area) ++ t) (in_order_push order (j + 1) k area)
    ∙ sym (append_assoc (take 1 (drop (slot order j) area)) (in_order order (j + 1) k area) _)
    ∙ ap (λ t. (take 1 (drop (slot order j) area) ++ in_order order (j + 1) k area) ++ take 1 (drop (slot order t) area)) same

one_at : {G : Type 0} (area : List G) (s : ℕ) (x : G) → s < length area → x ≡ get_or area s x → take 1 (drop s area) ≡ x ∷ []
one_at area s x h e = ap (take 1) (left_at area s x h e)

-- The first j elements, as they are written.
abbrev codes : {G V : Type 0} → Codec V → (G → V) → Order → List G → ℕ → List ℕ
codes c means order area j = encode_run c (map means (in_order order 0 j area))

-- j elements were written.
pub record Wrote {G V : Type 0} (c : Codec V) (means : G → V) (order : Order) (area : List G) (out : List ℕ) (j end : ℕ) (buffer : List ℕ) : Type 0 where
  pub inside : end ≤ length buffer
  pub long : end ≡ length (codes c means order area j)
  pub holds : Holds (codes c means order area j) out buffer

pub wrote_none : {G V : Type 0} (c : Codec V) (means : G → V) (order : Order) (area : List G) (out : List ℕ) → Wrote c means order area out 0 0 out
wrote_none c means order area out = record { inside = omega arith; long = refl; holds = refl }

module _ {G V : Type 0} (c : Codec V) (laws : IsCodec c) (means : G → V) (order : Order) (k : ℕ) (area : List G) (within : (j : ℕ) → j < k → slot order j < length area) (out : List ℕ) where
  pub codes_length : (j : ℕ) → j ≤ k → length (codes c means order area j) ≡ j * c.size
  codes_length j h =
      length_run c laws (map means (in_order order 0 j area))
      ∙ ap (λ t. t * c.size) (length-map (in_order order 0 j area) means ∙ in_order_length order 0 j area (λ i l. within i (omega arith)))

  pub wrote_short : length out < k * c.size → Written (codes c means order area k) out out (Err Output)
  wrote_short h = too_short _ out (let s = codes_length k (omega arith) in omega (arith, h, s))

  module _ (room : k * c.size ≤ length out) (j end : ℕ) (buffer : List ℕ) (w : Wrote c means order area out j end buffer) where
    fits : j < k → (x : G) → length (codes c means order area j) + length (c.encode (means x)) ≤ length out
    fits h x =
        let more = mul-le-mul_right {m = suc j} {n = k} c.size (omega arith) in
        omega (arith, codes_length j (omega arith), laws.sized (means x), suc-mul j c.size, more, room)

    pub wrote_more : (place : ℕ) (x : G) (after : List ℕ) (r : Result ℕ ByteFault) (width : ℕ) → j < k → place ≡ slot order j → x ≡ get_or area place x
        → Written (c.encode (means x)) (take (length buffer - end) (drop end buffer)) after r → width ≡ c.size → Wrote c means order area out (j + 1) (end + width) (put_mid end (length buffer - end) buffer after)
    wrote_more place x after r width h at_place is written wide =
        let one = one_at area (slot order j) x (within j h) (rw at_place at is) in
        let push = in_order_push order 0 j area in
        let next : in_order order 0 j area ++ (x ∷ []) ≡ in_order order 0 (j + 1) area = ap (λ t. in_order order 0 j area ++ t) (sym one) ∙ sym (rw (zero-add j) at push) ∙ ap (λ t. in_order order 0 t area) (sym (add-one j)) in
        let code : codes c means order area j ++ c.encode (means x) ≡ codes c means order area (j + 1) =
        sym (run_push c (map means (in_order order 0 j area)) (means x)) ∙ ap (encode_run c) (sym (map-append means (in_order order 0 j area) (x ∷ [])) ∙ ap (map means) next) in
        let total = ap length (sym code) ∙ length-append (codes c means order area j) (c.encode (means x)) in
        let holds = holds_next (codes c means order area j) (c.encode (means x)) out buffer after end r w.holds w.long written (fits h x) ∙ ap (λ t. t ++ drop (length t) out) code in
        let long : end + width ≡ length (codes c means order area (j + 1)) = omega (arith, total, w.long, wide, laws.sized (means x)) in
        let fit : length (codes c means order area (j + 1)) ≤ length out = omega (arith, fits h x, total) in
        record { inside = omega (arith, long, fit, holds_length _ out _ holds fit); long = long; holds = holds }

    pub wrote_all : j ≡ k → Written (codes c means order area k) out buffer (Ok end)
    wrote_all all = rw (← all) (held_written (codes c means order area j) out buffer end w.holds w.long (let s = codes_length j (omega arith) in let t = ap (λ t. t * c.size) all in omega (arith, s, t, room)))
