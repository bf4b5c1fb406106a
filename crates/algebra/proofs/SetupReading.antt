-- Reading a setup accepts the encodings of setups that are permitted and have room, and nothing else. Assumes nothing.
use Rattle.std.proofs.Common.{◌≡◌, ℕ, ◌+◌, ◌*◌, ◌%◌, ◌<◌, ◌≤◌, true, leb, List, ◌∷◌, ◌++◌, map, length, take, drop, Ok, Err, Result, sym, refl, ap, ◌∙◌, subst, inl, inr, le_trans, add_assoc, arith, length-append, drop-drop, None}
use Rattle.std.proofs.Math.Nat.{min-le_right}
use Rattle.std.proofs.lemmas.Bool.{le-leb, lt-leb, leb-true, cases_lt}
use Rattle.std.proofs.lemmas.List.{take-map, length-map}
use Rattle.algebra.specs.declared.fault.ByteFault.{ByteFault}
use Rattle.algebra.specs.declared.fault.ByteFault.TheVariants.{TooMany, Area}
use Rattle.algebra.specs.declared.run.Order.TheVariants.{Halves}
use Rattle.algebra.specs.Codec.{Codec, IsCodec}
use Rattle.algebra.specs.Bytes.{read_one}
use Rattle.algebra.specs.Varint.{varint, read_count}
use Rattle.algebra.specs.Runs.{slot, in_turn, pairs_of, encode_run, Run, read_run, unless, with_places, Placed, Reading, refuse}
use Rattle.algebra.specs.SetupCode.{SetupOf, most_pairs, encode_setup, read_pairs, read_setup, Acceptable, HasRow, ReadsSetup}
use Rattle.algebra.proofs.Reading.{split_codes, join_codes, read_only, read_each}
use Rattle.algebra.proofs.Varints.{accepts_counts}
use Rattle.algebra.proofs.InOrder.{length_run}
use Rattle.algebra.proofs.Steps.{go_on_ok, provided_ok, unless_ok, same_both}
use Rattle.algebra.proofs.Running.{run_only, run_each}
use Rattle.algebra.proofs.Places.{placed_means, pairs_in_turn, length_in_turn, row_put}

module _ {G V : Type 0} (c : Codec V) (laws : IsCodec c) (means : G → V) (highest : ℕ) (bytes : List ℕ) (before after : List G) where
  -- once all was put, the area begins with the row
  has_row : (s : SetupOf V) (n : ℕ) → length s.pairs ≡ n → 2 * n + 1 ≤ length before → Placed means ((2 * n, s.q) ∷ with_places (Halves n) 0 (in_turn s.pairs)) before after → HasRow c means s after
  has_row s n long room placed =
      sym (take-map means (2 * length s.pairs + 1) after) ∙ ap (λ t. take (2 * t + 1) (map means after)) long ∙ ap (take (2 * n + 1)) (placed_means means _ before after placed)
      ∙ row_put n s.q s.pairs (map means before) long (let l = length-map before means in omega (arith, l, room))

  setup_length : (s : SetupOf V) → length (encode_setup c s) ≡ c.size + length (varint (length s.pairs)) + 2 * length s.pairs * c.size
  setup_length s =
      let n = length s.pairs in
      let a = length-append (c.encode s.q) (varint n ++ encode_run c (in_turn s.pairs)) in
      let b = length-append (varint n) (encode_run c (in_turn s.pairs)) in
      let r = length_run c laws (in_turn s.pairs) in
      let d : length (in_turn s.pairs) ≡ 2 * n = length_in_turn s.pairs ∙ (let e : n + n ≡ 2 * n = omega arith in e) in
      let rd = ap (λ t. t * c.size) d in
      omega (arith, a, b, r, rd, laws.sized s.q)

  setup_only : (n used : ℕ) → (read_setup c highest (length before) bytes).answer ≡ Ok (n, used) → Placed means (read_setup c highest (length before) bytes).placed before after
      → (s : SetupOf V) × Acceptable c means highest (length before) bytes s × (n ≡ length s.pairs) × (used ≡ length (encode_setup c s)) × HasRow c means s after
  unfolding read_setup
  setup_only n used ok placed =
      let q = go_on_ok (read_one c 0 bytes) _ (n, used) ok in
      let m = go_on_ok (read_count c.size (drop c.size bytes)) _ (n, used) (ap (λ (r : Reading (ℕ × ℕ) V). r.answer) (sym q.2) ∙ ok) in
      let few = provided_ok (leb m.0.0 (most_pairs highest)) _ _ (n, used) (ap (λ (r : Reading (ℕ × ℕ) V). r.answer) (sym (q.2 ∙ m.2)) ∙ ok) in
      let fit = provided_ok (leb (2 * m.0.0 + 1) (length before)) _ _ (n, used) (ap (λ (r : Reading (ℕ × ℕ) V). r.answer) (sym (q.2 ∙ m.2 ∙ few.1)) ∙ ok) in
      let count = m.0.0 in
      let wide = m.0.1 in
      let at = c.size + wide in
      let whole = q.2 ∙ m.2 ∙ few.1 ∙ fit.1 in
      let ended = unless_ok (read_run c (2 * count) at bytes).refused _ (n, used) (ap (λ (r : Reading (ℕ × ℕ) V). r.answer) (sym whole) ∙ ok) in
      let same = same_both count n (at + 2 * count * c.size) used ended.1 in
      let xs = (read_run c (2 * count) at bytes).accepted in
      let run = run_only c laws (2 * count) at bytes ended.0 in
      let turn = pairs_in_turn count xs (run.0 ∙ (let e : 2 * count ≡ count + count = omega arith in e)) in
      let s : SetupOf V = record { q = q.0; pairs = pairs_of xs } in
      let long : length s.pairs ≡ count = (let l = length_in_turn s.pairs in let k = ap length turn ∙ run.0 in omega (arith, l, k)) in
      let counted = (accepts_counts c.size (drop c.size bytes) _ refl).only count wide m.1 in
      let code_q = read_only c laws 0 bytes q.0 q.1 in
      let code_n : take wide (drop c.size bytes) ≡ varint (length s.pairs) = counted.2 ∙ ap varint (sym long) in
      let code_xs : take (2 * count * c.size) (drop wide (drop c.size bytes)) ≡ encode_run c (in_turn s.pairs) = ap (take (2 * count * c.size)) (drop-drop wide c.size bytes) ∙ run.1 ∙ ap (encode_run c) (sym turn) in
      let code = join_codes c.size (wide + 2 * count * c.size) bytes _ _ code_q (join_codes wide (2 * count * c.size) (drop c.size bytes) _ _ code_n code_xs) in
      let total : length (encode_setup c s) ≡ c.size + (wide + 2 * count * c.size) = setup_length s ∙ (let w = counted.1 ∙ ap (λ t. length (varint t)) (sym long) in let k = ap (λ t. 2 * t * c.size) long in omega (arith, w, k)) in
      let parts : Placed means ((2 * count, q.0) ∷ with_places (Halves count) 0 xs) before after = subst (λ (r : Reading (ℕ × ℕ) V). Placed means r.placed before after) whole placed in (
        s,
        record {
          permitted = rw long (leb-true count (most_pairs highest) few.0);
          room_for = rw long (leb-true (2 * count + 1) (length before) fit.0);
          begins = ap (λ t. take t bytes) total ∙ code;
        },
        sym same.0 ∙ sym long,
        (let e = same.1 in omega (arith, e, total)),
        has_row s count long (leb-true (2 * count + 1) (length before) fit.0) (subst (λ t. Placed means ((2 * count, q.0) ∷ with_places (Halves count) 0 t) before after) (sym turn) parts),
      )

  setup_each : (s : SetupOf V) → Acceptable c means highest (length before) bytes s → Placed means (read_setup c highest (length before) bytes).placed before after
      → ((read_setup c highest (length before) bytes).answer ≡ Ok (length s.pairs, length (encode_setup c s))) × HasRow c means s after
  unfolding read_setup
  setup_each s a placed =
      let n = length s.pairs in
      let wide = length (varint n) in
      let at = c.size + wide in
      let turns : length (in_turn s.pairs) ≡ 2 * n = length_in_turn s.pairs ∙ (let e : n + n ≡ 2 * n = omega arith in e) in
      let total : length (encode_setup c s) ≡ c.size + (wide + 2 * n * c.size) = setup_length s ∙ add_assoc c.size wide (2 * n * c.size) in
      let p = split_codes c.size (wide + 2 * n * c.size) bytes _ _ (laws.sized s.q) (ap (λ t. take t bytes) (sym total) ∙ a.begins) in
      let m = split_codes wide (2 * n * c.size) (drop c.size bytes) _ _ refl p.1 in
      let q : read_one c 0 bytes ≡ Ok s.q = read_each c laws 0 bytes s.q p.0 in
      let most = a.permitted in
      let small : n ≤ 1048576 = le_trans most (min-le_right highest 1048576) in
      let count : read_count c.size (drop c.size bytes) ≡ Ok (n, wide) = (accepts_counts c.size (drop c.size bytes) _ refl).each n (omega (arith, small)) m.0 in
      let few : leb n (most_pairs highest) ≡ true = le-leb n (most_pairs highest) most in
      let fit : leb (2 * n + 1) (length before) ≡ true = le-leb (2 * n + 1) (length before) a.room_for in
      let code : take (length (in_turn s.pairs) * c.size) (drop at bytes) ≡ encode_run c (in_turn s.pairs) =
      ap (λ t. take (t * c.size) (drop at bytes)) turns ∙ ap (take (2 * n * c.size)) (sym (drop-drop wide c.size bytes)) ∙ m.1 in
      let run : read_run c (2 * n) at bytes ≡ record { accepted = in_turn s.pairs; refused = None } = ap (λ t. read_run c t at bytes) (sym turns) ∙ run_each c laws (in_turn s.pairs) at bytes code in
      let whole : read_setup c highest (length before) bytes ≡ read_pairs c s.q n at bytes = rw (q, count, few, fit) refl in
      let ended : (read_pairs c s.q n at bytes).answer ≡ Ok (n, at + 2 * n * c.size) = ap (λ (r : Run c). unless r.refused (Ok (n, at + 2 * n * c.size))) run in
      let parts : Placed means ((2 * n, s.q) ∷ with_places (Halves n) 0 (read_run c (2 * n) at bytes).accepted) before after = subst (λ (r : Reading (ℕ × ℕ) V). Placed means r.placed before after) whole placed in (
        ap (λ (r : Reading (ℕ × ℕ) V). r.answer) whole ∙ ended ∙ ap (λ t. Ok (n, t)) (add_assoc c.size wide (2 * n * c.size) ∙ sym total),
        has_row s n refl a.room_for (subst (λ t. Placed means ((2 * n, s.q) ∷ with_places (Halves n) 0 t) before after) (ap (λ (r : Run c). r.accepted) run) parts),
      )

  pub reads_setup : (r : Result (ℕ × ℕ) ByteFault) (reading : Reading (ℕ × ℕ) V) → read_setup c highest (length before) bytes ≡ reading → r ≡ reading.answer → Placed means reading.placed before after
      → ReadsSetup c means highest bytes before after r
  reads_setup r reading is answer placed =
      let answered = answer ∙ ap (λ (r : Reading (ℕ × ℕ) V). r.answer) (sym is) in
      let put = subst (λ (r : Reading (ℕ × ℕ) V). Placed means r.placed before after) (sym is) placed in
      record {
        answer = answered;
        area = put;
        accepts = record {
          only = λ n used ok. setup_only n used (sym answered ∙ ok) put;
          each = λ s a. (let e = setup_each s a put in (answered ∙ e.0, e.1));
        };
      }

-- What reading a setup does, by the first test that refuses, or where none does.
module _ {V : Type 0} (c : Codec V) (highest room : ℕ) (bytes : List ℕ) where
  pub setup_refused_q : (e : ByteFault) → Err e ≡ read_one c 0 bytes → read_setup c highest room bytes ≡ refuse e
  unfolding read_setup
  setup_refused_q e is = rw (← is) refl

  module _ (q : V) (at : ℕ) (is_q : Ok q ≡ read_one c 0 bytes) (is_at : at ≡ c.size) where
    pub setup_refused_count : (e : ByteFault) → Err e ≡ read_count at (drop at bytes) → read_setup c highest room bytes ≡ refuse e
    unfolding read_setup
    setup_refused_count e is = rw (← is_q, ← rw is_at at is) refl

    module _ (n wide : ℕ) (is_count : Ok (n, wide) ≡ read_count at (drop at bytes)) where
      pub setup_too_many : most_pairs highest < n → read_setup c highest room bytes ≡ refuse (TooMany at)
      unfolding read_setup
      setup_too_many h = rw (← is_q, ← rw is_at at is_count, lt-leb n (most_pairs highest) h, is_at) refl

      module _ (few : n ≤ most_pairs highest) where
        pub setup_no_room : room < 2 * n + 1 → read_setup c highest room bytes ≡ refuse (Area at)
        unfolding read_setup
        setup_no_room h = rw (← is_q, ← rw is_at at is_count, le-leb n (most_pairs highest) few, lt-leb (2 * n + 1) room h, is_at) refl

        pub setup_pairs : 2 * n + 1 ≤ room → read_setup c highest room bytes ≡ read_pairs c q n (at + wide) bytes
        unfolding read_setup
        setup_pairs h = rw (← is_q, ← rw is_at at is_count, le-leb n (most_pairs highest) few, le-leb (2 * n + 1) room h, is_at) refl

-- Each place of the pairs is within their row.
pub halves_within : (n j : ℕ) → j < 2 * n → slot (Halves n) j < 2 * n
halves_within n j h = elim (cases_lt (j % 2) 1) [
  | inl even ↦ let e : j % 2 ≡ 0 = omega arith in rw e (omega arith)
  | inr odd ↦ let e : j % 2 ≡ 1 = omega arith in rw e (omega arith)
]
