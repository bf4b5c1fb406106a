-- Reading a proof accepts the encodings of proofs that are permitted and have room, and nothing else. Assumes nothing.
use Rattle.std.proofs.Common.{◌≡◌, ℕ, ◌+◌, ◌*◌, ◌^◌, ◌<◌, ◌≤◌, Bool, true, false, cond, ◌||◌, eqb, leb, List, ◌++◌, map, length, take, drop, Ok, Err, Result, sym, refl, ap, ◌∙◌, subst, ap₂, inl, inr, add_assoc, arith, length-append, length-take, drop-drop, pow_mono, None}
use Rattle.std.proofs.lemmas.List.{length-take-le, take-map, length-map}
use Rattle.std.proofs.lemmas.Bool.{leb-true, le-leb, lt-leb, eqb-true, cond-true, cases_lt}
use Rattle.algebra.specs.declared.fault.ByteFault.{ByteFault}
use Rattle.algebra.specs.declared.fault.ByteFault.TheVariants.{Ends, TooMany, Area}
use Rattle.algebra.specs.declared.run.Order.TheVariants.{InTurn}
use Rattle.algebra.specs.declared.proof.Proof.{Proof}
use Rattle.algebra.specs.Codec.{Codec, IsCodec}
use Rattle.algebra.specs.Bytes.{read_one, read_bytes}
use Rattle.algebra.specs.Varint.{varint, read_count}
use Rattle.algebra.specs.Runs.{in_order, in_turn, pairs_of, encode_run, Run, read_run, unless, with_places, Placed, Reading, refuse}
use Rattle.algebra.specs.Proofs.{ProofOf, FinalsOf, finals_of, finals_read, proof_of, permits_rounds, encode_finals, read_finals, encode_proof, proof_size, read_rounds, read_proof, AcceptableProof, ReadsProof}
use Rattle.algebra.proofs.Reading.{and_then_ok, split_codes, join_codes, read_only, read_each}
use Rattle.algebra.proofs.Varints.{accepts_counts}
use Rattle.algebra.proofs.InOrder.{length_run}
use Rattle.algebra.proofs.Running.{run_only, run_each}
use Rattle.algebra.proofs.Places.{placed_means, pairs_in_turn, length_in_turn, order_turn, turn_put, pairs_of_turn, length_pairs}
use Rattle.algebra.proofs.Steps.{go_on_ok, provided_ok, unless_ok, same_both}

-- Bytes that were read are those, and lie within.
bytes_read : (k at : ℕ) (bytes s : List ℕ) (b : Bool) → leb k (length bytes) ≡ b → cond b (Ok (take k bytes)) (Err (Ends at)) ≡ Ok s → (k ≤ length bytes) × (take k bytes ≡ s)
bytes_read k at bytes s true is e = (leb-true k (length bytes) is, cc)
bytes_read k at bytes s false is e = cc

pub bytes_only : (k at : ℕ) (bytes s : List ℕ) → read_bytes k at bytes ≡ Ok s → (k ≤ length bytes) × (take k bytes ≡ s)
bytes_only k at bytes s e = bytes_read k at bytes s (leb k (length bytes)) refl e

-- What follows the rounds, by the field that is refused, or where none is.
module _ {E : Type 0} (n : Codec E) (rounds at a_at b_at : ℕ) (bytes : List ℕ) where
  pub refused_summary : (e : ByteFault) → Err e ≡ read_bytes 32 at (drop at bytes) → read_finals n rounds at bytes ≡ Err e
  unfolding read_finals
  refused_summary e is = rw (← is) refl

  module _ (s : List ℕ) (is_s : Ok s ≡ read_bytes 32 at (drop at bytes)) (is_at : a_at ≡ at + 32) where
    pub refused_a : (e : ByteFault) → Err e ≡ read_one n a_at (drop a_at bytes) → read_finals n rounds at bytes ≡ Err e
    unfolding read_finals
    refused_a e is = rw (← is_s, ← rw is_at at is) refl

    module _ (a : E) (is_a : Ok a ≡ read_one n a_at (drop a_at bytes)) (is_bt : b_at ≡ at + 32 + n.size) where
      pub refused_b : (e : ByteFault) → Err e ≡ read_one n b_at (drop b_at bytes) → read_finals n rounds at bytes ≡ Err e
      unfolding read_finals
      refused_b e is = rw (← is_s, ← rw is_at at is_a, ← rw is_bt at is) refl

      pub read_all : (b : E) (end : ℕ) → Ok b ≡ read_one n b_at (drop b_at bytes) → end ≡ at + 32 + n.size + n.size
          → read_finals n rounds at bytes ≡ Ok (record { rounds = rounds; summary = s; a_final = a; b_final = b }, end)
      unfolding read_finals
      read_all b end is is_end = rw (← is_s, ← rw is_at at is_a, ← rw is_bt at is, is_end) refl

pub length_finals : {E : Type 0} (n : Codec E) → IsCodec n → (s : List ℕ) (a b : E) → length s ≡ 32 → length (encode_finals n s a b) ≡ 32 + n.size + n.size
length_finals n laws s a b long =
    let x = length-append s (n.encode a ++ n.encode b) in
    let y = length-append (n.encode a) (n.encode b) in
    omega (arith, long, x, y, laws.sized a, laws.sized b)

as_long : (k : ℕ) (bytes s : List ℕ) → take k bytes ≡ s → length s ≡ k → k ≤ length bytes
as_long k bytes s e long = let l = ap length e ∙ long in let t = length-take k bytes in omega (arith, l, t)

-- The finals: read exactly from their code.
module _ {E : Type 0} (n : Codec E) (laws : IsCodec n) (rounds at : ℕ) (bytes : List ℕ) where
  abbrev past_summary : drop (at + 32) bytes ≡ drop 32 (drop at bytes)
  past_summary = sym (drop-drop 32 at bytes)

  abbrev past_a : drop (at + 32 + n.size) bytes ≡ drop n.size (drop 32 (drop at bytes))
  past_a = sym (ap (drop n.size) (drop-drop 32 at bytes) ∙ drop-drop n.size (at + 32) bytes)

  pub finals_only : (fin : FinalsOf E) (used : ℕ) → read_finals n rounds at bytes ≡ Ok (fin, used)
      → (fin.rounds ≡ rounds) × (length fin.summary ≡ 32) × (used ≡ at + (32 + n.size + n.size)) × (take (32 + n.size + n.size) (drop at bytes) ≡ encode_finals n fin.summary fin.a_final fin.b_final)
  unfolding read_finals
  finals_only fin used ok =
      let s = and_then_ok (read_bytes 32 at (drop at bytes)) _ (fin, used) ok in
      let a = and_then_ok (read_one n (at + 32) (drop (at + 32) bytes)) _ (fin, used) s.2 in
      let b = and_then_ok (read_one n (at + 32 + n.size) (drop (at + 32 + n.size) bytes)) _ (fin, used) a.2 in
      let same = same_both _ fin (at + 32 + n.size + n.size) used b.2 in
      let code_s = bytes_only 32 at (drop at bytes) s.0 s.1 in
      let code_a = ap (take n.size) (sym past_summary) ∙ read_only n laws (at + 32) (drop (at + 32) bytes) a.0 a.1 in
      let code_b = ap (take n.size) (sym past_a) ∙ read_only n laws (at + 32 + n.size) (drop (at + 32 + n.size) bytes) b.0 b.1 in
      let code = join_codes 32 (n.size + n.size) (drop at bytes) _ _ code_s.1 (join_codes n.size n.size (drop 32 (drop at bytes)) _ _ code_a code_b) in
      let long : length s.0 ≡ 32 = ap length (sym code_s.1) ∙ length-take-le 32 (drop at bytes) code_s.0 in (
        ap (λ (f : FinalsOf E). f.rounds) (sym same.0),
        ap (λ (f : FinalsOf E). length f.summary) (sym same.0) ∙ long,
        (let e = same.1 in omega (arith, e)),
        ap (λ t. take t (drop at bytes)) (add_assoc 32 n.size n.size) ∙ code ∙ ap (λ (f : FinalsOf E). encode_finals n f.summary f.a_final f.b_final) same.0,
      )

  pub finals_each : (s : List ℕ) (a b : E) → length s ≡ 32 → take (32 + n.size + n.size) (drop at bytes) ≡ encode_finals n s a b
      → read_finals n rounds at bytes ≡ Ok (record { rounds = rounds; summary = s; a_final = a; b_final = b }, at + 32 + n.size + n.size)
  finals_each s a b long code =
      let p = split_codes 32 (n.size + n.size) (drop at bytes) _ _ long (ap (λ t. take t (drop at bytes)) (sym (add_assoc 32 n.size n.size)) ∙ code) in
      let m = split_codes n.size n.size (drop 32 (drop at bytes)) _ _ (laws.sized a) p.1 in
      let fits : 32 ≤ length (drop at bytes) = as_long 32 (drop at bytes) s p.0 long in
      let is_s : read_bytes 32 at (drop at bytes) ≡ Ok s = cond-true (leb 32 (length (drop at bytes))) _ _ (le-leb 32 (length (drop at bytes)) fits) ∙ ap Ok p.0 in
      read_all n rounds at (at + 32) (at + 32 + n.size) bytes s (sym is_s) refl a
      (sym (read_each n laws (at + 32) (drop (at + 32) bytes) a (ap (take n.size) past_summary ∙ m.0))) refl b (at + 32 + n.size + n.size)
      (sym (read_each n laws (at + 32 + n.size) (drop (at + 32 + n.size) bytes) b (ap (take n.size) past_a ∙ m.1))) refl

-- Permitted rounds are below 64, where the highest length has 64 bits.
few_or : (highest k : ℕ) (b : Bool) → eqb k 0 ≡ b → highest < 2 ^ 64 → b || leb (2 ^ k) highest ≡ true → k < 64
few_or highest k true is small e = let zero = eqb-true k 0 is in omega (arith, zero)
few_or highest k false is small e = elim (cases_lt k 64) [
  | inl below ↦ below
  | inr above ↦
      let power : 2 ^ 64 ≤ 2 ^ k = pow_mono above in
      let fits = leb-true (2 ^ k) highest e in
      absurd (omega (arith, power, fits, small))
]

few_rounds : (highest k : ℕ) → highest < 2 ^ 64 → permits_rounds highest k ≡ true → k < 64
few_rounds highest k small e = few_or highest k (eqb k 0) refl small e

below_count : (k : ℕ) → k < 64 → k < 4294967296
below_count k h = omega arith

regroup : (a s : ℕ) → a + 32 + s + s ≡ a + (32 + s + s)
regroup a s = omega arith

-- A proof that was answered by its meaning was answered.
was_ok : {F E : Type 0} (f : F → E) (r : Result (Proof F × ℕ) ByteFault) (fin : FinalsOf E) (used : ℕ) → finals_read f r ≡ Ok (fin, used)
    → (p : Proof F) × (r ≡ Ok (p, used)) × (finals_of f p ≡ fin)
was_ok f (Ok q) fin used e =
    let same = same_both (finals_of f q.0) fin q.1 used e in
    (q.0, ap (λ t. Ok (q.0, t)) same.1, same.0)
was_ok f (Err d) fin used e = cc

same_proof : {E V : Type 0} (p o : ProofOf E V) → p.pairs ≡ o.pairs → p.summary ≡ o.summary → p.a_final ≡ o.a_final → p.b_final ≡ o.b_final → p ≡ o
same_proof {E} {V} p o is_pairs is_summary is_a is_b =
    let made : List (V × V) → List ℕ → E → E → ProofOf E V = λ ps s a b. record { pairs = ps; summary = s; a_final = a; b_final = b } in
    ap₂ (λ ps s. made ps s p.a_final p.b_final) is_pairs is_summary ∙ ap₂ (λ a b. made o.pairs o.summary a b) is_a is_b

-- A proof over an area that has room for its rounds.
module _ {E V : Type 0} (n : Codec E) (e : Codec V) {F G : Type 0} (f : F → E) (g : G → V) where
  abbrev twice : (k : ℕ) → 2 * k ≡ k + k
  twice k = omega arith

  area_turn : (p : Proof F) (area : List G) → 2 * p.rounds ≤ length area → length (map g (take (2 * p.rounds) area)) ≡ p.rounds + p.rounds
  area_turn p area room = length-map (take (2 * p.rounds) area) g ∙ length-take-le (2 * p.rounds) area room ∙ twice p.rounds

  pub proof_rounds : (p : Proof F) (area : List G) → 2 * p.rounds ≤ length area → length (proof_of f g p area).pairs ≡ p.rounds
  proof_rounds p area room = length_pairs p.rounds _ (area_turn p area room)

  -- Its code, part by part.
  pub proof_code : (p : Proof F) (area : List G) → 2 * p.rounds ≤ length area
      → encode_proof n e (proof_of f g p area) ≡ varint p.rounds ++ (encode_run e (map g (in_order InTurn 0 (2 * p.rounds) area)) ++ encode_finals n p.summary (f p.a_final) (f p.b_final))
  proof_code p area room =
      ap₂ (λ t u. varint t ++ (encode_run e u ++ encode_finals n p.summary (f p.a_final) (f p.b_final))) (proof_rounds p area room)
      (pairs_in_turn p.rounds _ (area_turn p area room) ∙ ap (map g) (sym (order_turn 0 (2 * p.rounds) area (omega (arith, room)))))

  pub proof_length : IsCodec n → IsCodec e → (o : ProofOf E V) → length o.summary ≡ 32 → length (encode_proof n e o) ≡ proof_size n e (length o.pairs)
  proof_length numbers elements o long =
      let k = length o.pairs in
      let a = length-append (varint k) (encode_run e (in_turn o.pairs) ++ encode_finals n o.summary o.a_final o.b_final) in
      let b = length-append (encode_run e (in_turn o.pairs)) (encode_finals n o.summary o.a_final o.b_final) in
      let r = length_run e elements (in_turn o.pairs) in
      let rd = ap (λ t. t * e.size) (length_in_turn o.pairs ∙ sym (twice k)) in
      let d = length_finals n numbers o.summary o.a_final o.b_final long in
      omega (arith, a, b, r, rd, d)

  module _ (numbers : IsCodec n) (elements : IsCodec e) (highest : ℕ) (bytes : List ℕ) (before after : List G) where
    -- once all was put, the area begins with the rounds
    has_rounds : (xs : List V) (k : ℕ) → length xs ≡ k → k ≤ length before → Placed g (with_places InTurn 0 xs) before after → map g (take k after) ≡ xs
    has_rounds xs k long room placed =
        ap (λ t. map g (take t after)) (sym long) ∙ sym (take-map g (length xs) after) ∙ ap (take (length xs)) (placed_means g _ before after placed)
        ∙ turn_put xs (map g before) (let l = length-map before g in omega (arith, l, long, room))

    proof_only : (p : Proof F) (used : ℕ) → (read_proof n e highest (length before) bytes).answer ≡ Ok (finals_of f p, used) → Placed g (read_proof n e highest (length before) bytes).placed before after
        → AcceptableProof n e f g highest (length before) bytes (proof_of f g p after) × (p.rounds ≡ length (proof_of f g p after).pairs) × (used ≡ length (encode_proof n e (proof_of f g p after)))
    unfolding read_proof
    proof_only p used ok placed =
        let m = go_on_ok (read_count 0 bytes) _ (finals_of f p, used) ok in
        let few = provided_ok (permits_rounds highest m.0.0) _ _ (finals_of f p, used) (ap (λ (r : Reading (FinalsOf E × ℕ) V). r.answer) (sym m.2) ∙ ok) in
        let fit = provided_ok (leb (2 * m.0.0) (length before)) _ _ (finals_of f p, used) (ap (λ (r : Reading (FinalsOf E × ℕ) V). r.answer) (sym (m.2 ∙ few.1)) ∙ ok) in
        let k = m.0.0 in
        let at = m.0.1 in
        let whole = m.2 ∙ few.1 ∙ fit.1 in
        let ended = unless_ok (read_run e (2 * k) at bytes).refused _ (finals_of f p, used) (ap (λ (r : Reading (FinalsOf E × ℕ) V). r.answer) (sym whole) ∙ ok) in
        let fin = finals_only n numbers k (at + 2 * k * e.size) bytes (finals_of f p) used ended.1 in
        let xs = (read_run e (2 * k) at bytes).accepted in
        let run = run_only e elements (2 * k) at bytes ended.0 in
        let room : 2 * k ≤ length before = leb-true (2 * k) (length before) fit.0 in
        let parts : Placed g (with_places InTurn 0 xs) before after = subst (λ (r : Reading (FinalsOf E × ℕ) V). Placed g r.placed before after) whole placed in
        let rounds : map g (take (2 * p.rounds) after) ≡ xs = ap (λ t. map g (take (2 * t) after)) fin.0 ∙ has_rounds xs (2 * k) run.0 room parts in
        let o = proof_of f g p after in
        let turn : in_turn o.pairs ≡ xs = ap (λ t. in_turn (pairs_of t)) rounds ∙ pairs_in_turn k xs (run.0 ∙ twice k) in
        let long : length o.pairs ≡ k = ap (λ t. length (pairs_of t)) rounds ∙ length_pairs k xs (run.0 ∙ twice k) in
        let counted = (accepts_counts 0 bytes _ refl).only k at m.1 in
        let code_n : take at bytes ≡ varint (length o.pairs) = counted.2 ∙ ap varint (sym long) in
        let code_xs : take (2 * k * e.size) (drop at bytes) ≡ encode_run e (in_turn o.pairs) = run.1 ∙ ap (encode_run e) (sym turn) in
        let code_fin : take (32 + n.size + n.size) (drop (2 * k * e.size) (drop at bytes)) ≡ encode_finals n o.summary o.a_final o.b_final = ap (take (32 + n.size + n.size)) (drop-drop (2 * k * e.size) at bytes) ∙ fin.3 in
        let code = join_codes at (2 * k * e.size + (32 + n.size + n.size)) bytes _ _ code_n (join_codes (2 * k * e.size) (32 + n.size + n.size) (drop at bytes) _ _ code_xs code_fin) in
        let total : length (encode_proof n e o) ≡ at + (2 * k * e.size + (32 + n.size + n.size)) =
        proof_length numbers elements o fin.1 ∙ ap (proof_size n e) long ∙ (let w = counted.1 in omega (arith, w)) in (
          record { permitted = rw long few.0; room_for = rw long room; summary_long = fin.1; begins = ap (λ t. take t bytes) total ∙ code },
          fin.0 ∙ sym long,
          (let u = fin.2 in omega (arith, u, total)),
        )

    proof_each : highest < 2 ^ 64 → (o : ProofOf E V) → AcceptableProof n e f g highest (length before) bytes o → Placed g (read_proof n e highest (length before) bytes).placed before after
        → ((read_proof n e highest (length before) bytes).answer ≡ Ok (record { rounds = length o.pairs; summary = o.summary; a_final = o.a_final; b_final = o.b_final }, length (encode_proof n e o)))
        × (map g (take (2 * length o.pairs) after) ≡ in_turn o.pairs)
    unfolding read_proof
    proof_each small o a placed =
        let k = length o.pairs in
        let at = length (varint k) in
        let turns : length (in_turn o.pairs) ≡ 2 * k = length_in_turn o.pairs ∙ sym (twice k) in
        let size = proof_length numbers elements o a.summary_long in
        let total : length (encode_proof n e o) ≡ at + (2 * k * e.size + (32 + n.size + n.size)) = size ∙ add_assoc at (2 * k * e.size) (32 + n.size + n.size) in
        let p = split_codes at (2 * k * e.size + (32 + n.size + n.size)) bytes _ _ refl (ap (λ t. take t bytes) (sym total) ∙ a.begins) in
        let wide = length_run e elements (in_turn o.pairs) ∙ ap (λ t. t * e.size) turns in
        let m = split_codes (2 * k * e.size) (32 + n.size + n.size) (drop at bytes) _ _ wide p.1 in
        let count : read_count 0 bytes ≡ Ok (k, at) = (accepts_counts 0 bytes _ refl).each k (below_count k (few_rounds highest k small a.permitted)) p.0 in
        let fit : leb (2 * k) (length before) ≡ true = le-leb (2 * k) (length before) a.room_for in
        let run : read_run e (2 * k) at bytes ≡ record { accepted = in_turn o.pairs; refused = None } =
        ap (λ t. read_run e t at bytes) (sym turns) ∙ run_each e elements (in_turn o.pairs) at bytes (ap (λ t. take (t * e.size) (drop at bytes)) turns ∙ m.0) in
        let whole : read_proof n e highest (length before) bytes ≡ read_rounds n e k at bytes = rw (count, a.permitted, fit) refl in
        let fin = finals_each n numbers k (at + 2 * k * e.size) bytes o.summary o.a_final o.b_final a.summary_long (ap (take (32 + n.size + n.size)) (sym (drop-drop (2 * k * e.size) at bytes)) ∙ m.1) in
        let ended : (read_rounds n e k at bytes).answer ≡ read_finals n k (at + 2 * k * e.size) bytes = ap (λ (r : Run e). unless r.refused (read_finals n k (at + 2 * k * e.size) bytes)) run in
        let parts : Placed g (with_places InTurn 0 (read_run e (2 * k) at bytes).accepted) before after = subst (λ (r : Reading (FinalsOf E × ℕ) V). Placed g r.placed before after) whole placed in (
          ap (λ (r : Reading (FinalsOf E × ℕ) V). r.answer) whole ∙ ended ∙ fin
              ∙ ap (λ t. Ok (record { rounds = k; summary = o.summary; a_final = o.a_final; b_final = o.b_final }, t)) (regroup (at + 2 * k * e.size) n.size ∙ sym size),
          has_rounds (in_turn o.pairs) (2 * k) turns a.room_for (subst (λ t. Placed g (with_places InTurn 0 t) before after) (ap (λ (r : Run e). r.accepted) run) parts),
        )

    pub reads_proof : highest < 2 ^ 64 → (r : Result (Proof F × ℕ) ByteFault) (reading : Reading (FinalsOf E × ℕ) V) → read_proof n e highest (length before) bytes ≡ reading
        → finals_read f r ≡ reading.answer → Placed g reading.placed before after → ReadsProof n e f g highest bytes before after r
    reads_proof small r reading is answer placed =
        let answered = answer ∙ ap (λ (r : Reading (FinalsOf E × ℕ) V). r.answer) (sym is) in
        let put = subst (λ (r : Reading (FinalsOf E × ℕ) V). Placed g r.placed before after) (sym is) placed in
        record {
          answer = answered;
          area = put;
          accepts = record {
            only = λ p used ok. proof_only p used (sym answered ∙ ap (finals_read f) ok) put;
            each = λ o a. (
                let each = proof_each small o a put in
                let made = was_ok f r _ (length (encode_proof n e o)) (answered ∙ each.0) in
                let p = made.0 in
                let fin = made.2 in
                let rounds : map g (take (2 * p.rounds) after) ≡ in_turn o.pairs = ap (λ (t : FinalsOf E). map g (take (2 * t.rounds) after)) fin ∙ each.1 in
                (p, made.1, same_proof _ o (ap pairs_of rounds ∙ pairs_of_turn o.pairs) (ap (λ (t : FinalsOf E). t.summary) fin) (ap (λ (t : FinalsOf E). t.a_final) fin) (ap (λ (t : FinalsOf E). t.b_final) fin))
                );
          };
        }

-- What reading a proof does, by the first test that refuses, or where none does.
module _ {E V : Type 0} (n : Codec E) (e : Codec V) (highest room : ℕ) (bytes : List ℕ) where
  pub proof_refused_count : (d : ByteFault) → Err d ≡ read_count 0 bytes → read_proof n e highest room bytes ≡ refuse d
  unfolding read_proof
  proof_refused_count d is = rw (← is) refl

  module _ (k wide : ℕ) (is_count : Ok (k, wide) ≡ read_count 0 bytes) where
    pub proof_too_many : permits_rounds highest k ≡ false → read_proof n e highest room bytes ≡ refuse (TooMany 0)
    unfolding read_proof
    proof_too_many h = rw (← is_count, h) refl

    module _ (few : permits_rounds highest k ≡ true) where
      pub proof_no_room : room < 2 * k → read_proof n e highest room bytes ≡ refuse (Area 0)
      unfolding read_proof
      proof_no_room h = rw (← is_count, few, lt-leb (2 * k) room h) refl

      pub proof_rounds_read : 2 * k ≤ room → read_proof n e highest room bytes ≡ read_rounds n e k wide bytes
      unfolding read_proof
      proof_rounds_read h = rw (← is_count, few, le-leb (2 * k) room h) refl
