-- A proof, and its bytes: the count of its rounds, L and R of each, a summary of 32 bytes, a_final, b_final. Assumes nothing.
use Rattle.std.specs.Prelude.{◌≡◌, ℕ, ◌+◌, ◌*◌, ◌^◌, ◌<◌, ◌≤◌, Bool, true, ◌||◌, List, ◌++◌, map, length, take, drop, Ok, Err, Result, ◌==◌, nat_le}
use Rattle.algebra.specs.declared.fault.ByteFault.{ByteFault}
use Rattle.algebra.specs.declared.fault.ByteFault.TheVariants.{TooMany, Area}
use Rattle.algebra.specs.declared.run.Order.TheVariants.{InTurn}
use Rattle.algebra.specs.declared.proof.Proof.{Proof}
use Rattle.algebra.specs.Codec.{Codec}
use Rattle.algebra.specs.Bytes.{Written, meant, read_one, read_bytes, and_then}
use Rattle.algebra.specs.Varint.{varint, read_count}
use Rattle.algebra.specs.Runs.{in_turn, pairs_of, encode_run, read_run, unless, with_places, Placed, Reading, go_on, provided}

-- L and R of each round, the summary, and the last of a and b, as elements.
pub record ProofOf (E V : Type 0) : Type 0 where
  pub pairs : List (V × V)
  pub summary : List ℕ
  pub a_final : E
  pub b_final : E

-- A proof without its area.
pub record FinalsOf (E : Type 0) : Type 0 where
  pub rounds : ℕ
  pub summary : List ℕ
  pub a_final : E
  pub b_final : E

abbrev pub finals_of : {F E : Type 0} → (F → E) → Proof F → FinalsOf E
finals_of f p = record { rounds = p.rounds; summary = p.summary; a_final = f p.a_final; b_final = f p.b_final }

-- A proof that was read, with the bytes used.
abbrev pub finals_read : {F E : Type 0} → (F → E) → Result (Proof F × ℕ) ByteFault → Result (FinalsOf E × ℕ) ByteFault
finals_read f = meant (λ p. (finals_of f p.0, p.1))

-- What a proof of values means, with its area.
abbrev pub proof_of : {F G E V : Type 0} → (F → E) → (G → V) → Proof F → List G → ProofOf E V
proof_of f g p area = record { pairs = pairs_of (map g (take (2 * p.rounds) area)); summary = p.summary; a_final = f p.a_final; b_final = f p.b_final }

-- Where the highest length is m, n rounds are permitted if 2^n is at most m; none are permitted always.
abbrev pub permits_rounds : ℕ → ℕ → Bool
permits_rounds m n = n == 0 || nat_le (2 ^ n) m

module _ {E : Type 0} (numbers : Codec E) where
  abbrev pub encode_finals : List ℕ → E → E → List ℕ
  encode_finals summary a b = summary ++ (numbers.encode a ++ numbers.encode b)

  -- What follows the rounds, where it begins at `at`.
  unfoldable pub read_finals : ℕ → ℕ → List ℕ → Result (FinalsOf E × ℕ) ByteFault
  read_finals rounds at bytes =
      and_then (read_bytes 32 at (drop at bytes)) (λ summary.
      and_then (read_one numbers (at + 32) (drop (at + 32) bytes)) (λ a.
      and_then (read_one numbers (at + 32 + numbers.size) (drop (at + 32 + numbers.size) bytes)) (λ b.
      Ok (record { rounds = rounds; summary = summary; a_final = a; b_final = b }, at + 32 + numbers.size + numbers.size))))

module _ {E V : Type 0} (numbers : Codec E) (elements : Codec V) where
  abbrev pub encode_proof : ProofOf E V → List ℕ
  encode_proof p = varint (length p.pairs) ++ (encode_run elements (in_turn p.pairs) ++ encode_finals numbers p.summary p.a_final p.b_final)

  -- How many bytes a proof of n rounds takes.
  abbrev pub proof_size : ℕ → ℕ
  proof_size n = length (varint n) + 2 * n * elements.size + (32 + numbers.size + numbers.size)

  abbrev pub read_rounds : ℕ → ℕ → List ℕ → Reading (FinalsOf E × ℕ) V
  read_rounds n at bytes = record {
    answer = unless (read_run elements (2 * n) at bytes).refused (read_finals numbers n (at + 2 * n * elements.size) bytes);
    placed = with_places InTurn 0 (read_run elements (2 * n) at bytes).accepted;
  }

  -- The proof that begins the bytes, read into an area with `room` places, and the bytes used.
  unfoldable pub read_proof : (highest room : ℕ) → List ℕ → Reading (FinalsOf E × ℕ) V
  read_proof highest room bytes =
      go_on (read_count 0 bytes) (λ count.
      provided (permits_rounds highest count.0) (TooMany 0) (
      provided (nat_le (2 * count.0) room) (Area 0) (
      read_rounds count.0 count.1 bytes)))

  module _ {F G : Type 0} (f : F → E) (g : G → V) where
    -- The proof's encoding was written; an area without room for its rounds is refused first, and nothing is changed.
    pub record WritesProof (p : Proof F) (area : List G) (before after : List ℕ) (r : Result ℕ ByteFault) : Type 0 where
      pub no_area : length area < 2 * p.rounds → (r ≡ Err (Area 0)) × (after ≡ before)
      pub written : 2 * p.rounds ≤ length area → Written (encode_proof (proof_of f g p area)) before after r

    -- The proof begins the bytes, is permitted, and has room.
    pub record AcceptableProof (highest room : ℕ) (bytes : List ℕ) (p : ProofOf E V) : Type 0 where
      pub permitted : permits_rounds highest (length p.pairs) ≡ true
      pub room_for : 2 * length p.pairs ≤ room
      pub summary_long : length p.summary ≡ 32
      pub begins : take (length (encode_proof p)) bytes ≡ encode_proof p

    -- Reading accepts a byte list exactly when the encoding of an acceptable proof begins it, and answers that proof with the area.
    pub record AcceptsProofs (highest : ℕ) (bytes : List ℕ) (before after : List G) (r : Result (Proof F × ℕ) ByteFault) : Type 0 where
      pub only : (p : Proof F) (used : ℕ) → r ≡ Ok (p, used)
          → AcceptableProof highest (length before) bytes (proof_of f g p after) × (p.rounds ≡ length (proof_of f g p after).pairs) × (used ≡ length (encode_proof (proof_of f g p after)))
      pub each : (o : ProofOf E V) → AcceptableProof highest (length before) bytes o → (p : Proof F) × (r ≡ Ok (p, length (encode_proof o))) × (proof_of f g p after ≡ o)

    pub record ReadsProof (highest : ℕ) (bytes : List ℕ) (before after : List G) (r : Result (Proof F × ℕ) ByteFault) : Type 0 where
      pub answer : finals_read f r ≡ (read_proof highest (length before) bytes).answer
      pub area : Placed g (read_proof highest (length before) bytes).placed before after
      pub accepts : AcceptsProofs highest bytes before after r
