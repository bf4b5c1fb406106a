-- A setup as bytes: Q, the count of its pairs, then the pairs. Assumes nothing.
use Rattle.std.specs.Prelude.{◌≡◌, ℕ, ◌+◌, ◌*◌, ◌≤◌, min, List, [], ◌∷◌, ◌++◌, map, length, take, drop, Ok, Result, nat_le}
use Rattle.algebra.specs.declared.fault.ByteFault.{ByteFault}
use Rattle.algebra.specs.declared.fault.ByteFault.TheVariants.{TooMany, Area}
use Rattle.algebra.specs.declared.run.Order.TheVariants.{Halves}
use Rattle.algebra.specs.Codec.{Codec}
use Rattle.algebra.specs.Bytes.{Written, read_one}
use Rattle.algebra.specs.Varint.{varint, read_count}
use Rattle.algebra.specs.Runs.{in_turn, encode_run, read_run, unless, with_places, Placed, Reading, go_on, provided}

-- Q, and the pairs G_i, H_i.
pub record SetupOf (V : Type 0) : Type 0 where
  pub q : V
  pub pairs : List (V × V)

-- The row that it is: the G_i, the H_i, then Q.
abbrev pub row_of : {V : Type 0} → SetupOf V → List V
row_of s = map (λ p. p.0) s.pairs ++ (map (λ p. p.1) s.pairs ++ (s.q ∷ []))

-- How many pairs are permitted: what the reader permits, and never more than 1,048,576.
abbrev pub most_pairs : ℕ → ℕ
most_pairs highest = min highest 1048576

module _ {V : Type 0} (c : Codec V) where
  abbrev pub encode_setup : SetupOf V → List ℕ
  encode_setup s = c.encode s.q ++ (varint (length s.pairs) ++ encode_run c (in_turn s.pairs))

  -- How many bytes a setup of n pairs takes.
  abbrev pub setup_size : ℕ → ℕ
  setup_size n = c.size + length (varint n) + 2 * n * c.size

  -- The pairs of a setup of which Q and the count were accepted; Q is placed first.
  abbrev pub read_pairs : V → ℕ → ℕ → List ℕ → Reading (ℕ × ℕ) V
  read_pairs q n at bytes = record {
    answer = unless (read_run c (2 * n) at bytes).refused (Ok (n, at + 2 * n * c.size));
    placed = (2 * n, q) ∷ with_places (Halves n) 0 (read_run c (2 * n) at bytes).accepted;
  }

  -- The setup that begins the bytes, read into an area with `room` places: the count of its pairs, and the bytes used.
  unfoldable pub read_setup : (highest room : ℕ) → List ℕ → Reading (ℕ × ℕ) V
  read_setup highest room bytes =
      go_on (read_one c 0 bytes) (λ q.
      go_on (read_count c.size (drop c.size bytes)) (λ count.
      provided (nat_le count.0 (most_pairs highest)) (TooMany c.size) (
      provided (nat_le (2 * count.0 + 1) room) (Area c.size) (
      read_pairs q count.0 (c.size + count.1) bytes))))

  module _ {G : Type 0} (means : G → V) where
    -- The encoding of the setup that the row is was written.
    pub record WritesSetup (row : List G) (before after : List ℕ) (r : Result ℕ ByteFault) : Type 0 where
      pub setup : SetupOf V
      pub row_is : map means row ≡ row_of setup
      pub written : Written (encode_setup setup) before after r

    -- The setup begins the bytes, is permitted, and has room.
    pub record Acceptable (highest room : ℕ) (bytes : List ℕ) (s : SetupOf V) : Type 0 where
      pub permitted : length s.pairs ≤ most_pairs highest
      pub room_for : 2 * length s.pairs + 1 ≤ room
      pub begins : take (length (encode_setup s)) bytes ≡ encode_setup s

    -- The area begins with the row of the setup.
    abbrev pub HasRow : SetupOf V → List G → Type 0
    HasRow s area = map means (take (2 * length s.pairs + 1) area) ≡ row_of s

    -- Reading accepts a byte list exactly when the encoding of an acceptable setup begins it, and the area then has its row.
    pub record AcceptsSetups (highest : ℕ) (bytes : List ℕ) (before after : List G) (r : Result (ℕ × ℕ) ByteFault) : Type 0 where
      pub only : (n used : ℕ) → r ≡ Ok (n, used)
          → (s : SetupOf V) × Acceptable highest (length before) bytes s × (n ≡ length s.pairs) × (used ≡ length (encode_setup s)) × HasRow s after
      pub each : (s : SetupOf V) → Acceptable highest (length before) bytes s → (r ≡ Ok (length s.pairs, length (encode_setup s))) × HasRow s after

    pub record ReadsSetup (highest : ℕ) (bytes : List ℕ) (before after : List G) (r : Result (ℕ × ℕ) ByteFault) : Type 0 where
      pub answer : r ≡ (read_setup highest (length before) bytes).answer
      pub area : Placed means (read_setup highest (length before) bytes).placed before after
      pub accepts : AcceptsSetups highest bytes before after r
