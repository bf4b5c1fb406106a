-- A setup is a row of 2n + 1 elements: G_0 to G_(n-1), H_0 to H_(n-1), then Q. Assumes nothing.
use Rattle.std.specs.Prelude.{◌≡◌, ℕ, ◌+◌, ◌/◌, ◌%◌, ◌<◌, ◌≤◌, List, length, take, drop, Some, None, Option, slice_index_or}

module _ {G : Type 0} (row : List G) where
  -- n is at most 1,048,576.
  abbrev pub IsSetup : Type 0
  IsSetup = (length row % 2 ≡ 1) × (length row ≤ 2097153)

  abbrev pub count : ℕ
  count = length row / 2

  abbrev pub g_part : List G
  g_part = take count row

  abbrev pub h_part : List G
  h_part = take count (drop count row)

  -- Q, which is the last; a row with no elements has none, and answers d.
  abbrev pub q_part : G → G
  q_part d = slice_index_or row (count + count) d

  -- The pair at i is G_i and H_i together; it is absent from n on.
  abbrev pub Pair : ℕ → Option (G × G) → Type 0
  Pair i (Some p) = (i < count) × (p.0 ≡ slice_index_or row i p.0) × (p.1 ≡ slice_index_or row (count + i) p.1)
  Pair i None = count ≤ i
