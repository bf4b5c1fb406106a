-- A claim, and its bytes: commitment, product, y, then log_len in one byte. Assumes nothing.
use Rattle.std.specs.Prelude.{◌≡◌, ℕ, ◌+◌, List, [], ◌∷◌, ◌++◌, take, drop, Ok, Result}
use Rattle.algebra.specs.declared.fault.ByteFault.{ByteFault}
use Rattle.algebra.specs.declared.claim.Claim.{Claim}
use Rattle.algebra.specs.Codec.{Codec}
use Rattle.algebra.specs.Bytes.{read_one, read_byte, and_then}

-- The commitment P, the product c, y, and the logarithm of the length, as elements.
pub record ClaimOf (E V : Type 0) : Type 0 where
  pub commitment : V
  pub product : E
  pub y : E
  pub log_len : ℕ

-- What a claim of values means.
abbrev pub claim_of : {F G E V : Type 0} → (F → E) → (G → V) → Claim F G → ClaimOf E V
claim_of f g c = record { commitment = g c.commitment; product = f c.product; y = f c.y; log_len = c.log_len }

module _ {E V : Type 0} (numbers : Codec E) (elements : Codec V) where
  abbrev pub encode_claim : ClaimOf E V → List ℕ
  encode_claim c = elements.encode c.commitment ++ (numbers.encode c.product ++ (numbers.encode c.y ++ (c.log_len ∷ [])))

  -- Where the product begins, where y does, and log_len, and where the claim ends.
  abbrev pub product_at : ℕ
  product_at = elements.size

  abbrev pub y_at : ℕ
  y_at = product_at + numbers.size

  abbrev pub log_len_at : ℕ
  log_len_at = y_at + numbers.size

  abbrev pub claim_size : ℕ
  claim_size = log_len_at + 1

  -- The claim that begins the bytes, field by field, and the bytes used.
  unfoldable pub read_claim : List ℕ → Result (ClaimOf E V × ℕ) ByteFault
  read_claim bytes =
      and_then (read_one elements 0 bytes) (λ p.
      and_then (read_one numbers product_at (drop product_at bytes)) (λ c.
      and_then (read_one numbers y_at (drop y_at bytes)) (λ y.
      and_then (read_byte log_len_at (drop log_len_at bytes)) (λ l.
      Ok (record { commitment = p; product = c; y = y; log_len = l }, claim_size)))))

  -- Reading accepts a byte list exactly when a claim's encoding begins it, and answers that claim.
  pub record AcceptsClaims (bytes : List ℕ) (r : Result (ClaimOf E V × ℕ) ByteFault) : Type 0 where
    pub only : (c : ClaimOf E V) (n : ℕ) → r ≡ Ok (c, n) → (n ≡ claim_size) × (take claim_size bytes ≡ encode_claim c)
    pub each : (c : ClaimOf E V) → take claim_size bytes ≡ encode_claim c → r ≡ Ok (c, claim_size)
