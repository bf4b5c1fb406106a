-- Reading one element, and a claim: what is accepted is what was written, and nothing else. Assumes nothing.
use Rattle.std.proofs.Common.{◌≡◌, ℕ, ◌+◌, ◌-◌, ◌≤◌, Bool, true, false, cond, leb, List, [], ◌∷◌, ◌++◌, length, take, drop, Ok, Err, Result, sym, refl, ap, ap₂, ◌∙◌, arith, length-take, drop-drop, take-add, Option, None, Some}
use Rattle.std.proofs.lemmas.List.{take-take, take_at, drop_at, drop-take}
use Rattle.std.proofs.lemmas.Bool.{le-leb, cond-true}
use Rattle.algebra.specs.declared.fault.ByteFault.{ByteFault}
use Rattle.algebra.specs.declared.fault.ByteFault.TheVariants.{Ends}
use Rattle.algebra.specs.Codec.{Codec, IsCodec}
use Rattle.algebra.specs.Bytes.{Input, left, Counts, meant, read_one, element_at, read_byte, and_then}
use Rattle.algebra.specs.Varint.{read_count}
use Rattle.algebra.specs.Claims.{ClaimOf, encode_claim, product_at, y_at, log_len_at, claim_size, read_claim, AcceptsClaims}

-- Of two codes one after the other, each begins where it should.
pub split_codes : (n m : ℕ) (bytes xs ys : List ℕ) → length xs ≡ n → take (n + m) bytes ≡ xs ++ ys → (take n bytes ≡ xs) × (take m (drop n bytes) ≡ ys)
split_codes n m bytes xs ys long e = (
  sym (take-take n (n + m) bytes (omega arith)) ∙ ap (take n) e ∙ take_at xs ys n long,
  sym (drop-take n m bytes) ∙ ap (drop n) e ∙ drop_at xs ys n long,
)

pub join_codes : (n m : ℕ) (bytes xs ys : List ℕ) → take n bytes ≡ xs → take m (drop n bytes) ≡ ys → take (n + m) bytes ≡ xs ++ ys
join_codes n m bytes xs ys e d = take-add n m bytes ∙ ap (λ t. t ++ take m (drop n bytes)) e ∙ ap (λ t. xs ++ t) d

pub and_then_ok : {X Y : Type 0} (r : Result X ByteFault) (f : X → Result Y ByteFault) (y : Y) → and_then r f ≡ Ok y → (x : X) × (r ≡ Ok x) × (f x ≡ Ok y)
and_then_ok (Ok x) f y e = (x, refl, e)
and_then_ok (Err d) f y e = cc

module _ {X : Type 0} (c : Codec X) (laws : IsCodec c) where
  decoded : (at : ℕ) (o : Option X) (x : X) → element_at at o ≡ Ok x → o ≡ Some x
  decoded at (Some y) x e = cc
  decoded at None x e = cc

  at_length : (at : ℕ) (bytes : List ℕ) (x : X) (b : Bool) → cond b (element_at at (c.decode (take c.size bytes))) (Err (Ends at)) ≡ Ok x → take c.size bytes ≡ c.encode x
  at_length at bytes x true e = laws.only x (take c.size bytes) (decoded at _ x e)
  at_length at bytes x false e = cc

  pub read_only : (at : ℕ) (bytes : List ℕ) (x : X) → read_one c at bytes ≡ Ok x → take c.size bytes ≡ c.encode x
  unfolding read_one
  read_only at bytes x e = at_length at bytes x (leb c.size (length bytes)) e

  pub read_each : (at : ℕ) (bytes : List ℕ) (x : X) → take c.size bytes ≡ c.encode x → read_one c at bytes ≡ Ok x
  unfolding read_one
  read_each at bytes x e =
      let long = ap length e ∙ laws.sized x in
      let fits : c.size ≤ length bytes = omega (arith, long, length-take c.size bytes) in
      cond-true (leb c.size (length bytes)) _ _ (le-leb c.size (length bytes) fits) ∙ ap (element_at at) (ap c.decode e ∙ laws.back x)

byte_only : (at : ℕ) (bytes : List ℕ) (b : ℕ) → read_byte at bytes ≡ Ok b → take 1 bytes ≡ b ∷ []
byte_only at [] b e = cc
byte_only at (x ∷ bytes) b e = let same : x ≡ b = cc in ap (λ t. t ∷ []) same

byte_each : (at : ℕ) (bytes : List ℕ) (b : ℕ) → take 1 bytes ≡ b ∷ [] → read_byte at bytes ≡ Ok b
byte_each at [] b e = absurd (let z : ◌≡◌ {A = ℕ} 0 1 = ap length e in omega arith)
byte_each at (x ∷ bytes) b e = let same : x ≡ b = cc in ap Ok same

-- The exit of a `?` hands the fault on.
pub handed_on : {S X : Type 0} (f : S → X) (r : Result S ByteFault) (d : ByteFault) (whole : Result X ByteFault)
    → (x : ByteFault) × (r ≡ Err x) × (x ≡ d) → whole ≡ Err d → meant f r ≡ whole
handed_on f r d whole p e = ap (meant f) p.1 ∙ ap Err p.2 ∙ sym e

-- Where a reader stands, and what it reads there.
abbrev pub input : List ℕ → ℕ → Input
input bytes at = record { bytes = bytes; at = at }

pub stood : (bytes : List ℕ) (a k b : ℕ) (now next : Input) → now ≡ input bytes a → next ≡ input now.bytes (now.at + k) → b ≡ a + k → next ≡ input bytes b
stood bytes a k b now next e d is = d ∙ ap (λ (i : Input). input i.bytes (i.at + k)) e ∙ ap (input bytes) (sym is)

pub read_there : {X : Type 0} (c : Codec X) (bytes : List ℕ) (a : ℕ) (now : Input) (r : Result X ByteFault) → now ≡ input bytes a → r ≡ read_one c now.at (left now) → r ≡ read_one c a (drop a bytes)
read_there c bytes a now r e is = is ∙ ap (λ (i : Input). read_one c i.at (left i)) e

-- What a count that was read tells, and where the reader stands behind it.
module _ (bytes : List ℕ) (a : ℕ) (before after : Input) (there : before ≡ input bytes a) where
  pub counted : (n : ℕ) → Counts before after (Ok n) (read_count before.at (left before)) → (Ok (n, after.at - a) ≡ read_count a (drop a bytes)) × (after ≡ input bytes (a + (after.at - a)))
  counted n c =
      let at : before.at ≡ a = ap (λ (i : Input). i.at) there in
      let behind : after.at ≡ a + (after.at - a) = omega (arith, c.1, at) in (
        ap (λ t. Ok (n, after.at - t)) (sym at) ∙ sym c.0 ∙ ap (λ (i : Input). read_count i.at (left i)) there,
        ap₂ input (c.2 ∙ ap (λ (i : Input). i.bytes) there) behind,
      )

  pub not_counted : (e : ByteFault) → Counts before after (Err e) (read_count before.at (left before)) → Err e ≡ read_count a (drop a bytes)
  not_counted e c = sym c.0 ∙ ap (λ (i : Input). read_count i.at (left i)) there

-- Where a reader of a claim stands behind each field.
module _ {E V : Type 0} (n : Codec E) (e : Codec V) (bytes : List ℕ) (k m : ℕ) (size_e : e.size ≡ k) (size_n : n.size ≡ m) (start i : Input) (at_start : start ≡ input bytes 0) (first : i ≡ input start.bytes (start.at + k)) where
  pub at_product : i ≡ input bytes (product_at n e)
  at_product = stood bytes 0 k _ start i at_start first (omega (arith, size_e))

  module _ (j : Input) (second : j ≡ input i.bytes (i.at + m)) where
    pub at_y : j ≡ input bytes (y_at n e)
    at_y = stood bytes (product_at n e) m _ i j at_product second (omega (arith, size_n))

    module _ (l : Input) (third : l ≡ input j.bytes (j.at + m)) where
      pub at_log_len : l ≡ input bytes (log_len_at n e)
      at_log_len = stood bytes (y_at n e) m _ j l at_y third (omega (arith, size_n))

-- What reading a claim answers, by the field that is refused, or where none is.
module _ {E V : Type 0} (n : Codec E) (e : Codec V) (bytes : List ℕ) where
  pub refused_commitment : (d : ByteFault) → Err d ≡ read_one e 0 bytes → read_claim n e bytes ≡ Err d
  unfolding read_claim
  refused_commitment d a = rw (← a) refl

  module _ (p : V) (is_p : Ok p ≡ read_one e 0 bytes) where
    pub refused_product : (d : ByteFault) → Err d ≡ read_one n (product_at n e) (drop (product_at n e) bytes) → read_claim n e bytes ≡ Err d
    unfolding read_claim
    refused_product d a = rw (← is_p, ← a) refl

    module _ (c : E) (is_c : Ok c ≡ read_one n (product_at n e) (drop (product_at n e) bytes)) where
      pub refused_y : (d : ByteFault) → Err d ≡ read_one n (y_at n e) (drop (y_at n e) bytes) → read_claim n e bytes ≡ Err d
      unfolding read_claim
      refused_y d a = rw (← is_p, ← is_c, ← a) refl

      module _ (y : E) (is_y : Ok y ≡ read_one n (y_at n e) (drop (y_at n e) bytes)) where
        pub refused_log_len : (d : ByteFault) → Err d ≡ read_byte (log_len_at n e) (drop (log_len_at n e) bytes) → read_claim n e bytes ≡ Err d
        unfolding read_claim
        refused_log_len d a = rw (← is_p, ← is_c, ← is_y, ← a) refl

        pub read_whole : (l : ℕ) → Ok l ≡ read_byte (log_len_at n e) (drop (log_len_at n e) bytes) → read_claim n e bytes ≡ Ok (record { commitment = p; product = c; y = y; log_len = l }, claim_size n e)
        unfolding read_claim
        read_whole l a = rw (← is_p, ← is_c, ← is_y, ← a) refl

same_parts : {X Y : Type 0} (x z : X) (y w : Y) → ◌≡◌ {A = Result (X × Y) ByteFault} (Ok (x, y)) (Ok (z, w)) → (x ≡ z) × (y ≡ w)
same_parts {X} {Y} x z y w e =
    let same : ◌≡◌ {A = X × Y} (x, y) (z, w) = cc in
    (ap (λ (p : X × Y). p.0) same, ap (λ (p : X × Y). p.1) same)

module _ {E V : Type 0} (n : Codec E) (e : Codec V) (numbers : IsCodec n) (elements : IsCodec e) (bytes : List ℕ) where
  -- The four fields lie one behind the other.
  abbrev sizes : claim_size n e ≡ e.size + (n.size + (n.size + 1))
  sizes = omega arith

  abbrev past_product : drop (y_at n e) bytes ≡ drop n.size (drop e.size bytes)
  past_product = sym (drop-drop n.size e.size bytes)

  abbrev past_y : drop (log_len_at n e) bytes ≡ drop n.size (drop n.size (drop e.size bytes))
  past_y = sym (ap (drop n.size) (drop-drop n.size e.size bytes) ∙ drop-drop n.size (y_at n e) bytes)

  claim_only : (c : ClaimOf E V) (k : ℕ) → read_claim n e bytes ≡ Ok (c, k) → (k ≡ claim_size n e) × (take (claim_size n e) bytes ≡ encode_claim n e c)
  unfolding read_claim
  claim_only c k ok =
      let p = and_then_ok (read_one e 0 bytes) _ (c, k) ok in
      let m = and_then_ok (read_one n (product_at n e) (drop (product_at n e) bytes)) _ (c, k) p.2 in
      let y = and_then_ok (read_one n (y_at n e) (drop (y_at n e) bytes)) _ (c, k) m.2 in
      let l = and_then_ok (read_byte (log_len_at n e) (drop (log_len_at n e) bytes)) _ (c, k) y.2 in
      let same = same_parts _ c (claim_size n e) k l.2 in
      let code_p = read_only e elements 0 bytes p.0 p.1 in
      let code_m = read_only n numbers (product_at n e) (drop (product_at n e) bytes) m.0 m.1 in
      let code_y = ap (take n.size) (sym past_product) ∙ read_only n numbers (y_at n e) (drop (y_at n e) bytes) y.0 y.1 in
      let code_l = ap (take 1) (sym past_y) ∙ byte_only (log_len_at n e) (drop (log_len_at n e) bytes) l.0 l.1 in (
        sym same.1,
        ap (λ t. take t bytes) sizes
            ∙ join_codes e.size (n.size + (n.size + 1)) bytes _ _ code_p
            (join_codes n.size (n.size + 1) (drop e.size bytes) _ _ code_m
            (join_codes n.size 1 (drop n.size (drop e.size bytes)) _ _ code_y code_l))
            ∙ ap (encode_claim n e) same.0,
      )

  claim_each : (c : ClaimOf E V) → take (claim_size n e) bytes ≡ encode_claim n e c → read_claim n e bytes ≡ Ok (c, claim_size n e)
  claim_each c code =
      let p = split_codes e.size (n.size + (n.size + 1)) bytes _ _ (elements.sized c.commitment) (ap (λ t. take t bytes) (sym sizes) ∙ code) in
      let m = split_codes n.size (n.size + 1) (drop e.size bytes) _ _ (numbers.sized c.product) p.1 in
      let y = split_codes n.size 1 (drop n.size (drop e.size bytes)) _ _ (numbers.sized c.y) m.1 in
      read_whole n e bytes
      c.commitment (sym (read_each e elements 0 bytes c.commitment p.0))
      c.product (sym (read_each n numbers (product_at n e) (drop (product_at n e) bytes) c.product m.0))
      c.y (sym (read_each n numbers (y_at n e) (drop (y_at n e) bytes) c.y (ap (take n.size) past_product ∙ y.0)))
      c.log_len (sym (byte_each (log_len_at n e) (drop (log_len_at n e) bytes) c.log_len (ap (take 1) past_y ∙ y.1)))

  pub accepts_claims : (r : Result (ClaimOf E V × ℕ) ByteFault) → r ≡ read_claim n e bytes → AcceptsClaims n e bytes r
  accepts_claims r is = record { only = λ c k ok. claim_only c k (sym is ∙ ok); each = λ c code. is ∙ claim_each c code }
