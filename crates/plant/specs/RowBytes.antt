-- The encoding of rows, and when they are equal. Assumes nothing.
use Rattle.std.specs.Prelude.{◌≡◌, ◌↔◌, ℕ, ◌+◌, ◌<◌, Bool, true, ◌&&◌, List, ◌++◌, length, take, drop, refl, Option, None, Some, option_map}
use Rattle.std.specs.Option.{option_zip}
use Rattle.std.proofs.Common.{sym, ap, ap₂, ◌∙◌, arith, length-append, length-take}
use Rattle.std.proofs.lemmas.List.{take_at, drop_at, take-append-drop}
use Rattle.std.proofs.lemmas.Bool.{and_parts, and_from}
use Rattle.algebra.specs.Codec.{Codec, IsCodec}
use Rattle.plant.specs.declared.row.Row.{Row}
use Rattle.plant.specs.Rows.{RowOf, row_of, row_meant, joined, four, row_codec}

module _ {X Y : Type 0} where
  zip_some : (o : Option X) (q : Option Y) (p : X × Y) → option_zip o q ≡ Some p → (o ≡ Some p.0) × (q ≡ Some p.1)
  zip_some None q p e = cc
  zip_some (Some x) None p e = cc
  zip_some (Some x) (Some y) p e = let same : ◌≡◌ {A = X × Y} (x, y) p = cc in (ap (λ (r : X × Y). Some r.0) same, ap (λ (r : X × Y). Some r.1) same)

  -- Two codes one behind the other encode pairs.
  module _ (c : Codec X) (d : Codec Y) where
    pub joined_encodes : IsCodec c → IsCodec d → IsCodec (joined c d)
    joined_encodes first second = record {
      sized = λ p. length-append (c.encode p.0) (d.encode p.1) ∙ ap₂ ◌+◌ (first.sized p.0) (second.sized p.1);
      back = λ p. ap₂ option_zip
          (ap c.decode (take_at (c.encode p.0) (d.encode p.1) c.size (first.sized p.0)) ∙ first.back p.0)
          (ap d.decode (drop_at (c.encode p.0) (d.encode p.1) c.size (first.sized p.0)) ∙ second.back p.1);
      only = λ p bytes e.
          let parts = zip_some (c.decode (take c.size bytes)) (d.decode (drop c.size bytes)) p e in
          sym (take-append-drop c.size bytes) ∙ ap₂ ◌++◌ (first.only p.0 (take c.size bytes) parts.0) (second.only p.1 (drop c.size bytes) parts.1);
    }

module _ {E : Type 0} (c : Codec E) where
  row_some : (o : Option ((E × E) × (E × E))) (r : RowOf E) → option_map (λ ((w, x), (y, z)). row_of w x y z) o ≡ Some r → o ≡ Some ((r.w, r.x), (r.y, r.z))
  row_some None r e = cc
  row_some (Some p) r e = let same : row_of p.0.0 p.0.1 p.1.0 p.1.1 ≡ r = cc in ap (λ (t : RowOf E). Some ((t.w, t.x), (t.y, t.z))) same

  pub row_encodes : IsCodec c → IsCodec (row_codec c)
  row_encodes laws =
      let pair = joined_encodes c c laws laws in
      let pairs = joined_encodes (joined c c) (joined c c) pair pair in
      record {
        sized = λ r. pairs.sized ((r.w, r.x), (r.y, r.z)) ∙ omega arith;
        back = λ r. ap (option_map (λ ((w, x), (y, z)). row_of w x y z)) (pairs.back ((r.w, r.x), (r.y, r.z)));
        only = λ r bytes e. pairs.only ((r.w, r.x), (r.y, r.z)) bytes (row_some ((four c).decode bytes) r e);
      }

-- Too few bytes for the first of two codes are no pair.
module _ {X Y : Type 0} (c : Codec X) (d : Codec Y) (laws : IsCodec c) (bytes : List ℕ) (few : length bytes < c.size) where
  none_of : (o : Option X) → c.decode (take c.size bytes) ≡ o → option_zip o (d.decode (drop c.size bytes)) ≡ None
  none_of None e = refl
  none_of (Some x) e = absurd (let long = ap length (laws.only x (take c.size bytes) e) ∙ laws.sized x in omega (arith, simp length-take at long))

  pub joined_short : (joined c d).decode bytes ≡ None
  joined_short = none_of _ refl

-- Rows are equal where their numbers are, place by place.
pub row_equal : {F E : Type 0} (eq : F → F → Bool) (f : F → E) → ((x y : F) → (eq x y ≡ true) ↔ (f x ≡ f y)) → (r s : Row F)
    → ((eq r.w s.w && (eq r.x s.x && (eq r.y s.y && eq r.z s.z))) ≡ true) ↔ (row_meant f r ≡ row_meant f s)
row_equal {E = E} eq f equal r s = (
  λ t. (
      let w = and_parts _ _ t in
      let x = and_parts _ _ w.1 in
      let y = and_parts _ _ x.1 in
      rw ((equal r.w s.w).0 w.0, (equal r.x s.x).0 x.0, (equal r.y s.y).0 y.0, (equal r.z s.z).0 y.1) refl),
  λ e. and_from _ _ ((equal r.w s.w).1 (ap (λ (t : RowOf E). t.w) e)) (
      and_from _ _ ((equal r.x s.x).1 (ap (λ (t : RowOf E). t.x) e)) (
      and_from _ _ ((equal r.y s.y).1 (ap (λ (t : RowOf E). t.y) e)) ((equal r.z s.z).1 (ap (λ (t : RowOf E). t.z) e)))),
)
