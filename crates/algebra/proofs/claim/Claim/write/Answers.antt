use Rattle.std.proofs.Common.{◌≡◌, ◌+◌, ◌≤◌, [], ◌∷◌, ◌++◌, length, drop, ap, ◌∙◌, append_assoc, arith, length-append, sym}
use Rattle.algebra.specs.Codec.{Codec, IsCodec}
use Rattle.algebra.specs.Claims.{ClaimOf, claim_of, encode_claim, claim_size}
use Rattle.algebra.proofs.Writing.{holds_byte, three_held, held_written, too_short}
use Rattle.algebra.proofs.claim.Claim.write.Goals as goal

-- a claim's code has the size of a claim
length_claim : {E V : Type 0} (n : Codec E) (e : Codec V) → IsCodec n → IsCodec e → (c : ClaimOf E V) → length (encode_claim n e c) ≡ claim_size n e
length_claim n e numbers elements c =
    let a = elements.sized c.commitment in
    let b = numbers.sized c.product in
    let d = numbers.sized c.y in
    simp length-append (omega (arith, a, b, d))

pub returns-then-out-size : goal.returns-then-out-size
returns-then-out-size g c =
    let long = length_claim g.F.Field.codec g.G.Space.codec g.met.F.Field.encodes g.met.G.Space.encodes (claim_of g.F.Field.means g.G.Space.means c.args.self.now) in
    too_short _ c.args.out.now (omega (arith, long, c.size.ensures, c.if-out-size.true))

pub returns : goal.returns
returns g c =
    let f = g.F.Field in
    let s = g.G.Space in
    let claim = c.args.self.now in
    let out = c.args.out.now in
    let p = s.codec.encode (s.means claim.commitment) in
    let m = f.codec.encode (f.means claim.product) in
    let y = f.codec.encode (f.means claim.y) in
    let l = claim.log_len ∷ [] in
    let a = g.met.G.Space.encodes.sized (s.means claim.commitment) in
    let b = g.met.F.Field.encodes.sized (f.means claim.product) in
    let d = g.met.F.Field.encodes.sized (f.means claim.y) in
    let size = length_claim f.codec s.codec g.met.F.Field.encodes g.met.G.Space.encodes (claim_of f.means s.means claim) in
    let room : s.codec.size + f.codec.size + f.codec.size + 1 ≤ length out = omega (arith, c.size.ensures, c.if-out-size.false) in
    let three = three_held p m out c.write.new.out c.write-2.new.out c.write.result c.write-2.result c.SIZE-product_at.result (omega (arith, room, a, b))
    c.write.ensures (omega (arith, a, (c.SIZE-product_at.ensures ∙ sym g.met.G.Space.measured))) c.write-2.ensures y c.write-3.new.out c.write-3.result (c.SIZE-product_at.result + c.SIZE.result)
    (omega (arith, room, a, b, d)) (omega (arith, a, b, (c.SIZE-product_at.ensures ∙ sym g.met.G.Space.measured), (c.SIZE.ensures ∙ sym g.met.F.Field.measured))) c.write-3.ensures in
    let long = length-append p (m ++ y) ∙ ap (λ t. length p + t) (length-append m y) in
    let all = holds_byte (p ++ (m ++ y)) out _ (c.SIZE-product_at.result + c.SIZE.result + c.SIZE-2.result) claim.log_len three
    (omega (arith, long, a, b, d, (c.SIZE-product_at.ensures ∙ sym g.met.G.Space.measured), (c.SIZE.ensures ∙ sym g.met.F.Field.measured), (c.SIZE-2.ensures ∙ sym g.met.F.Field.measured))) (omega (arith, long, room, a, b, d)) in
    let whole : (p ++ (m ++ y)) ++ l ≡ p ++ (m ++ (y ++ l)) = append_assoc p (m ++ y) l ∙ ap (λ t. p ++ t) (append_assoc m y l) in
    held_written _ out _ _ (all ∙ ap (λ t. t ++ drop (length t) out) whole) (omega (arith, size, (c.SIZE-product_at.ensures ∙ sym g.met.G.Space.measured), (c.SIZE.ensures ∙ sym g.met.F.Field.measured), (c.SIZE-2.ensures ∙ sym g.met.F.Field.measured))) (omega (arith, size, room))
