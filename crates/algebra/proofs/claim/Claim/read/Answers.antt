use Rattle.std.proofs.Common.{◌≡◌, ◌+◌, Ok, sym, ap, ◌∙◌}
use Rattle.std.proofs.lemmas.Result.{err_from_is_err_and}
use Rattle.algebra.specs.Bytes.{Input, read_byte, left}
use Rattle.algebra.specs.Claims.{claim_of, read_claim, claim_size}
use Rattle.algebra.proofs.Reading.{handed_on, read_there, at_product, at_y, at_log_len, refused_commitment, refused_product, refused_y, refused_log_len, read_whole, accepts_claims}
use Rattle.algebra.proofs.claim.Claim.read.Goals as goal

pub returns-in_err-element : goal.returns-in_err-element
returns-in_err-element g c =
    let n = g.F.Field.codec in
    let e = g.G.Space.codec in
    let bytes = c.args.bytes.now in
    let fault = c.in_err-element.field-0.0 in
    let value = handed_on (λ p. (claim_of g.F.Field.means g.G.Space.means p.0, p.1)) c.from_residual.result fault (read_claim n e bytes)
    (err_from_is_err_and c.from_residual.result c.from_residual.ensures.1)
    (refused_commitment n e bytes fault (read_there e bytes 0 _ _ c.new-input.ensures c.in_err-element.ensures.value)) in
    record { value = value; accepts = accepts_claims n e g.met.F.Field.encodes g.met.G.Space.encodes bytes _ value }

pub returns-in_err-element-2 : goal.returns-in_err-element-2
returns-in_err-element-2 g c =
    let n = g.F.Field.codec in
    let e = g.G.Space.codec in
    let bytes = c.args.bytes.now in
    let fault = c.in_err-element-2.field-0.0 in
    let p = read_there e bytes 0 _ _ c.new-input.ensures c.in_ok-element.ensures.value in
    let there = at_product n e bytes _ _ g.met.G.Space.measured g.met.F.Field.measured _ _ c.new-input.ensures c.in_ok-element.ensures.after in
    let value = handed_on (λ p. (claim_of g.F.Field.means g.G.Space.means p.0, p.1)) c.from_residual-in_err-element-2.result fault (read_claim n e bytes)
    (err_from_is_err_and c.from_residual-in_err-element-2.result c.from_residual-in_err-element-2.ensures.1)
    (refused_product n e bytes _ p fault (read_there n bytes _ _ _ there c.in_err-element-2.ensures.value)) in
    record { value = value; accepts = accepts_claims n e g.met.F.Field.encodes g.met.G.Space.encodes bytes _ value }

pub returns-in_err-element-3 : goal.returns-in_err-element-3
returns-in_err-element-3 g c =
    let n = g.F.Field.codec in
    let e = g.G.Space.codec in
    let bytes = c.args.bytes.now in
    let fault = c.in_err-element-3.field-0.0 in
    let p = read_there e bytes 0 _ _ c.new-input.ensures c.in_ok-element.ensures.value in
    let there = at_product n e bytes _ _ g.met.G.Space.measured g.met.F.Field.measured _ _ c.new-input.ensures c.in_ok-element.ensures.after in
    let m = read_there n bytes _ _ _ there c.in_ok-element-2.ensures.value in
    let there_y = at_y n e bytes _ _ g.met.G.Space.measured g.met.F.Field.measured _ _ c.new-input.ensures c.in_ok-element.ensures.after _ c.in_ok-element-2.ensures.after in
    let value = handed_on (λ p. (claim_of g.F.Field.means g.G.Space.means p.0, p.1)) c.from_residual-in_err-element-3.result fault (read_claim n e bytes)
    (err_from_is_err_and c.from_residual-in_err-element-3.result c.from_residual-in_err-element-3.ensures.1)
    (refused_y n e bytes _ p _ m fault (read_there n bytes _ _ _ there_y c.in_err-element-3.ensures.value)) in
    record { value = value; accepts = accepts_claims n e g.met.F.Field.encodes g.met.G.Space.encodes bytes _ value }

pub returns-in_err-byte : goal.returns-in_err-byte
returns-in_err-byte g c =
    let n = g.F.Field.codec in
    let e = g.G.Space.codec in
    let bytes = c.args.bytes.now in
    let fault = c.in_err-byte.field-0.0 in
    let p = read_there e bytes 0 _ _ c.new-input.ensures c.in_ok-element.ensures.value in
    let there = at_product n e bytes _ _ g.met.G.Space.measured g.met.F.Field.measured _ _ c.new-input.ensures c.in_ok-element.ensures.after in
    let m = read_there n bytes _ _ _ there c.in_ok-element-2.ensures.value in
    let there_y = at_y n e bytes _ _ g.met.G.Space.measured g.met.F.Field.measured _ _ c.new-input.ensures c.in_ok-element.ensures.after _ c.in_ok-element-2.ensures.after in
    let y = read_there n bytes _ _ _ there_y c.in_ok-element-3.ensures.value in
    let there_l = at_log_len n e bytes _ _ g.met.G.Space.measured g.met.F.Field.measured _ _ c.new-input.ensures c.in_ok-element.ensures.after _ c.in_ok-element-2.ensures.after _ c.in_ok-element-3.ensures.after in
    let value = handed_on (λ p. (claim_of g.F.Field.means g.G.Space.means p.0, p.1)) c.from_residual-in_err-byte.result fault (read_claim n e bytes)
    (err_from_is_err_and c.from_residual-in_err-byte.result c.from_residual-in_err-byte.ensures.1)
    (refused_log_len n e bytes _ p _ m _ y fault (c.in_err-byte.ensures.value ∙ ap (λ (i : Input). read_byte i.at (left i)) there_l)) in
    record { value = value; accepts = accepts_claims n e g.met.F.Field.encodes g.met.G.Space.encodes bytes _ value }

pub returns : goal.returns
returns g c =
    let n = g.F.Field.codec in
    let e = g.G.Space.codec in
    let bytes = c.args.bytes.now in
    let p = read_there e bytes 0 _ _ c.new-input.ensures c.in_ok-element.ensures.value in
    let there = at_product n e bytes _ _ g.met.G.Space.measured g.met.F.Field.measured _ _ c.new-input.ensures c.in_ok-element.ensures.after in
    let m = read_there n bytes _ _ _ there c.in_ok-element-2.ensures.value in
    let there_y = at_y n e bytes _ _ g.met.G.Space.measured g.met.F.Field.measured _ _ c.new-input.ensures c.in_ok-element.ensures.after _ c.in_ok-element-2.ensures.after in
    let y = read_there n bytes _ _ _ there_y c.in_ok-element-3.ensures.value in
    let there_l = at_log_len n e bytes _ _ g.met.G.Space.measured g.met.F.Field.measured _ _ c.new-input.ensures c.in_ok-element.ensures.after _ c.in_ok-element-2.ensures.after _ c.in_ok-element-3.ensures.after in
    let l = c.in_ok-byte.ensures.value ∙ ap (λ (i : Input). read_byte i.at (left i)) there_l in
    let end : c.at.result ≡ claim_size n e = c.at.ensures ∙ ap (λ (i : Input). i.at) c.in_ok-byte.ensures.after ∙ ap (λ (i : Input). i.at + 1) there_l in
    let value = ap (λ t. Ok (claim_of g.F.Field.means g.G.Space.means (record { commitment = c.in_ok-element.field-0; product = c.in_ok-element-2.field-0; y = c.in_ok-element-3.field-0; log_len = c.in_ok-byte.field-0 }), t)) end
    ∙ sym (read_whole n e bytes _ p _ m _ y _ l) in
    record { value = value; accepts = accepts_claims n e g.met.F.Field.encodes g.met.G.Space.encodes bytes _ value }
