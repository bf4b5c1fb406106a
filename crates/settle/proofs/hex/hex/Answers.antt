use Rattle.std.proofs.Common.{◌≡◌, ◌+◌, ◌/◌, ◌%◌, ◌<◌, false, [], ◌∷◌, ◌++◌, drop, get_or, string_bytes, sym, ap, ◌∙◌, append_assoc, append-nil, arith}
use Rattle.std.proofs.lemmas.List.{at_drop_more, at_drop_all}
use Rattle.std.proofs.lemmas.Fmt.{hex_byte}
use Rattle.settle.specs.Hex.{hex_digit, spaced}
use Rattle.settle.proofs.hex.hex.Goals as goal

pub loop-b-preserved : goal.loop-b-preserved
loop-b-preserved c =
    let l = c.loop-b in
    let bytes = c.args.bytes.now in
    let t = string_bytes l.text in
    let b = get_or bytes l.b-index 0 in
    let byte : b < 256 = omega (arith, c.type_inv.bytes l.b-index) in
    let rest = spaced (drop (l.b-index + 1) bytes) in
    let wrote : string_bytes c.write.new.self ≡ t ++ (32 ∷ hex_digit (b / 16) ∷ hex_digit (b % 16) ∷ []) =
    rw (c.in_radix.ensures, c.laid_out.ensures, hex_byte false b byte) at c.in_ok-write.ensures.bytes in
    ap (λ s. s ++ rest) wrote ∙ append_assoc t (32 ∷ hex_digit (b / 16) ∷ hex_digit (b % 16) ∷ []) rest
    ∙ ap (λ s. t ++ s) (sym (at_drop_more spaced bytes l.b-index 0 c.loop-b-test.true)) ∙ l.invariant

pub returns : goal.returns
returns c =
    let t = string_bytes c.loop-b.text in
    let none = at_drop_all spaced c.args.bytes.now c.loop-b.b-index c.loop-b-test.false in
    sym (append-nil t) ∙ sym (ap (λ s. t ++ s) none) ∙ c.loop-b.invariant
