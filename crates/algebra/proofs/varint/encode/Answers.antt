use Rattle.std.proofs.Common.{◌+◌, ◌<◌, length, sym, ap, ◌∙◌, arith, length-set}
use Rattle.std.proofs.lemmas.List.{length-take-le}
use Rattle.algebra.proofs.Varints.{most_next, short_of, encode_more, encode_last}
use Rattle.algebra.proofs.varint.encode.Goals as goal

pub loop-rest-preserved : goal.loop-rest-preserved
loop-rest-preserved c =
    let i = c.loop-rest.invariant in
    let s : c.loop-rest.len < 9 = short_of _ _ i.0 i.1 c.loop-rest-test.true in
    let l : c.loop-rest.len < length c.loop-rest.bytes = omega arith in
    (omega arith, most_next _ _ i.1, encode_more c.loop-rest.bytes c.loop-rest.len c.loop-rest.rest c.args.n l s c.loop-rest-test.true i.2, simp length-set i.3)

pub returns : goal.returns
returns c =
    let i = c.loop-rest.invariant in
    let l : c.loop-rest.len < length c.loop-rest.bytes = omega arith in
    let made = encode_last c.loop-rest.bytes c.loop-rest.len c.loop-rest.rest c.args.n l (omega arith) i.2 in
    record { value = made; len = sym (length-take-le (c.loop-rest.len + 1) _ (simp length-set (omega arith))) ∙ ap length made }
