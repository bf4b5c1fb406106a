use Rattle.std.proofs.Common.{length, refl, ap, arith, length-drop, length-take}
use Rattle.algebra.proofs.varint.read.Goals as goal

pub skip-requires : goal.skip-requires
skip-requires c =
    let input = c.args.input.now in
    let counted = c.in_ok-count.ensures.accepts.only c.in_ok-count.count c.in_ok-count.used refl in
    let long = ap length counted.2 in
    let all = ap length c.left.ensures in
    omega (arith, counted.1, long, all, length-take c.in_ok-count.used c.left.result.now, length-drop input.at input.bytes)
