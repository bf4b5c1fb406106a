use Rattle.std.proofs.Common.{◌≡◌, ◌+◌, length, arith, rules, sym, ◌∙◌}
use Rattle.algebra.proofs.Writing.{three_held, held_written, too_short}
use Rattle.algebra.proofs.ProofReading.{length_finals}
use Rattle.algebra.proofs.proof.Proof.write_finals.Goals as goal

pub returns-then-out-size : goal.returns-then-out-size
returns-then-out-size g c =
    let f = g.F.Field in
    let self = c.args.self.now in
    let long : length self.summary ≡ 32 = search rules in
    let total = length_finals f.codec g.met.F.Field.encodes self.summary (f.means self.a_final) (f.means self.b_final) long in
    too_short _ c.args.out.now (omega (arith, total, c.if-out-size.true, (c.SIZE.ensures ∙ sym g.met.F.Field.measured), (c.SIZE-b_at.ensures ∙ sym g.met.F.Field.measured)))

pub returns : goal.returns
returns g c =
    let f = g.F.Field in
    let self = c.args.self.now in
    let long : length self.summary ≡ 32 = search rules in
    let a = f.codec.encode (f.means self.a_final) in
    let b = f.codec.encode (f.means self.b_final) in
    let long_a = g.met.F.Field.encodes.sized (f.means self.a_final) in
    let long_b = g.met.F.Field.encodes.sized (f.means self.b_final) in
    let room = c.if-out-size.false in
    let wide = (c.SIZE.ensures ∙ sym g.met.F.Field.measured) in
    let wide_b = (c.SIZE-b_at.ensures ∙ sym g.met.F.Field.measured) in
    let total = length_finals f.codec g.met.F.Field.encodes self.summary (f.means self.a_final) (f.means self.b_final) long in
    held_written _ c.args.out.now _ _
    (three_held self.summary a c.args.out.now c.put.new.out c.write.new.out c.put.result c.write.result 32 (omega (arith, long, long_a, room, wide, wide_b)) c.put.ensures (omega (arith, long)) c.write.ensures
    b c.write-2.new.out c.write-2.result (32 + c.SIZE-b_at.result) (omega (arith, long, long_a, long_b, room, wide, wide_b)) (omega (arith, long, long_a, wide_b)) c.write-2.ensures)
    (omega (arith, total, wide, wide_b)) (omega (arith, total, room, wide, wide_b))
