use Rattle.std.proofs.Common.{◌*◌, ◌≤◌, ◌++◌, length, sym, ap, ◌∙◌, append_assoc, append-nil, arith}
use Rattle.plant.proofs.Writing.{all_written, not_refused, next_held}
use Rattle.plant.proofs.row.RowSpace.write.Goals as goal

pub returns-in_err-at : goal.returns-in_err-at
returns-in_err-at g c =
    let laws = g.met.F.Field in
    let room : 4 * g.F.Field.codec.size ≤ length c.args.out.now = omega (arith, c.if-out-SIZE.false, c.SIZE.ensures, laws.measured) in
    absurd (not_refused c.loop-number.invariant (λ x. laws.encodes.sized _) room c.number-item.result c.write.new.out c.write.result c.loop-number-test.true c.write.ensures _ c.in_err-at.was)

pub loop-number-preserved : goal.loop-number-preserved
loop-number-preserved g c =
    let laws = g.met.F.Field in
    let room : 4 * g.F.Field.codec.size ≤ length c.args.out.now = omega (arith, c.if-out-SIZE.false, c.SIZE.ensures, laws.measured) in
    next_held c.loop-number.invariant (λ x. laws.encodes.sized _) room c.number-item.result c.write.new.out c.write.result c.loop-number-test.true c.write.ensures
    c.in_ok-at.field-0 c.in_ok-at.was

pub returns : goal.returns
returns g c =
    let f = g.F.Field in
    let laws = g.met.F.Field in
    let room : 4 * f.codec.size ≤ length c.args.out.now = omega (arith, c.if-out-SIZE.false, c.SIZE.ensures, laws.measured) in
    let w = f.codec.encode (f.means c.args.self.w) in
    let x = f.codec.encode (f.means c.args.self.x) in
    let y = f.codec.encode (f.means c.args.self.y) in
    let z = f.codec.encode (f.means c.args.self.z) in
    all_written c.loop-number.invariant (λ x. laws.encodes.sized _) room ((w ++ x) ++ (y ++ z))
    (ap (λ t. w ++ (x ++ (y ++ t))) (append-nil z) ∙ sym (append_assoc w x (y ++ z))) (omega arith)
