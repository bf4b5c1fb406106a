use Rattle.std.proofs.Common.{◌≡◌, suc, ◌+◌, ◌-◌, sym, ap, ◌∙◌, ap₂, arith}
use Rattle.plant.specs.ByteField.{byte, times, squares, inverse}
use Rattle.plant.specs.ByteLaws.{byte_laws}
use Rattle.plant.proofs.byte.ByteField.inv.Goals as goal

pub loop-init : goal.loop-init
unfolding inverse
loop-init c =
    let all = squares 7 c.args.self in
    ap (λ x. times x all) c.one-inverse.ensures ∙ byte_laws.mul_comm (byte 1) all ∙ byte_laws.mul-one all

pub loop-preserved : goal.loop-preserved
loop-preserved c =
    let l = c.loop in
    let w = 7 - (l.counter + 1) in
    let more : suc w ≡ 7 - l.counter = omega arith in
    let square = times l.square l.square in
    let squared = c.mul-square.ensures in
    ap₂ (λ x y. times x (squares w y)) (c.mul-inverse.ensures ∙ ap (times l.inverse) squared) squared ∙ byte_laws.mul_assoc l.inverse square (squares w square)
    ∙ ap (λ k. times l.inverse (squares k l.square)) more ∙ l.invariant

pub returns : goal.returns
returns c =
    let l = c.loop in
    let done : 0 ≡ 7 - l.counter = omega arith in
    sym (byte_laws.mul-one l.inverse) ∙ ap (λ k. times l.inverse (squares k l.square)) done ∙ l.invariant
