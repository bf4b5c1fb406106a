use Rattle.std.proofs.Common.{◌≡◌, suc, ◌+◌, ◌-◌, ◌/◌, sym, ap, ap₂, ◌∙◌, arith}
use Rattle.std.specs.Int.Bits.{bit_xor}
use Rattle.plant.specs.ByteField.{byte, times}
use Rattle.plant.specs.ByteLaws.{byte_of, next, quick, times_bytes, times_next, quick_odd, quick_even, quick_none}
use Rattle.plant.proofs.byte.ByteField.mul.Goals as goal
use Rattle.plant.proofs.byte.ByteField.mul.Goals.{then-left-eq1, else-left-eq1}

pub loop-preserved : goal.loop-preserved
loop-preserved c =
    let l = c.loop in
    let w = 8 - (l.counter + 1) in
    let more : suc w ≡ 8 - l.counter = omega arith in
    let moved : c.times_x-shifted.result ≡ next l.shifted = c.times_x-shifted.ensures ∙ times_next l.shifted l.invariant.1 in
    let kept : bit_xor c.if-left-eq1.sum (quick w (l.left / 2) (next l.shifted)) ≡ bit_xor l.sum (quick (suc w) l.left l.shifted) =
    elim c.if-left-eq1.branch [
      | then-left-eq1 v ↦
          ap (λ s. bit_xor s (quick w (l.left / 2) (next l.shifted))) v.sum-is ∙ quick_odd w l.sum l.left l.shifted v.if-left-eq1.true
      | else-left-eq1 v ↦
          ap (λ s. bit_xor s (quick w (l.left / 2) (next l.shifted))) v.sum-is ∙ quick_even w l.sum l.left l.shifted v.if-left-eq1.false
    ] in (
      ap (λ s. bit_xor c.if-left-eq1.sum (quick w (l.left / 2) s)) moved ∙ kept
          ∙ ap (λ k. bit_xor l.sum (quick k l.left l.shifted)) more ∙ l.invariant.0,
      c.times_x-shifted.type_inv,
    )

pub returns : goal.returns
returns c =
    let l = c.loop in
    let a = c.self.inside.value in
    let b = c.other.inside.value in
    let done : 0 ≡ 8 - l.counter = omega arith in
    byte_of l.sum (times (byte a) (byte b)) (
    sym (quick_none l.sum l.left l.shifted) ∙ ap (λ k. bit_xor l.sum (quick k l.left l.shifted)) done ∙ l.invariant.0
    ∙ sym (times_bytes a b c.self.invariant c.other.invariant))
    ∙ ap₂ times c.self.view_is c.other.view_is
