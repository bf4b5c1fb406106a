use Rattle.std.proofs.Common.{◌+◌, sym, refl, ap, arith}
use Rattle.std.proofs.lemmas.Result.{err_from_is_err_and}
use Rattle.algebra.specs.Bytes.{Input}
use Rattle.algebra.proofs.Reading.{handed_on, stood, read_there}
use Rattle.algebra.proofs.ProofReading.{refused_summary, refused_a, refused_b, read_all}
use Rattle.algebra.proofs.proof.Proof.read_finals.Goals as goal

pub returns-in_err-array : goal.returns-in_err-array
returns-in_err-array g c =
    let n = g.F.Field.codec in
    let i = c.args.input.now in
    handed_on _ c.from_residual.result c.in_err-array.field-0.0 _ (err_from_is_err_and c.from_residual.result c.from_residual.ensures.1)
    (refused_summary n c.args.rounds i.at 0 0 i.bytes c.in_err-array.field-0.0 c.in_err-array.ensures.value)

pub returns-in_err-element : goal.returns-in_err-element
returns-in_err-element g c =
    let n = g.F.Field.codec in
    let i = c.args.input.now in
    handed_on _ c.from_residual-in_err-element.result c.in_err-element.field-0.0 _ (err_from_is_err_and c.from_residual-in_err-element.result c.from_residual-in_err-element.ensures.1)
    (refused_a n c.args.rounds i.at (i.at + 32) 0 i.bytes _ c.in_ok-array.ensures.value refl c.in_err-element.field-0.0 (read_there n i.bytes _ _ _ c.in_ok-array.ensures.after c.in_err-element.ensures.value))

pub returns-in_err-element-2 : goal.returns-in_err-element-2
returns-in_err-element-2 g c =
    let n = g.F.Field.codec in
    let i = c.args.input.now in
    let there = stood i.bytes (i.at + 32) _ (i.at + 32 + n.size) _ _ c.in_ok-array.ensures.after c.in_ok-element.ensures.after (omega (arith, g.met.F.Field.measured)) in
    handed_on _ c.from_residual-in_err-element-2.result c.in_err-element-2.field-0.0 _ (err_from_is_err_and c.from_residual-in_err-element-2.result c.from_residual-in_err-element-2.ensures.1)
    (refused_b n c.args.rounds i.at (i.at + 32) (i.at + 32 + n.size) i.bytes _ c.in_ok-array.ensures.value refl _ (read_there n i.bytes _ _ _ c.in_ok-array.ensures.after c.in_ok-element.ensures.value) refl
    c.in_err-element-2.field-0.0 (read_there n i.bytes _ _ _ there c.in_err-element-2.ensures.value))

pub returns : goal.returns
returns g c =
    let n = g.F.Field.codec in
    let i = c.args.input.now in
    let there = stood i.bytes (i.at + 32) _ (i.at + 32 + n.size) _ _ c.in_ok-array.ensures.after c.in_ok-element.ensures.after (omega (arith, g.met.F.Field.measured)) in
    let behind = stood i.bytes (i.at + 32 + n.size) _ (i.at + 32 + n.size + n.size) _ _ there c.in_ok-element-2.ensures.after (omega (arith, g.met.F.Field.measured)) in
    sym (read_all n c.args.rounds i.at (i.at + 32) (i.at + 32 + n.size) i.bytes _ c.in_ok-array.ensures.value refl _ (read_there n i.bytes _ _ _ c.in_ok-array.ensures.after c.in_ok-element.ensures.value) refl
    _ _ (read_there n i.bytes _ _ _ there c.in_ok-element-2.ensures.value) (ap (λ (i : Input). i.at) behind))
