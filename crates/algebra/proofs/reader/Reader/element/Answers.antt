use Rattle.std.proofs.Common.{◌≡◌, sym, ap, ◌∙◌}
use Rattle.std.proofs.lemmas.Result.{err_from_is_err_and}
use Rattle.std.specs.Option.{ok_or}
use Rattle.algebra.specs.declared.fault.ByteFault.TheVariants.{NotElement}
use Rattle.algebra.specs.Bytes.{Input, meant}
use Rattle.algebra.proofs.Taking.{bytes_end, as_decoded, meant_element}
use Rattle.algebra.proofs.Reading.{handed_on}
use Rattle.algebra.proofs.reader.Reader.element.Goals as goal

pub returns-in_err-peek-clause-value : goal.returns-in_err-peek-clause-value
returns-in_err-peek-clause-value g c =
    let fault = c.in_err-peek.field-0.0 in
    handed_on g.G.Space.means c.from_residual.result fault _ (err_from_is_err_and c.from_residual.result c.from_residual.ensures.1)
    (bytes_end g.G.Space.codec c.SIZE.result _ _ (g.met.G.Space.measured ∙ sym c.SIZE.ensures) fault c.in_err-peek.ensures.value)

pub returns-in_err-element-clause-value : goal.returns-in_err-element-clause-value
returns-in_err-element-clause-value g c =
    let s = g.G.Space in
    let fault = c.in_err-element.field-0.0 in
    let at : c.self.inside.at ≡ c.args.self.now.at = ap (λ (i : Input). i.at) c.self.view_is in
    let answer = ap (meant s.means) (c.in_err-element.ensures.value ∙ ap (λ t. ok_or c.decode.result (NotElement t)) at) ∙ meant_element s.means c.args.self.now.at c.decode.result in
    handed_on s.means c.from_residual-in_err-element.result fault _ (err_from_is_err_and c.from_residual-in_err-element.result c.from_residual-in_err-element.ensures.1)
    (as_decoded s.codec c.SIZE.result _ _ (g.met.G.Space.measured ∙ sym c.SIZE.ensures) _ c.in_ok-peek.ensures.value _ c.decode.ensures ∙ sym answer)

pub returns-clause-value : goal.returns-clause-value
returns-clause-value g c =
    let s = g.G.Space in
    let at : c.self.inside.at ≡ c.args.self.now.at = ap (λ (i : Input). i.at) c.self.view_is in
    let answer = ap (meant s.means) (c.in_ok-element.ensures.value ∙ ap (λ t. ok_or c.decode.result (NotElement t)) at) ∙ meant_element s.means c.args.self.now.at c.decode.result in
    answer ∙ sym (as_decoded s.codec c.SIZE.result _ _ (g.met.G.Space.measured ∙ sym c.SIZE.ensures) _ c.in_ok-peek.ensures.value _ c.decode.ensures)
