use Rattle.std.proofs.Common.{ℕ, ◌<◌, List, length, get_or, sym, refl, ap, ◌∙◌, arith}
use lib.ListN.{length-map}
use Rattle.std.proofs.lemmas.List.{get_or-map}
use Rattle.plant.specs.ByteField.{times, inverse}
use Rattle.algebra.specs.Varint.{varint, varint_in}
use Rattle.bench.specs.Squares.{Square}
use Rattle.worked.proofs.worked_cases.Goals as goal

pub returns : goal.returns
unfolding times inverse varint varint_in
returns c =
    let row = c.bench_elements.result in
    let long : 64 < length row = omega (arith, ap length c.bench_elements.ensures, length-map row (λ (x : Square). x.value)) in
    record {
      value = c.value.ensures ∙ sym (get_or-map (λ (x : Square). x.value) row 64 _ 0 long) ∙ ap (λ (t : List ℕ). get_or t 64 0) c.bench_elements.ensures;
      cases = record { inverse_2 = refl; inverse_250 = refl; inverse_0 = refl; inverse_of_2 = refl; byte_product = refl; byte_inverse = refl; squares_sum = refl; claim_bytes = refl; setup_bytes = refl; varint_300 = refl; fold_a = refl; fold_b = refl; fold_product = refl; bench_q = refl };
    }
