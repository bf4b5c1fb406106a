use Rattle.std.proofs.Common.{sym, ap, arith, option_map}
use Rattle.plant.specs.Rows.{joined}
use Rattle.plant.specs.RowBytes.{joined_encodes, joined_short}
use Rattle.plant.proofs.row.RowSpace.decode.Goals as goal

pub returns-in_err-front : goal.returns-in_err-front
returns-in_err-front g c =
    let code = g.F.Field.codec in
    let laws = g.met.F.Field.encodes in
    let pair = joined code code in
    let few = c.in_err-front.ensures.cases in
    rw c.from_residual.ensures (sym (ap (option_map _) (joined_short pair pair (joined_encodes code code laws laws) c.args.code.now (omega (arith, few, c.SIZE.ensures, g.met.F.Field.measured)))))
