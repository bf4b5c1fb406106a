use Rattle.std.proofs.Common.{sym, arith}
use Rattle.plant.specs.RowBytes.{joined_short}
use Rattle.plant.proofs.row.pair.Goals as goal

pub returns-in_err-first : goal.returns-in_err-first
returns-in_err-first g c =
    let few = c.in_err-first.ensures.cases in
    rw c.from_residual.ensures (sym (joined_short g.F.Field.codec g.F.Field.codec g.met.F.Field.encodes c.args.code.now (omega (arith, few, c.SIZE.ensures, g.met.F.Field.measured))))
