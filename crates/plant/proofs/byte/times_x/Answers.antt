use Rattle.std.proofs.Common.{sym, arith}
use Rattle.plant.specs.ByteLaws.{times_next}
use Rattle.plant.proofs.byte.times_x.Goals as goal

pub returns : goal.returns
returns c = sym (times_next c.args.a (omega arith))
