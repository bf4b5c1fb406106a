use Rattle.std.proofs.Common.{refl}
use Rattle.plant.specs.ByteField.{byte}
use Rattle.plant.specs.ByteLaws.{byte_of}
use Rattle.plant.proofs.byte.ByteDraw.draw.Goals as goal

pub returns : goal.returns
returns c = byte_of _ (byte c.args.v) refl
