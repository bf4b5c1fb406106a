use Rattle.std.proofs.Common.{ap₂, ◌∙◌}
use Rattle.plant.specs.ByteField.{sum}
use Rattle.plant.specs.ByteLaws.{sum_xor}
use Rattle.plant.proofs.byte.ByteField.add.Goals as goal

pub returns : goal.returns
returns c = sum_xor c.self.inside.value c.other.inside.value ∙ ap₂ sum c.self.view_is c.other.view_is
