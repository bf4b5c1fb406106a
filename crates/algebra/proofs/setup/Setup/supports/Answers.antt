use Rattle.std.proofs.Common.{◌/◌, ◌^◌, ◌≤◌, length, sym, ◌∙◌, arith, pow_mono}
use Rattle.std.proofs.lemmas.Bool.{le-ltb, lt-leb}
use Rattle.algebra.proofs.setup.Setup.supports.Goals as goal

-- 2^64 and above is more than any setup has.
pub returns-else-lg_len-lt64 : goal.returns-else-lg_len-lt64
returns-else-lg_len-lt64 g c =
    let row = c.args.self.now.elements.now in
    let large : 2 ^ 64 ≤ 2 ^ c.args.lg_len = pow_mono c.if-lg_len-lt64.false in
    le-ltb c.args.lg_len 64 c.if-lg_len-lt64.false
    ∙ sym (lt-leb (2 ^ c.args.lg_len) (length row / 2) (omega (arith, large, c.args.self.now.few)))
