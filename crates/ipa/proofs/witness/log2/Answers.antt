use Rattle.std.proofs.Common.{◌%◌, ◌^◌, ◌<◌, ap, ◌∙◌, mod-eq_of_lt, one-mul, arith, pow_pos}
use Rattle.ipa.proofs.PowersOfTwo.{power_false, no_power}
use Rattle.ipa.proofs.witness.log2.Goals as goal

pub returns-in_err-k : goal.returns-in_err-k
returns-in_err-k c = rw c.from_residual.ensures (power_false 64 c.args.n (λ j e. (let zero = c.in_err-k.ensures.none in omega (arith, pow_pos j, zero))))

pub returns-then-k-n : goal.returns-then-k-n
returns-then-k-n c =
    let k = c.in_ok-k.k in
    let log = c.in_ok-k.ensures in
    let fits : 2 ^ k < 18446744073709551616 = omega (arith, log.power_le) in
    power_false 64 c.args.n
    (λ j e. no_power k c.args.n j log.power_le log.next_power_gt (λ same. c.if-k-n.true (ap (λ t. t % 18446744073709551616) (one-mul (2 ^ k)) ∙ mod-eq_of_lt fits ∙ same)) e)
