use Rattle.std.proofs.Common.{◌≡◌, ◌^◌, ◌≤◌, ◌||◌, leb, sym, ap, ◌∙◌, arith, pow_mono, rules}
use Rattle.std.proofs.lemmas.Bool.{le-ltb, lt-leb, ltb-true, ne_eqb}
use Rattle.algebra.proofs.proof.permits.Goals as goal

-- 2^64 and above is more than any length.
pub returns-else-rounds-lt64 : goal.returns-else-rounds-lt64
returns-else-rounds-lt64 c =
    let large : 2 ^ 64 ≤ 2 ^ c.args.rounds = pow_mono c.if-rounds-lt64.false in
    let power : 2 ^ 64 ≡ 18446744073709551616 = search rules in
    let over = lt-leb (2 ^ c.args.rounds) c.args.highest (omega (arith, large, power, c.ranges.highest)) in
    record {
      value = le-ltb c.args.rounds 64 c.if-rounds-lt64.false ∙ sym (ap (λ t. t || leb (2 ^ c.args.rounds) c.args.highest) (ne_eqb c.args.rounds 0 c.if-rounds-eq0.false) ∙ over);
      few = λ e. ltb-true c.args.rounds 64 e;
    }

pub returns-then-rounds-lt64 : goal.returns-then-rounds-lt64
returns-then-rounds-lt64 c = record { value = search rules; few = λ _. c.if-rounds-lt64.true }
