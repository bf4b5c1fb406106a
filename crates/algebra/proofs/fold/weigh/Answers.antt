use Rattle.std.proofs.Common.{arith, length-set}
use Rattle.algebra.proofs.Weighing.{weighing_none, weighing_more, weighed_all, weighed_full}
use Rattle.algebra.proofs.fold.weigh.Goals as goal

pub loop-i-init : goal.loop-i-init
loop-i-init g c = (omega arith, weighing_none _ _ _ _ _ _ g.met.F.Field.lawful _ c.one-power.ensures)

pub loop-i-preserved : goal.loop-i-preserved
loop-i-preserved g c =
    let l = c.loop-i in
    let long = length-set l.out l.i c.scale.result in (
      omega (arith, long, c.if-i-out.false),
      weighing_more _ _ _ _ _ _ l.i _ l.out l.invariant.1 g.met.F.Field.lawful c.index-values-i.result c.scale.result _ c.loop-i-test.true c.if-i-out.false c.index-values-i.is c.scale.ensures c.mul-power.ensures,
    )

pub returns-after-loop-i : goal.returns-after-loop-i
returns-after-loop-i g c =
    let l = c.loop-i in
    let done = weighed_all _ _ _ _ _ _ l.i _ l.out l.invariant.1 c.loop-i-test.false l.auto.i-end l.invariant.0 in
    record { value = done.0; rest = done.1 }

pub returns-then-i-out : goal.returns-then-i-out
returns-then-i-out g c =
    let l = c.loop-i in
    let done = weighed_full _ _ _ _ _ _ l.i _ l.out l.invariant.1 c.if-i-out.true l.auto.i-end in
    record { value = done.0; rest = done.1 }
