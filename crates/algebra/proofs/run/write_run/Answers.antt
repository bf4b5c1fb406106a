use Rattle.std.proofs.Common.{arith, sym, ◌∙◌}
use Rattle.algebra.proofs.InOrder.{wrote_none, wrote_short, wrote_more, wrote_all}
use Rattle.algebra.proofs.run.write_run.Goals as goal

pub returns-then-out-count : goal.returns-then-out-count
returns-then-out-count g c =
    let s = g.G.Space in
    wrote_short s.codec g.met.G.Space.encodes s.means c.args.order c.args.count c.args.area.now c.requires.within c.args.out.now (rw (← (c.SIZE.ensures ∙ sym g.met.G.Space.measured)) c.if-out-count.true)

pub loop-j-init : goal.loop-j-init
loop-j-init g c = wrote_none _ _ _ _ _

pub loop-j-preserved : goal.loop-j-preserved
loop-j-preserved g c =
    let s = g.G.Space in
    let l = c.loop-j in
    wrote_more s.codec g.met.G.Space.encodes s.means c.args.order c.args.count c.args.area.now c.requires.within c.args.out.now (rw (← (c.SIZE.ensures ∙ sym g.met.G.Space.measured)) c.if-out-count.false)
    l.j l.end l.out l.invariant c.slot.result c.index-area-slot.result _ c.write.result c.SIZE-end.result c.loop-j-test.true c.slot.ensures c.index-area-slot.is c.write.ensures (c.SIZE-end.ensures ∙ sym g.met.G.Space.measured)

pub returns : goal.returns
returns g c =
    let s = g.G.Space in
    let l = c.loop-j in
    wrote_all s.codec g.met.G.Space.encodes s.means c.args.order c.args.count c.args.area.now c.requires.within c.args.out.now (rw (← (c.SIZE.ensures ∙ sym g.met.G.Space.measured)) c.if-out-count.false)
    l.j l.end l.out l.invariant (omega (arith, c.loop-j-test.false, l.auto.j-end))
