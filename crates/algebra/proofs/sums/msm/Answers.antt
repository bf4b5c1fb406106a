use Rattle.std.proofs.Common.{map, sym, ap, ◌∙◌}
use Rattle.std.proofs.lemmas.List.{drop_all}
use Rattle.algebra.specs.Over.{space_over}
use Rattle.algebra.proofs.Summing.{left_at, lin_start, lin_more, lin_end_left, lin_end_right}
use Rattle.algebra.proofs.sums.msm.Goals as goal

pub loop-i-init : goal.loop-i-init
loop-i-init g c = rw c.zero-sum.ensures (lin_start g.met.G.Space.lawful (space_over g.F.Field g.G.Space).scale _)

pub loop-i-preserved : goal.loop-i-preserved
loop-i-preserved g c =
    let f = g.F.Field in
    let s = g.G.Space in
    let i = c.loop-i.i in
    let a = left_at c.args.scalars.now i c.index-scalars-i.result c.loop-i-test.true c.index-scalars-i.is in
    let b = left_at c.args.points.now i c.index-points-i.result c.if-i-points.false c.index-points-i.is in
    rw (c.add-sum.ensures, c.scale.ensures)
    (lin_more g.met.G.Space.lawful (space_over f s).scale (s.means c.loop-i.sum) _ _ _ _ (f.means c.index-scalars-i.result) (s.means c.index-points-i.result)
    (ap (map f.means) a) (ap (map s.means) b) ∙ c.loop-i.invariant)

pub returns-after-loop-i : goal.returns-after-loop-i
returns-after-loop-i g c =
    let f = g.F.Field in
    let s = g.G.Space in
    sym (lin_end_left g.met.G.Space.lawful (space_over f s).scale (s.means c.loop-i.sum) _ _ (ap (map f.means) (drop_all c.loop-i.i c.args.scalars.now c.loop-i-test.false)))
    ∙ c.loop-i.invariant

pub returns-then-i-points : goal.returns-then-i-points
returns-then-i-points g c =
    let f = g.F.Field in
    let s = g.G.Space in
    sym (lin_end_right g.met.G.Space.lawful (space_over f s).scale (s.means c.loop-i.sum) _ _ (ap (map s.means) (drop_all c.loop-i.i c.args.points.now c.if-i-points.true)))
    ∙ c.loop-i.invariant
