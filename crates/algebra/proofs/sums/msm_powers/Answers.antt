use Rattle.std.proofs.Common.{◌≡◌, suc, ◌+◌, ◌-◌, map, length, sym, ap, ◌∙◌, ap₂, arith}
use Rattle.std.proofs.Math.Nat.{sub-zero}
use Rattle.std.proofs.lemmas.List.{drop_all}
use Rattle.algebra.specs.Over.{space_over, numbers, elements}
use Rattle.algebra.specs.Sums.{lin, products, powers}
use Rattle.algebra.proofs.Summing.{left_at, lin_start, lin_more, lin_end_right, mul_by_one, powers_more}
use Rattle.algebra.proofs.sums.msm_powers.Goals as goal

pub loop-i-init : goal.loop-i-init
loop-i-init g c =
    let f = g.F.Field in
    let s = g.G.Space in
    let K = f.field in
    let y = f.means c.args.y in
    let n = length c.args.scalars.now in
    rw (c.zero-sum.ensures, c.one-power.ensures)
    (lin_start g.met.G.Space.lawful (space_over f s).scale _
    ∙ ap (λ t. lin (space_over f s) (products K t (numbers f c.args.scalars.now)) (elements s c.args.points.now)) (mul_by_one g.met.F.Field.lawful (powers K y (n - 0)) ∙ ap (powers K y) (sub-zero n)))

pub loop-i-preserved : goal.loop-i-preserved
loop-i-preserved g c =
    let f = g.F.Field in
    let s = g.G.Space in
    let K = f.field in
    let i = c.loop-i.i in
    let n = length c.args.scalars.now in
    let w = f.means c.loop-i.power in
    let a = left_at c.args.scalars.now i c.index-scalars-i.result c.loop-i-test.true c.index-scalars-i.is in
    let b = left_at c.args.points.now i c.index-points-i.result c.if-i-points.false c.index-points-i.is in
    let one_less : n - i ≡ suc (n - (i + 1)) = omega arith in
    let p = powers_more g.met.F.Field.lawful w (f.means c.args.y) (n - i) (n - (i + 1)) one_less in
    rw (c.add-sum.ensures, c.scale.ensures, c.mul.ensures, c.mul-power.ensures)
    (lin_more g.met.G.Space.lawful (space_over f s).scale (s.means c.loop-i.sum) _ _ _ _ (K.mul w (f.means c.index-scalars-i.result)) (s.means c.index-points-i.result)
    (ap₂ (products K) p (ap (map f.means) a)) (ap (map s.means) b) ∙ c.loop-i.invariant)

pub returns-then-i-points : goal.returns-then-i-points
returns-then-i-points g c =
    let f = g.F.Field in
    let s = g.G.Space in
    sym (lin_end_right g.met.G.Space.lawful (space_over f s).scale (s.means c.loop-i.sum) _ _ (ap (map s.means) (drop_all c.loop-i.i c.args.points.now c.if-i-points.true)))
    ∙ c.loop-i.invariant
