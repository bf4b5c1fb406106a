use Rattle.std.proofs.Common.{◌≡◌, ◌<◌, min, length, sym, ap, ◌∙◌, ap₂, arith}
use Rattle.std.proofs.lemmas.Bool.{ltb-true, ltb-false}
use Rattle.algebra.specs.Over.{space_over}
use Rattle.algebra.proofs.Folding.{pair_in_parts, alone_in_parts, parts_done}
use Rattle.algebra.proofs.fold.fold.Goals as goal
use Rattle.algebra.proofs.fold.fold.Goals.{in-Some, in-None}

pub loop-i-preserved : goal.loop-i-preserved
loop-i-preserved g c =
    let f = g.F.Field in
    let s = g.G.Space in
    let l = c.loop-i in
    let inside : l.i < length l.low = omega (arith, c.loop-i-test.true, l.auto.low) in
    let cut : length l.low ≡ min c.args.mid (length c.args.values.now) = l.auto.low ∙ c.split_at_mut-low.ensures.front_len ∙ c.min.ensures in
    let scaled : s.means c.scale-scaled.result ≡ (space_over f s).scale (f.means c.args.u) (s.means c.index-low-i.result) = c.scale-scaled.ensures ∙ ap (λ t. (space_over f s).scale (f.means c.args.u) (s.means t)) (sym c.index-low-i.is) in
    elim c.match-get.branch [
      | in-Some w ↦
          pair_in_parts (space_over f s) (f.means c.args.u) (f.means c.args.v) s.means c.args.mid c.args.values.now l.low _ l.i l.invariant _ c.index-low-i.is
          inside cut w.in-Some.y.now c.match-get.x (ltb-true _ _ (sym w.in-Some.ensures.lookup.0)) w.in-Some.ensures.lookup.1
          (ap s.means w.x-is ∙ w.add.ensures ∙ ap₂ s.group.add scaled w.scale.ensures)
      | in-None w ↦
          alone_in_parts (space_over f s) (f.means c.args.u) (f.means c.args.v) s.means c.args.mid c.args.values.now l.low _ l.i l.invariant _ c.index-low-i.is
          inside cut c.match-get.x (ltb-false _ _ (sym w.in-None.ensures.lookup.0)) (ap s.means w.x-is ∙ scaled)
    ]

pub returns : goal.returns
returns g c =
    let l = c.loop-i in
    let done = parts_done _ _ _ _ _ _ l.low _ l.i l.invariant (l.auto.low ∙ c.split_at_mut-low.ensures.front_len ∙ c.min.ensures)
    (omega (arith, c.loop-i-test.false, l.auto.low)) (omega (arith, l.auto.i-end, l.auto.low)) in
    record { value = done.0; rest = done.1 }
