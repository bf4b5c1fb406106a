use Rattle.std.proofs.Common.{Err, ap, ◌∙◌}
use Rattle.std.proofs.lemmas.Result.{err_from_is_err_and}
use Rattle.algebra.proofs.Running.{going_none, going_more, going_refused, going_done}
use Rattle.algebra.proofs.run.read_run.Goals as goal

pub loop-j-init : goal.loop-j-init
loop-j-init g c = going_none _ _ _ _ _ _

pub returns-in_err-area : goal.returns-in_err-area
returns-in_err-area g c =
    let l = c.loop-j in
    let handed = err_from_is_err_and c.from_residual.result c.from_residual.ensures.1 in
    going_refused _ _ _ _ _ _ l.j l.input l.area l.invariant c.in_err-area.field-0.0 _ _ c.loop-j-test.true c.in_err-area.ensures.value (handed.1 ∙ ap Err handed.2) c.in_err-area.ensures.after

pub loop-j-preserved : goal.loop-j-preserved
loop-j-preserved g c =
    let l = c.loop-j in
    going_more _ _ _ _ _ _ l.j l.input l.area l.invariant c.in_ok-area.field-0 c.slot.result _ _ c.loop-j-test.true c.in_ok-area.ensures.value c.slot.ensures g.met.G.Space.measured c.in_ok-area.ensures.after

pub returns : goal.returns
returns g c =
    let l = c.loop-j in
    going_done _ _ _ _ _ _ l.j l.input l.area l.invariant c.loop-j-test.false l.auto.j-end
