-- A blank line and a load lead on, a malformed line ends the reading, and at the end nothing is left.
use Rattle.std.proofs.Common.{rules, tests, sym, ap, ◌∙◌, Ok, length, length-append}
use Rattle.loads.proofs.Readings.{Told, each_line, at_start, at_blank, at_load, at_malformed, at_end}
use Rattle.loads.proofs.read_loads.Goals as goal
use Rattle.loads.proofs.read_loads.Goals.{After-next, In-Some}

told : (c : After-next) → Told c.args.text.now (length c.loop-before.yielded) c.next.result
told c =
    each_line _ _ c.loop-before.yielded c.next.result c.args.text.now c.loop-before.yielded_by c.next.ensures.steps
    c.into_iter-before-iterator.ensures.into_iter_gives c.enumerate-before-items.ensures.source c.enumerate-before-items.ensures.count
    c.split.ensures.rest c.split.ensures.done c.split.ensures.closure (λ x b q k. search (rules, tests))

pub loop-before-init : goal.loop-before-init
loop-before-init c = at_start c.args.text.now _ c.new-loads.ensures.items

pub loop-before-preserved-in-Ok-None : goal.loop-before-preserved-in-Ok-None
loop-before-preserved-in-Ok-None c =
    let here = (told (goal.at.loop-before-preserved-in-Ok-None c).After-next).some _ _ c.in-Some.is in
    at_blank c.loop-before.invariant here.1 _ (length-append c.loop-before.yielded _) (sym (ap Ok c.in-Ok-None.field-0-is) ∙ c.in-Ok-None.ensures)

pub loop-before-preserved : goal.loop-before-preserved
loop-before-preserved c =
    let here = (told (goal.at.loop-before-preserved c).After-next).some _ _ c.in-Some.is in
    rw (c.in_ok-push-in-Ok-Some.ensures.items, c.in-Ok-Some.load-is)
    (at_load c.loop-before.invariant here.1 _ (length-append c.loop-before.yielded _) _ (sym (ap Ok c.in-Ok-Some.field-0-is) ∙ c.in-Ok-Some.ensures))

pub returns-in-Err : goal.returns-in-Err
returns-in-Err c =
    let here = (told (goal.at.returns-in-Err c).After-next).some _ _ c.in-Some.is in
    at_malformed c.loop-before.invariant here.1 _ _ here.0 c.in-Err.ensures

pub returns : goal.returns
returns c = at_end c.loop-before.invariant ((told (goal.at.returns c).After-next).none c.in-None.is)
