use Rattle.std.proofs.Common.{sym, ap, ◌∙◌, arith}
use Rattle.std.proofs.lemmas.List.{at_drop_all, take_all}
use Rattle.loads.specs.declared.Load.{Load}
use Rattle.settle.specs.Day.{first_beyond, litres_of, fat_of}
use Rattle.settle.proofs.Columns.{column_more, beyond_more}
use Rattle.settle.proofs.day.convert.Goals as goal

abbrev none : Load
none = record { litres = 0; fat = 0 }

pub loop-i-preserved : goal.loop-i-preserved
loop-i-preserved c =
    let l = c.loop-i in
    let ls = c.args.loads.now in
    let h = c.loop-i-test.true in
    let x = rw c.in_ok-ok_or.ensures.ok_part at c.new.ensures ∙ c.from.ensures in
    let y = rw c.in_ok-ok_or-2.ensures.ok_part at c.new-in-loop-i.ensures ∙ c.from-in-loop-i.ensures in (
      beyond_more ls l.i none h l.invariant.0 (omega (arith, x, c.in_ok-ok_or.field-0.below)) (omega (arith, y, c.in_ok-ok_or-2.field-0.below)),
      column_more (λ d. d.litres) ls l.i none _ _ c.in_ok-ok_or.field-0 h c.in_ok-push.ensures.items x l.invariant.1,
      column_more (λ d. d.fat) ls l.i none _ _ c.in_ok-ok_or-2.field-0 h c.in_ok-push-2.ensures.items y l.invariant.2,
    )

pub returns : goal.returns
returns c =
    let l = c.loop-i in
    let ls = c.args.loads.now in
    let whole = take_all l.i ls c.loop-i-test.false in (
      sym l.invariant.0 ∙ at_drop_all (first_beyond _) ls l.i c.loop-i-test.false,
      l.invariant.1 ∙ ap litres_of whole,
      l.invariant.2 ∙ ap fat_of whole,
    )
