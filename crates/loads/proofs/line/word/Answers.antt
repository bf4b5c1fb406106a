-- The word begins where the blanks at the front end, and ends where the next blank stands.
use Rattle.std.proofs.Common.{rules, tests, ◌≡◌, not, length, cond, ltb, Some, None, ◌∙◌}
use Rattle.std.proofs.lemmas.Iterator.{YieldsList-from_slice}
use Rattle.std.proofs.lemmas.Iterator.Search.{position_from_yields_List}
use Rattle.loads.specs.Pieces.{blank}
use Rattle.loads.proofs.Words.{skip, reach, first_word, no_word, at_none, at_some, at_end}
use Rattle.loads.proofs.line.word.Goals as goal
use Rattle.loads.proofs.line.word.Goals.{After-position, After-position-2}

begins : (c : After-position) → c.position.result ≡ cond (ltb (skip blank c.args.bytes.now) (length c.args.bytes.now)) (Some (skip blank c.args.bytes.now)) None
begins c = position_from_yields_List (λ b. not (blank b)) _ _ c.position.result c.position.ensures.ran (YieldsList-from_slice c.args.bytes.now cc) (λ x b q k. search (rules, tests))

ends : (c : After-position-2) → c.position-2.result ≡ cond (ltb (reach blank c.split_at.result.1.now) (length c.split_at.result.1.now)) (Some (reach blank c.split_at.result.1.now)) None
ends c = position_from_yields_List blank _ _ c.position-2.result c.position-2.ensures.ran (YieldsList-from_slice c.split_at.result.1.now cc) (λ x b q k. search (rules, tests))

pub returns-in_err-begin : goal.returns-in_err-begin
returns-in_err-begin c =
    let past = at_none _ _ _ (begins (goal.at.returns-in_err-begin c).After-position) (c.in_err-begin.was) in
    rw c.from_residual.ensures (no_word blank c.args.bytes.now past)

pub returns : goal.returns
returns c =
    let from = at_some _ _ _ _ (begins (goal.at.returns c).After-position) c.in_ok-begin.was in
    let far = c.unwrap_or-end.ensures ∙ at_end blank _ _ (ends (goal.at.returns c).After-position-2) in
    rw (c.split_at-2.ensures.front, c.split_at-2.ensures.back, far, c.split_at.ensures.back, from.0) (first_word blank c.args.bytes.now from.1)
