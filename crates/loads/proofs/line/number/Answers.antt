-- Where a digit stands first there is no sign, and what is no text has bytes that are no digits.
use Rattle.std.proofs.Common.{rules, arith, ◌≡◌, Some, slice_get, option_copied, sym, ap, ◌∙◌}
use Rattle.std.proofs.lemmas.Grind.{common_steps}
use Rattle.loads.proofs.Values.{no_byte, no_digit, no_plus, no_text, parsed}
use Rattle.loads.proofs.line.number.Goals as goal
use Rattle.loads.proofs.line.number.Goals.{In_ok-first}

first : (c : In_ok-first) → slice_get c.args.word.now 0 ≡ Some c.in_ok-first.field-0.now
first c = sym c.first.ensures.value ∙ ap option_copied c.in_ok-first.was

pub returns-in_err-first : goal.returns-in_err-first
returns-in_err-first c = c.from_residual.ensures ∙ no_byte _ (sym (ap option_copied c.in_err-first.was) ∙ c.first.ensures.value)

pub returns-then-not-is_ascii_digit : goal.returns-then-not-is_ascii_digit
returns-then-not-is_ascii_digit c = no_digit _ _ (first (goal.at.returns-then-not-is_ascii_digit c).In_ok-first) (sym c.is_ascii_digit.ensures.value ∙ c.if-not-is_ascii_digit.true)

pub returns-in_err-ok : goal.returns-in_err-ok
returns-in_err-ok c = c.from_residual-in_err-ok.ensures ∙ no_text _ (λ text. absurd (grind (arith, common_steps)))

pub returns : goal.returns
returns c =
    let plain = no_plus _ _ (first (goal.at.returns c).In_ok-first) (sym c.is_ascii_digit.ensures.value ∙ c.if-not-is_ascii_digit.false) in
    let same : c.in_ok-ok.field-0.now ≡ c.args.word.now = grind (arith, common_steps) in
    c.ok-2.ensures.value ∙ search (rules, parsed, plain, same)
