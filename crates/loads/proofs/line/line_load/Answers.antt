-- By how many words there are.
use Rattle.std.proofs.Common.{arith, ◌≡◌, ◌∷◌, sym}
use Rattle.std.proofs.lemmas.Grind.{common_steps}
use Rattle.loads.specs.Pieces.{words_of}
use Rattle.loads.proofs.Said.{no_words, one_word, two_words, many_words}
use Rattle.loads.proofs.line.line_load.Goals as goal
use Rattle.loads.proofs.line.line_load.Goals.{In-Some, In-Some-word, In-None}

first : (c : In-Some) → words_of c.args.line.now ≡ c.in-Some.litres.now ∷ words_of c.in-Some.rest.now
first c = grind (arith, common_steps)

second : (c : In-Some-word) → words_of c.in-Some.rest.now ≡ c.in-Some-word.fat.now ∷ words_of c.in-Some-word.rest.now
second c = grind (arith, common_steps)

pub returns-in_default : goal.returns-in_default
returns-in_default c = sym (no_words _ c.in_default.ensures)

pub returns-in_default-word : goal.returns-in_default-word
returns-in_default-word c = sym (one_word _ _ _ (first (goal.at.returns-in_default-word c).In-Some) c.in_default-word.ensures)

pub returns-in_err-ok_or-in-None : goal.returns-in_err-ok_or-in-None
returns-in_err-ok_or-in-None c =
    let at = goal.at.returns-in_err-ok_or-in-None c in
    let line = two_words _ _ _ (first at.In-Some) _ _ (second at.In-Some-word) c.in-None.ensures in
    grind (arith, common_steps)

pub returns-in_err-ok_or-in-None-2 : goal.returns-in_err-ok_or-in-None-2
returns-in_err-ok_or-in-None-2 c =
    let at = goal.at.returns-in_err-ok_or-in-None-2 c in
    let line = two_words _ _ _ (first at.In-Some) _ _ (second at.In-Some-word) c.in-None.ensures in
    grind (arith, common_steps)

pub returns-in_ok-ok_or-in-None-2 : goal.returns-in_ok-ok_or-in-None-2
returns-in_ok-ok_or-in-None-2 c =
    let at = goal.at.returns-in_ok-ok_or-in-None-2 c in
    let line = two_words _ _ _ (first at.In-Some) _ _ (second at.In-Some-word) c.in-None.ensures in
    grind (arith, common_steps)

pub returns-in-Some-word-2 : goal.returns-in-Some-word-2
returns-in-Some-word-2 c =
    let at = goal.at.returns-in-Some-word-2 c in
    sym (many_words _ _ _ (first at.In-Some) _ _ (second at.In-Some-word) (λ none. grind (arith, common_steps)))
