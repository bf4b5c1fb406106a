use Rattle.std.proofs.Common.{◌≡◌, ℕ, ◌%◌, ◌^◌, ◌<◌, map, get_or, sym, ap, ◌∙◌, subst, mod-lt, arith, lit<}
use Rattle.std.specs.List.{range_with_len}
use Rattle.std.proofs.lemmas.List.FromFn.{get_or-map-range_with_len}
use Rattle.algebra.specs.Modular.{Residue}
use Rattle.algebra.proofs.Residues.{by_value}
use Rattle.modular.proofs.mod251.Mod251Prime251.inverse.Goals as goal

-- The rule of the table, which is the list of these powers: antt computes it to see that.
rule : (k : ℕ) → k < 251 → get_or (map (λ n. n ^ 249 % 251) (range_with_len 0 251)) k 0 ≡ k ^ 249 % 251
rule k h = get_or-map-range_with_len (λ n. n ^ 249 % 251) 0 251 k k 0 h (omega arith)

pub returns : goal.returns
returns c = by_value _ _ (rule c.x.inside.value c.x.inside.below ∙ ap (λ (x : Residue 251). x.value ^ 249 % 251) c.x.view_is)

pub invariant_of-result : goal.invariant_of-result
invariant_of-result c =
    let P : ℕ → Type 0 = λ n. n < 251 in
    (subst P (sym (rule c.x.inside.value c.x.inside.below)) (mod-lt _ (lit< tt)), tt)
