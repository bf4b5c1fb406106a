use Rattle.std.proofs.Common.{◌≡◌, ℕ, ◌%◌, ◌^◌, ◌<◌, eqb, ap, ◌∙◌, eqb→eq}
use Rattle.algebra.specs.Modular.{Residue}
use Rattle.algebra.proofs.Tested.{below}
use Rattle.bench.specs.Bench.{bench_value}
use Rattle.bench.proofs.squares.setup.fn.bench_elements.from_fn.Goals as goal

-- All 65 are squares: tested at each.
unit : (k : ℕ) → k < 65 → bench_value k ^ 251 % 503 ≡ 1
unit k h = eqb→eq _ 1 (below (λ n. eqb (bench_value n ^ 251 % 503) 1) 65 tt k h)

pub invariant_of-result : goal.invariant_of-result
invariant_of-result c = (ap (λ (x : Residue 503). x.value ^ 251 % 503) c.draw.ensures ∙ unit c.args.k c.requires, tt)
