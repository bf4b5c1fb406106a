use Rattle.std.proofs.Common.{◌≡◌, ℕ, ◌≤◌, Option, Some, None, MatchOption, option_map, sym, ap, ◌∙◌, subst, arith}
use Rattle.algebra.specs.Numbered.{Digits}
use Rattle.algebra.specs.Modular.{Residue, below_p}
use Rattle.algebra.proofs.BigEndian.{decode_digits, decode_other}
use Rattle.algebra.proofs.Residues.{found, not_found}
use Rattle.modular.specs.Primes.{codec_mod}
use Rattle.modular.specs.PrimeLaws.{codec_laws}
use Rattle.modular.proofs.number.ModularField.decode.Goals as goal

-- what is made of a number is the element that it is
made : {p : ℕ} (n : ℕ) (r : Option (Residue p)) → MatchOption r (p ≤ n) (λ x. x.value ≡ n) → option_map (λ x. x) r ≡ below_p p n
made {p} n None h = sym (not_found p n h)
made {p} n (Some x) h = sym (ap (below_p p) (sym h) ∙ found x)

pub returns-in_err-number : goal.returns-in_err-number
returns-in_err-number g c =
    let w = g.bound-1.WIDTH in
    let p = g.row.P in
    let size : c.SIZE.result ≡ w = c.SIZE.ensures in
    let refused = c.in_err-number.ensures in
    let narrow = g.bound-1.narrow.1 in
    let left : option_map (λ (x : Residue p). x) c.from_residual.result ≡ None = ap (option_map (λ (x : Residue p). x)) c.from_residual.ensures in
    left ∙ sym (decode_other (codec_mod p w) (codec_laws p w g.bound-1.fits) c.args.code.now (λ long. refused (omega (arith, narrow, size)) (long ∙ sym size)))

pub returns : goal.returns
returns g c =
    let w = g.bound-1.WIDTH in
    let p = g.row.P in
    let n = c.in_ok-number.field-0 in
    let size : c.SIZE.result ≡ w = c.SIZE.ensures in
    let read = c.in_ok-number.ensures in
    let digits = subst (λ t. Digits t c.args.code.now n) size read.2 in
    made n c.new.result c.new.ensures ∙ sym (decode_digits w (λ (x : Residue p). x.value) (below_p p) c.args.code.now n (read.1 ∙ size) digits)
