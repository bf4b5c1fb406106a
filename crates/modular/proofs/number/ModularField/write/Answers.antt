use Rattle.std.proofs.Common.{◌≡◌, ℕ, zero, suc, ◌-◌, ◌/◌, ◌≤◌, drop, length, refl, ap, ap₂, ◌∙◌, subst, arith, w32, length-drop}
use Rattle.std.proofs.lemmas.List.{take_all}
use Rattle.std.specs.Int.{to_be_bytes}
use Rattle.algebra.specs.Modular.{Residue}
use Rattle.algebra.specs.Numbered.{big_endian}
use Rattle.algebra.specs.Bytes.{Written}
use Rattle.modular.proofs.number.ModularField.write.Goals as goal

third : (n : ℕ) → n / 65536 ≡ n / 256 / 256
third n = omega arith

fourth : (n : ℕ) → n / 16777216 ≡ n / 256 / 256 / 256
fourth n = omega arith

-- The last w of the four bytes of a number are its last w digits.
last : (w n : ℕ) → (1 ≤ w) × (w ≤ 4) → drop (4 - w) (to_be_bytes w32 n) ≡ big_endian w n
last zero n h = absurd (omega (arith, h.0))
last (suc zero) n h = refl
last (suc (suc zero)) n h = refl
last (suc (suc (suc zero))) n h = rw (third n) refl
last (suc (suc (suc (suc zero)))) n h = rw (fourth n, third n) refl
last (suc (suc (suc (suc (suc w))))) n h = absurd (omega (arith, h.1))

pub returns : goal.returns
returns g c =
    let w = g.bound-1.WIDTH in
    let code = c.to_be_bytes-code.result in
    let size : c.SIZE.result ≡ w = c.SIZE.ensures in
    let narrow = g.bound-1.narrow.1 in
    let four : length code ≡ 4 = ap length c.to_be_bytes-code.ensures in
    let whole = take_all (4 - (4 - c.SIZE.result)) (drop (4 - c.SIZE.result) code) (omega (arith, four, narrow, size, length-drop (4 - c.SIZE.result) code)) in
    let digits =
    whole ∙ ap₂ (λ t bytes. drop (4 - t) bytes) size c.to_be_bytes-code.ensures ∙ last w c.self.inside.value g.bound-1.narrow
    ∙ ap (λ (x : Residue g.row.P). big_endian w x.value) c.self.view_is
    in subst (λ bytes. Written bytes c.args.out.now c.put.new.out c.put.result) digits c.put.ensures
