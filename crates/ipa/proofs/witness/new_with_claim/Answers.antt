use Rattle.std.proofs.Common.{ℕ, length, sym, refl, ap, ◌∙◌, ap₂, arith}
use Rattle.std.proofs.Math.ListN.{length-map}
use Rattle.std.proofs.lemmas.Bool.{eq-eqb, le-leb, lt-leb}
use Rattle.algebra.specs.Over.{space_over, numbers, elements}
use Rattle.algebra.specs.Setups.{count}
use Rattle.algebra.specs.Sums.{lin, products, powers}
use Rattle.ipa.proofs.PowersOfTwo.{power_true}
use Rattle.ipa.proofs.witness.new_with_claim.Goals as goal

pub returns-then-count-a : goal.returns-then-count-a
returns-then-count-a g c =
    let a = c.args.a.now in
    let b = c.args.b.now in
    let row = c.args.setup.now.elements.now in
    let log = rw c.in_ok-log_len.ensures.ok_part at c.log2.ensures in
    rw (eq-eqb (length a) (length b) c.if-a-b.false, power_true 64 (length a) c.in_ok-log_len.log_len log.1 log.0, lt-leb (length a) (count row) (omega (arith, c.count.ensures, c.if-count-a.true)))
    refl

pub returns : goal.returns
returns g c =
    let f = g.F.Field in
    let s = g.G.Space in
    let S = space_over f s in
    let a = c.args.a.now in
    let b = c.args.b.now in
    let row = c.args.setup.now.elements.now in
    let log = rw c.in_ok-log_len.ensures.ok_part at c.log2.ensures in
    let ps = λ (n : ℕ). products f.field (powers f.field (f.means c.args.y) n) (numbers f b) in
    rw (eq-eqb (length a) (length b) c.if-a-b.false, power_true 64 (length a) c.in_ok-log_len.log_len log.1 log.0, le-leb (length a) (count row) (omega (arith, c.count.ensures, c.if-count-a.false)))
    (record {
      commitment = c.add.ensures
          ∙ ap₂ s.group.add
          (c.msm-left.ensures ∙ ap (λ t. lin S (numbers f a) (elements s t)) c.g.ensures)
          (c.msm_powers-right.ensures ∙ ap₂ (λ n t. lin S (ps n) (elements s t)) (sym (length-map b f.means)) c.h.ensures);
      product = c.dot.ensures;
      same_y = refl;
      length_a = log.0 ∙ sym (length-map a f.means);
    })
