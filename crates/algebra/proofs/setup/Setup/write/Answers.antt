use Rattle.std.proofs.Common.{◌≡◌, ℕ, ◌+◌, ◌*◌, ◌/◌, ◌%◌, List, ◌++◌, map, length, get_or, sym, ap, ◌∙◌, arith, length-append}
use Rattle.algebra.specs.declared.run.Order.TheVariants.{Halves}
use Rattle.algebra.specs.Varint.{varint}
use Rattle.algebra.specs.Runs.{in_order, encode_run}
use Rattle.algebra.specs.SetupCode.{setup_size}
use Rattle.algebra.proofs.SetupReading.{halves_within}
use Rattle.algebra.proofs.SetupWriting.{setup_at, row_is, setup_code, setup_long}
use Rattle.algebra.proofs.Writing.{three_held, held_written, too_short, written_as}
use Rattle.algebra.proofs.setup.Setup.write.Goals as goal

-- the row has 2n + 1 elements, and Q is the last
row_long : {G : Type 0} (row : List G) (n : ℕ) → n ≡ length row / 2 → length row % 2 ≡ 1 → length row ≡ 2 * n + 1
row_long row n is odd = omega arith

last_at : {G : Type 0} (row : List G) (n : ℕ) (q : G) → n ≡ length row / 2 → q ≡ get_or row (length row / 2 + length row / 2) q → q ≡ get_or row (n + n) q
last_at row n q is e = rw is e

pub returns-then-out-size : goal.returns-then-out-size
returns-then-out-size g c =
    let s = g.G.Space in
    let row = c.args.self.now.elements.now in
    let n = c.count-n.result in
    let q = c.product_generator-q.result in
    let long = row_long row n c.count-n.ensures c.args.self.now.odd in
    let last = last_at row n q c.count-n.ensures c.product_generator-q.ensures in
    let size = setup_long s.means row n q long last s.codec g.met.G.Space.encodes in
    let wide : c.size-size.result ≡ setup_size s.codec n = rw c.count-n.ensures c.size-size.ensures in
    record {
      setup = setup_at s.means row n q long last;
      row_is = row_is s.means row n q long last;
      written = too_short _ c.args.out.now (omega (arith, size, wide, c.if-out-size.true));
    }

pub write_run-requires : goal.write_run-requires
write_run-requires g c =
    let self = c.args.self.now in
    record {
      few = omega (arith, c.count-n.ensures, self.few);
      within = λ j h. (let within = halves_within c.count-n.result j h in omega (arith, within, c.count-n.ensures));
    }

pub returns : goal.returns
returns g c =
    let s = g.G.Space in
    let row = c.args.self.now.elements.now in
    let n = c.count-n.result in
    let q = c.product_generator-q.result in
    let out = c.args.out.now in
    let long = row_long row n c.count-n.ensures c.args.self.now.odd in
    let last = last_at row n q c.count-n.ensures c.product_generator-q.ensures in
    let code_q = s.codec.encode (s.means q) in
    let code_n = varint n in
    let code_run = encode_run s.codec (map s.means (in_order (Halves n) 0 (2 * n) row)) in
    let size = setup_long s.means row n q long last s.codec g.met.G.Space.encodes in
    let wide : c.size-size.result ≡ setup_size s.codec n = rw c.count-n.ensures c.size-size.ensures in
    let code = setup_code s.means row n q long last s.codec in
    let parts = ap length code ∙ length-append code_q (code_n ++ code_run) ∙ ap (λ t. length code_q + t) (length-append code_n code_run) in
    let first = g.met.G.Space.encodes.sized (s.means q) in
    let room = c.if-out-size.false in
    let held = three_held code_q code_n out c.write.new.out c.write-2.new.out c.write.result c.write-2.result c.SIZE-count_at.result
    (omega (arith, size, wide, parts, room)) c.write.ensures (omega (arith, first, (c.SIZE-count_at.ensures ∙ sym g.met.G.Space.measured))) c.write-2.ensures
    code_run c.write_run.new.out c.write_run.result (c.SIZE-count_at.result + c.size.result) (omega (arith, size, wide, parts, room))
    (omega (arith, first, (c.SIZE-count_at.ensures ∙ sym g.met.G.Space.measured), c.size.ensures.value)) c.write_run.ensures in
    record {
      setup = setup_at s.means row n q long last;
      row_is = row_is s.means row n q long last;
      written = written_as (sym code) (held_written _ out _ _ held (wide ∙ sym size ∙ ap length code) (let e = ap length code in omega (arith, size, wide, e, room)));
    }
