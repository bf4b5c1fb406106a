use Rattle.std.proofs.Common.{◌≡◌, ◌+◌, ◌*◌, ◌++◌, map, length, sym, ap, ◌∙◌, arith, length-append, rules}
use Rattle.algebra.specs.declared.run.Order.TheVariants.{InTurn}
use Rattle.algebra.specs.Varint.{varint}
use Rattle.algebra.specs.Runs.{in_order, encode_run}
use Rattle.algebra.specs.Proofs.{encode_finals, proof_of, proof_size}
use Rattle.algebra.proofs.ProofReading.{proof_rounds, proof_code, proof_length}
use Rattle.algebra.proofs.InOrder.{codes_length}
use Rattle.algebra.proofs.Writing.{three_held, held_written, too_short, written_as}
use Rattle.algebra.proofs.proof.Proof.write.Goals as goal

pub returns-then-out-size : goal.returns-then-out-size
returns-then-out-size g c =
    let f = g.F.Field in
    let s = g.G.Space in
    let p = c.args.self.now in
    let area = c.args.area.now in
    let room = c.if-area-n.false in
    let long : length p.summary ≡ 32 = search rules in
    let size = proof_length f.codec s.codec f.means s.means g.met.F.Field.encodes g.met.G.Space.encodes (proof_of f.means s.means p area) long
    ∙ ap (proof_size f.codec s.codec) (proof_rounds f.codec s.codec f.means s.means p area room) in
    record { no_area = λ h. absurd (omega (arith, h, room)); written = λ _. too_short _ c.args.out.now (omega (arith, size, c.size-size.ensures, c.if-out-size.true)) }

pub returns : goal.returns
returns g c =
    let f = g.F.Field in
    let s = g.G.Space in
    let p = c.args.self.now in
    let n = p.rounds in
    let area = c.args.area.now in
    let out = c.args.out.now in
    let enough = c.if-area-n.false in
    let long : length p.summary ≡ 32 = search rules in
    let size = proof_length f.codec s.codec f.means s.means g.met.F.Field.encodes g.met.G.Space.encodes (proof_of f.means s.means p area) long
    ∙ ap (proof_size f.codec s.codec) (proof_rounds f.codec s.codec f.means s.means p area enough) in
    let code_n = varint n in
    let code_run = encode_run s.codec (map s.means (in_order InTurn 0 (2 * n) area)) in
    let code_fin = encode_finals f.codec p.summary (f.means p.a_final) (f.means p.b_final) in
    let code = proof_code f.codec s.codec f.means s.means p area enough in
    let parts = ap length code ∙ length-append code_n (code_run ++ code_fin) ∙ ap (λ t. length code_n + t) (length-append code_run code_fin) in
    let wide_run : length code_run ≡ 2 * n * s.codec.size = codes_length s.codec g.met.G.Space.encodes s.means InTurn (2 * n) area (λ j h. (omega (arith, h, enough))) out (2 * n) (omega arith) in
    let stride = ap (λ t. 2 * n * t) (c.SIZE.ensures ∙ sym g.met.G.Space.measured) in
    let room = c.if-out-size.false in
    let held = three_held code_n code_run out c.write.new.out c.write_run.new.out c.write.result c.write_run.result c.size-rounds_at.result
    (omega (arith, size, c.size-size.ensures, parts, room)) c.write.ensures c.size-rounds_at.ensures.value c.write_run.ensures
    code_fin c.write_finals.new.out c.write_finals.result (c.size-rounds_at.result + 2 * n * c.SIZE.result) (omega (arith, size, c.size-size.ensures, parts, room))
    (omega (arith, wide_run, stride, c.size-rounds_at.ensures.value)) c.write_finals.ensures in
    record {
      no_area = λ h. absurd (omega (arith, h, enough));
      written = λ _. written_as (sym code) (held_written _ out _ _ held (c.size-size.ensures ∙ sym size ∙ ap length code) (let e = ap length code in omega (arith, size, c.size-size.ensures, e, room)));
    }
