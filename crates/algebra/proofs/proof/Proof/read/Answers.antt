use Rattle.std.proofs.Common.{length, Ok, Err, sym, refl, ap, ◌∙◌, zero-add}
use Rattle.std.proofs.lemmas.Result.{err_from_is_err_and}
use Rattle.algebra.specs.Proofs.{finals_of, read_finals}
use Rattle.algebra.proofs.Reading.{input, handed_on, counted, not_counted}
use Rattle.algebra.proofs.Steps.{unless_refused, unless_ended}
use Rattle.algebra.proofs.Running.{placed_none, run_from}
use Rattle.algebra.proofs.ProofReading.{reads_proof, proof_refused_count, proof_too_many, proof_no_room, proof_rounds_read}
use Rattle.algebra.proofs.proof.Proof.read.Goals as goal

pub returns-in_err-n : goal.returns-in_err-n
returns-in_err-n g c =
    let f = g.F.Field in
    let s = g.G.Space in
    let bytes = c.args.bytes.now in
    let area = c.args.area.now in
    let fault = c.in_err-n.field-0.0 in
    reads_proof f.codec s.codec f.means s.means g.met.F.Field.encodes g.met.G.Space.encodes c.args.highest bytes area area c.ranges.highest.fits _ _
    (proof_refused_count f.codec s.codec c.args.highest (length area) bytes fault (not_counted bytes 0 _ _ c.new-input.ensures fault c.in_err-n.ensures.value))
    (handed_on (λ p. (finals_of f.means p.0, p.1)) c.from_residual.result fault (Err fault) (err_from_is_err_and c.from_residual.result c.from_residual.ensures.1) refl)
    (placed_none s.means area)

pub returns-then-not-permits : goal.returns-then-not-permits
returns-then-not-permits g c =
    let f = g.F.Field in
    let s = g.G.Space in
    let bytes = c.args.bytes.now in
    let area = c.args.area.now in
    let count = counted bytes 0 _ _ c.new-input.ensures _ c.in_ok-n.ensures.value in
    reads_proof f.codec s.codec f.means s.means g.met.F.Field.encodes g.met.G.Space.encodes c.args.highest bytes area area c.ranges.highest.fits _ _
    (proof_too_many f.codec s.codec c.args.highest (length area) bytes _ _ count.0 (sym c.if-not-permits.ensures.value)) refl (placed_none s.means area)

pub returns-then-area-n : goal.returns-then-area-n
returns-then-area-n g c =
    let f = g.F.Field in
    let s = g.G.Space in
    let bytes = c.args.bytes.now in
    let area = c.args.area.now in
    let count = counted bytes 0 _ _ c.new-input.ensures _ c.in_ok-n.ensures.value in
    reads_proof f.codec s.codec f.means s.means g.met.F.Field.encodes g.met.G.Space.encodes c.args.highest bytes area area c.ranges.highest.fits _ _
    (proof_no_room f.codec s.codec c.args.highest (length area) bytes _ _ count.0 (sym c.if-not-permits.ensures.value) c.if-area-n.true) refl (placed_none s.means area)

pub returns-in_err-read_run : goal.returns-in_err-read_run
returns-in_err-read_run g c =
    let f = g.F.Field in
    let s = g.G.Space in
    let bytes = c.args.bytes.now in
    let area = c.args.area.now in
    let fault = c.in_err-read_run.field-0.0 in
    let count = counted bytes 0 _ _ c.new-input.ensures _ c.in_ok-n.ensures.value in
    let run = run_from _ (count.1 ∙ ap (input bytes) (zero-add _)) c.in_err-read_run.ensures in
    reads_proof f.codec s.codec f.means s.means g.met.F.Field.encodes g.met.G.Space.encodes c.args.highest bytes area _ c.ranges.highest.fits _ _
    (proof_rounds_read f.codec s.codec c.args.highest (length area) bytes _ _ count.0 (sym c.if-not-permits.ensures.value) c.if-area-n.false)
    (handed_on (λ p. (finals_of f.means p.0, p.1)) c.from_residual-in_err-read_run.result fault _ (err_from_is_err_and c.from_residual-in_err-read_run.result c.from_residual-in_err-read_run.ensures.1) (sym (unless_refused _ _ _ _ run.answer)))
    run.area

pub returns-in_err-proof : goal.returns-in_err-proof
returns-in_err-proof g c =
    let f = g.F.Field in
    let s = g.G.Space in
    let bytes = c.args.bytes.now in
    let area = c.args.area.now in
    let fault = c.in_err-proof.field-0.0 in
    let count = counted bytes 0 _ _ c.new-input.ensures _ c.in_ok-n.ensures.value in
    let run = run_from _ (count.1 ∙ ap (input bytes) (zero-add _)) c.in_ok-read_run.ensures in
    let finals = c.in_err-proof.ensures ∙ ap (read_finals f.codec c.in_ok-n.field-0 c.read_run.new.input.at) run.same ∙ unless_ended _ _ _ (λ t. read_finals f.codec c.in_ok-n.field-0 t bytes) run.answer in
    reads_proof f.codec s.codec f.means s.means g.met.F.Field.encodes g.met.G.Space.encodes c.args.highest bytes area _ c.ranges.highest.fits _ _
    (proof_rounds_read f.codec s.codec c.args.highest (length area) bytes _ _ count.0 (sym c.if-not-permits.ensures.value) c.if-area-n.false)
    (handed_on (λ p. (finals_of f.means p.0, p.1)) c.from_residual-in_err-proof.result fault _ (err_from_is_err_and c.from_residual-in_err-proof.result c.from_residual-in_err-proof.ensures.1) (sym finals))
    run.area

pub returns : goal.returns
returns g c =
    let f = g.F.Field in
    let s = g.G.Space in
    let bytes = c.args.bytes.now in
    let area = c.args.area.now in
    let count = counted bytes 0 _ _ c.new-input.ensures _ c.in_ok-n.ensures.value in
    let run = run_from _ (count.1 ∙ ap (input bytes) (zero-add _)) c.in_ok-read_run.ensures in
    let finals = c.in_ok-proof.ensures ∙ ap (read_finals f.codec c.in_ok-n.field-0 c.read_run.new.input.at) run.same ∙ unless_ended _ _ _ (λ t. read_finals f.codec c.in_ok-n.field-0 t bytes) run.answer in
    reads_proof f.codec s.codec f.means s.means g.met.F.Field.encodes g.met.G.Space.encodes c.args.highest bytes area _ c.ranges.highest.fits _ _
    (proof_rounds_read f.codec s.codec c.args.highest (length area) bytes _ _ count.0 (sym c.if-not-permits.ensures.value) c.if-area-n.false)
    (ap (λ t. Ok (finals_of f.means c.in_ok-proof.proof, t)) c.at.ensures ∙ finals)
    run.area
