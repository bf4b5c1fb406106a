use Rattle.std.proofs.Common.{◌≡◌, ◌*◌, length, Ok, Err, refl, sym, ap, ◌∙◌, arith, length-set}
use Rattle.std.proofs.lemmas.Result.{err_from_is_err_and}
use Rattle.algebra.specs.Bytes.{Input}
use Rattle.algebra.proofs.Reading.{input, stood, read_there, counted, not_counted}
use Rattle.algebra.proofs.SetupReading.{reads_setup, setup_refused_q, setup_refused_count, setup_too_many, setup_no_room, setup_pairs, halves_within}
use Rattle.algebra.proofs.Steps.{unless_refused, unless_ended}
use Rattle.algebra.proofs.Running.{placed_none, placed_more, run_from}
use Rattle.algebra.proofs.setup.Setup.read.Goals as goal

pub returns-in_err-q : goal.returns-in_err-q
returns-in_err-q g c =
    let s = g.G.Space in
    let bytes = c.args.bytes.now in
    let handed = err_from_is_err_and c.from_residual.result c.from_residual.ensures.1 in
    let area = c.args.area.now in
    reads_setup s.codec g.met.G.Space.encodes s.means c.args.highest bytes area area _ _
    (setup_refused_q s.codec c.args.highest (length area) bytes c.in_err-q.field-0.0 (read_there s.codec bytes 0 _ _ c.new-input.ensures c.in_err-q.ensures.value)) (handed.1 ∙ ap Err handed.2) (placed_none s.means area)

pub returns-in_err-n : goal.returns-in_err-n
returns-in_err-n g c =
    let s = g.G.Space in
    let bytes = c.args.bytes.now in
    let handed = err_from_is_err_and c.from_residual-in_err-n.result c.from_residual-in_err-n.ensures.1 in
    let area = c.args.area.now in
    let there = stood bytes 0 _ s.codec.size _ _ c.new-input.ensures c.in_ok-q.ensures.after (omega (arith, g.met.G.Space.measured)) in
    reads_setup s.codec g.met.G.Space.encodes s.means c.args.highest bytes area area _ _
    (setup_refused_count s.codec c.args.highest (length area) bytes _ s.codec.size (read_there s.codec bytes 0 _ _ c.new-input.ensures c.in_ok-q.ensures.value) refl c.in_err-n.field-0.0
    (not_counted bytes s.codec.size _ _ there c.in_err-n.field-0.0 c.in_err-n.ensures.value))
    (handed.1 ∙ ap Err handed.2) (placed_none s.means area)

pub returns-then-n-min : goal.returns-then-n-min
returns-then-n-min g c =
    let s = g.G.Space in
    let bytes = c.args.bytes.now in
    let area = c.args.area.now in
    let behind = stood bytes 0 _ s.codec.size _ _ c.new-input.ensures c.in_ok-q.ensures.after (omega (arith, g.met.G.Space.measured)) in
    let at : c.at-count_at.result ≡ s.codec.size = c.at-count_at.ensures ∙ ap (λ (i : Input). i.at) behind in
    let there = behind ∙ ap (input bytes) (sym at) in
    reads_setup s.codec g.met.G.Space.encodes s.means c.args.highest bytes area area _ _
    (setup_too_many s.codec c.args.highest (length area) bytes _ c.at-count_at.result (read_there s.codec bytes 0 _ _ c.new-input.ensures c.in_ok-q.ensures.value) at
    _ _ (counted bytes _ _ _ there _ c.in_ok-n.ensures.value).0 (rw (← c.min.ensures) c.if-n-min.true)) refl (placed_none s.means area)

pub returns-then-area-n : goal.returns-then-area-n
returns-then-area-n g c =
    let s = g.G.Space in
    let bytes = c.args.bytes.now in
    let area = c.args.area.now in
    let behind = stood bytes 0 _ s.codec.size _ _ c.new-input.ensures c.in_ok-q.ensures.after (omega (arith, g.met.G.Space.measured)) in
    let at : c.at-count_at.result ≡ s.codec.size = c.at-count_at.ensures ∙ ap (λ (i : Input). i.at) behind in
    let there = behind ∙ ap (input bytes) (sym at) in
    reads_setup s.codec g.met.G.Space.encodes s.means c.args.highest bytes area area _ _
    (setup_no_room s.codec c.args.highest (length area) bytes _ c.at-count_at.result (read_there s.codec bytes 0 _ _ c.new-input.ensures c.in_ok-q.ensures.value) at
    _ _ (counted bytes _ _ _ there _ c.in_ok-n.ensures.value).0 (rw (← c.min.ensures) c.if-n-min.false) c.if-area-n.true) refl (placed_none s.means area)

pub read_run-requires : goal.read_run-requires
read_run-requires g c = λ j h. rw length-set (let within = halves_within c.in_ok-n.field-0 j h in omega (arith, within, c.if-area-n.false))

pub returns-in_err-read_run : goal.returns-in_err-read_run
returns-in_err-read_run g c =
    let s = g.G.Space in
    let bytes = c.args.bytes.now in
    let area = c.args.area.now in
    let n = c.in_ok-n.field-0 in
    let behind = stood bytes 0 _ s.codec.size _ _ c.new-input.ensures c.in_ok-q.ensures.after (omega (arith, g.met.G.Space.measured)) in
    let at : c.at-count_at.result ≡ s.codec.size = c.at-count_at.ensures ∙ ap (λ (i : Input). i.at) behind in
    let count = counted bytes _ _ _ (behind ∙ ap (input bytes) (sym at)) _ c.in_ok-n.ensures.value in
    let handed = err_from_is_err_and c.from_residual-in_err-read_run.result c.from_residual-in_err-read_run.ensures.1 in
    let run = run_from _ count.1 c.in_err-read_run.ensures in
    reads_setup s.codec g.met.G.Space.encodes s.means c.args.highest bytes area _ _ _
    (setup_pairs s.codec c.args.highest (length area) bytes _ c.at-count_at.result (read_there s.codec bytes 0 _ _ c.new-input.ensures c.in_ok-q.ensures.value) at
    n _ count.0 (rw (← c.min.ensures) c.if-n-min.false) c.if-area-n.false)
    (handed.1 ∙ ap Err handed.2 ∙ unless_refused _ _ _ _ run.answer)
    (placed_more s.means (2 * n) c.in_ok-q.q _ area _ run.area)

pub returns : goal.returns
returns g c =
    let s = g.G.Space in
    let bytes = c.args.bytes.now in
    let area = c.args.area.now in
    let n = c.in_ok-n.field-0 in
    let behind = stood bytes 0 _ s.codec.size _ _ c.new-input.ensures c.in_ok-q.ensures.after (omega (arith, g.met.G.Space.measured)) in
    let at : c.at-count_at.result ≡ s.codec.size = c.at-count_at.ensures ∙ ap (λ (i : Input). i.at) behind in
    let count = counted bytes _ _ _ (behind ∙ ap (input bytes) (sym at)) _ c.in_ok-n.ensures.value in
    let run = run_from _ count.1 c.in_ok-read_run.ensures in
    reads_setup s.codec g.met.G.Space.encodes s.means c.args.highest bytes area _ _ _
    (setup_pairs s.codec c.args.highest (length area) bytes _ c.at-count_at.result (read_there s.codec bytes 0 _ _ c.new-input.ensures c.in_ok-q.ensures.value) at
    n _ count.0 (rw (← c.min.ensures) c.if-n-min.false) c.if-area-n.false)
    (ap (λ t. Ok (n, t)) c.at.ensures ∙ unless_ended _ _ _ (λ t. Ok (n, t)) run.answer)
    (placed_more s.means (2 * n) c.in_ok-q.q _ area _ run.area)
