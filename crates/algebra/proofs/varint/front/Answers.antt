use Rattle.std.proofs.Common.{◌≡◌, ℕ, ◌+◌, ◌*◌, ◌%◌, ◌<◌, Ok, refl, ap, ◌∙◌, inl, inr, arith, get_or}
use Rattle.algebra.proofs.Varints.{scan_more, scan_ends, scan_zero, scan_large, scan_done, scan_full, accepts_counts}
use Rattle.algebra.proofs.varint.front.Goals as goal

-- with the digit as it was computed
module _ (n scale digit b : ℕ) (is : digit ≡ b % 128) where
  sum_is : n + digit * scale ≡ n + b % 128 * scale
  sum_is = ap (λ t. n + t * scale) is

pub returns-then-i-gt0 : goal.returns-then-i-gt0
returns-then-i-gt0 c =
    let l = c.loop-i in
    let value = scan_zero _ l.i l.n l.scale c.args.at l.invariant.0 _ refl c.loop-i-test.true l.invariant.1 c.if-byte-eq0.true c.if-i-gt0.true in
    record { value = value; accepts = accepts_counts c.args.at _ _ value }

pub returns-in-Ok : goal.returns-in-Ok
returns-in-Ok c =
    let l = c.loop-i in
    let sum = sum_is l.n l.scale _ _ c.from.ensures in
    let positive : 0 < l.i → 0 < get_or c.args.bytes.now l.i 0 = λ h. elim c.else-byte-eq0.either [ inl w ↦ absurd (omega (arith, h, w.1)) | inr w ↦ omega (arith, w) ] in
    let done = scan_done _ l.i l.n l.scale c.args.at l.invariant.0 _ refl c.loop-i-test.true l.invariant.1 c.if-byte-lt128.true positive (rw (← sum) c.in-Ok.ensures.0) in
    let value = ap (λ t. Ok (t, l.i + 1)) (c.in-Ok.ensures.1 ∙ sum) ∙ done in
    record { value = value; accepts = accepts_counts c.args.at _ _ value }

pub returns-in-Err : goal.returns-in-Err
returns-in-Err c =
    let l = c.loop-i in
    let sum = sum_is l.n l.scale _ _ c.from.ensures in
    let value = scan_large _ l.i l.n l.scale c.args.at l.invariant.0 _ refl c.loop-i-test.true l.invariant.1 c.if-byte-lt128.true (rw (← sum) (let large = c.in-Err.ensures in omega (arith, large))) in
    record { value = value; accepts = accepts_counts c.args.at _ _ value }

pub returns-then-i-eq4 : goal.returns-then-i-eq4
returns-then-i-eq4 c =
    let l = c.loop-i in
    let byte = c.type_inv.bytes l.i in
    let next = scan_more _ l.i l.n l.scale c.args.at l.invariant.0 _ refl c.loop-i-test.true l.invariant.1 c.if-byte-lt128.false (omega (arith, byte)) in
    let value = scan_full _ (l.i + 1) _ _ c.args.at next (omega (arith, c.if-i-eq4.true)) in
    record { value = value; accepts = accepts_counts c.args.at _ _ value }

pub loop-i-preserved : goal.loop-i-preserved
loop-i-preserved c =
    let l = c.loop-i in
    let byte = c.type_inv.bytes l.i in
    (rw (sum_is l.n l.scale _ _ c.from.ensures) (scan_more _ l.i l.n l.scale c.args.at l.invariant.0 _ refl c.loop-i-test.true l.invariant.1 c.if-byte-lt128.false (omega (arith, byte))), omega (arith, l.invariant.1, c.if-i-eq4.false))

pub returns : goal.returns
returns c =
    let l = c.loop-i in
    let value = scan_ends _ l.i l.n l.scale c.args.at l.invariant.0 l.invariant.1 c.loop-i-test.false in
    record { value = value; accepts = accepts_counts c.args.at _ _ value }
