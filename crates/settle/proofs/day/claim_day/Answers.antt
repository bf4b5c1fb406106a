use Rattle.std.proofs.Common.{◌≡◌, List, map, length, sym, ap, ◌∙◌, ap₂}
use Rattle.std.proofs.Math.ListN.{length-map}
use Rattle.std.proofs.lemmas.Result.{err_from_is_err_and}
use Rattle.loads.specs.declared.Load.{Load}
use Rattle.modular.specs.Mod251.{Mod251, field251}
use Rattle.algebra.specs.Setups.{count, g_part, h_part}
use Rattle.ipa.specs.Faults.{first_fault}
use Rattle.ipa.specs.Claiming.{claim_tests, Claims}
use Rattle.ipa.proofs.Answering.{answered, declined}
use Rattle.settle.specs.Day.{bench_space, litres_of, fat_of, claimed}
use Rattle.settle.proofs.Columns.{dot_total, plain_claim}
use Rattle.settle.proofs.day.claim_day.Goals as goal

-- a column is as long as the loads
long : (ls : List Load) (f : Load → Mod251) (slice : List Mod251) → slice ≡ map f ls → length slice ≡ length ls
long ls f slice same = ap length same ∙ length-map ls f

pub returns-in_err-new_with_claim : goal.returns-in_err-new_with_claim
returns-in_err-new_with_claim c =
    let row = c.args.setup.now.elements.now in
    let ls = c.args.loads.now in
    let day = c.in_ok-day.ensures in
    let a = long ls _ c.as_slice.result.now (c.as_slice.ensures.value ∙ day.1) in
    let b = long ls _ c.as_slice-2.result.now (c.as_slice-2.ensures.value ∙ day.2) in
    let p = err_from_is_err_and c.from_residual-in_err-new_with_claim.result c.from_residual-in_err-new_with_claim.ensures.1 in
    let first = declined _ _ _ c.in_err-new_with_claim.ensures in
    rw (p.1, p.2) (day.0, ap₂ (λ m n. first_fault (claim_tests (count row) m n)) (sym a) (sym b) ∙ first)

pub returns : goal.returns
returns c =
    let row = c.args.setup.now.elements.now in
    let ls = c.args.loads.now in
    let day = c.in_ok-day.ensures in
    let litres = c.as_slice.ensures.value ∙ day.1 in
    let fat = c.as_slice-2.ensures.value ∙ day.2 in
    let a = long ls _ c.as_slice.result.now litres in
    let b = long ls _ c.as_slice-2.result.now fat in
    let got = answered _ _ _ c.in_ok-new_with_claim.ensures in
    let claims : Claims field251 bench_space (g_part row) (h_part row) (litres_of ls) (fat_of ls) c.args.y (claimed c.in_ok-new_with_claim.field-0) = plain_claim field251 bench_space _ _ _ _ _ _ _ _ litres fat got.1 in
    record {
      in_range = day.0;
      supported = ap₂ (λ m n. first_fault (claim_tests (count row) m n)) (sym a) (sym b) ∙ got.0;
      claims = claims;
      total = ap (λ (x : Mod251). x.value) claims.product ∙ dot_total ls;
    }
