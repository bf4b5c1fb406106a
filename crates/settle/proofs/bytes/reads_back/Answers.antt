use Rattle.std.proofs.Common.{◌≡◌, ℕ, cond, Ok, Err, Result, refl, ap, ◌∙◌, arith}
use Rattle.algebra.specs.Claims.{encode_claim}
use Rattle.modular.specs.Mod251.{codec251}
use Rattle.bench.specs.Squares.{codec503}
use Rattle.settle.specs.Day.{claimed}
use Rattle.settle.proofs.bytes.reads_back.Goals as goal

same_claim : {X Y : Type 0} (x z : X) (m n : ℕ) → ◌≡◌ {A = Result (X × ℕ) Y} (Ok (x, m)) (Ok (z, n)) → x ≡ z
same_claim {X} x z m n e = let same : ◌≡◌ {A = X × ℕ} (x, m) (z, n) = cc in ap (λ (p : X × ℕ). p.0) same

never : {X Y : Type 0} (y : Y) (x : X) → ◌≡◌ {A = Result X Y} (Err y) (Ok x) → ⊥
never y x e = cc

pub returns-in-Ok : goal.returns-in-Ok
returns-in-Ok c =
    let accepts = c.in-Ok.ensures.accepts in
    let claim = claimed c.args.claim.now in
    let read = claimed c.in-Ok.read in
    record {
      only = λ t. (accepts.only read _ refl).1 ∙ ap (encode_claim codec251 codec503) (c.same.ensures.yes t);
      each = λ e. c.same.ensures.back (same_claim read claim _ 5 (accepts.each claim e));
    }

pub returns-in-Err : goal.returns-in-Err
returns-in-Err c = record {
  only = λ t. absurd (let z : ◌≡◌ {A = ℕ} 1 0 = ap (λ b. cond b 0 1) t in omega arith);
  each = λ e. absurd (never _ _ (c.in-Err.ensures.accepts.each (claimed c.args.claim.now) e));
}
