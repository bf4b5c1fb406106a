-- Equal parts of a proof have one meaning. Assumes nothing.
use Rattle.std.proofs.Common.{◌≡◌, ◌↔◌, Bool, true, ◌&&◌, ◌==◌, nat_eq, refl}
use Rattle.std.specs.Cmp.Lexicographic.{pointwise, bytes_decides}
use Rattle.std.proofs.lemmas.Bool.{eqb-true, and_parts}
use Rattle.algebra.specs.declared.proof.Proof.{Proof}
use Rattle.algebra.specs.Proofs.{finals_of}

pub finals_equal : {F E : Type 0} (eq : F → F → Bool) (f : F → E) → ((x y : F) → (eq x y ≡ true) ↔ (f x ≡ f y)) → (p q : Proof F)
    → ((p.rounds == q.rounds) && (pointwise nat_eq p.summary q.summary && (eq p.a_final q.a_final && eq p.b_final q.b_final))) ≡ true → finals_of f p ≡ finals_of f q
finals_equal eq f equal p q all =
    let rounds = and_parts _ _ all in
    let summary = and_parts _ _ rounds.1 in
    let last = and_parts _ _ summary.1 in
    rw (eqb-true p.rounds q.rounds rounds.0, (bytes_decides p.summary q.summary).0 summary.0, (equal p.a_final q.a_final).0 last.0, (equal p.b_final q.b_final).0 last.1) refl
