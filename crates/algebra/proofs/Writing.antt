-- Codes written one behind the other into an output. Assumes nothing.
use Rattle.std.proofs.Common.{◌≡◌, ℕ, ◌+◌, ◌-◌, ◌<◌, ◌≤◌, List, [], ◌∷◌, ◌++◌, length, take, drop, set, Ok, Err, Result, sym, refl, ap, ◌∙◌, subst, ap₂, append_assoc, append-nil, arith, length-append, length-drop, drop-drop}
use borrow.Rule.Slice.PartMut.{put_mid}
use Rattle.std.proofs.lemmas.List.{take_at, drop_at, drop_all, drop_more, take_rest, set_at, length_push}
use Rattle.algebra.specs.declared.fault.ByteFault.{ByteFault}
use Rattle.algebra.specs.declared.fault.ByteFault.TheVariants.{Output}
use Rattle.algebra.specs.Bytes.{Written}

-- The output holds what was written, and behind it what it held before.
abbrev pub Holds : (done out buffer : List ℕ) → Type 0
Holds done out buffer = buffer ≡ done ++ drop (length done) out

pub holds_length : (done out buffer : List ℕ) → Holds done out buffer → length done ≤ length out → length buffer ≡ length out
holds_length done out buffer held fits = ap length held ∙ length-append done (drop (length done) out) ∙ (let d = length-drop (length done) out in omega (arith, d))

-- One code more, written to the rest of the output.
pub holds_next : (done code out buffer after : List ℕ) (at : ℕ) (r : Result ℕ ByteFault) → Holds done out buffer → at ≡ length done → Written code (take (length buffer - at) (drop at buffer)) after r
    → length done + length code ≤ length out → Holds (done ++ code) out (put_mid at (length buffer - at) buffer after)
holds_next done code out buffer after at r held is written fits =
    let rest : take (length buffer - at) (drop at buffer) ≡ drop (length done) out = take_rest buffer at ∙ ap (drop at) held ∙ drop_at done (drop (length done) out) at (sym is) in
    let long : length code ≤ length (take (length buffer - at) (drop at buffer)) = rw rest (simp length-drop (omega arith)) in
    let front : take at buffer ≡ done = ap (take at) held ∙ take_at done (drop (length done) out) at (sym is) in
    let tail : drop (length buffer - at) (drop at buffer) ≡ [] = drop_all (length buffer - at) (drop at buffer) (simp length-drop (omega arith)) in
    let body : after ≡ code ++ drop (length (done ++ code)) out =
    (written.fits long).1 ∙ ap (λ t. code ++ drop (length code) t) rest ∙ ap (λ t. code ++ t) (drop-drop (length code) (length done) out ∙ ap (λ t. drop t out) (sym (length-append done code))) in
    ap₂ (λ t u. t ++ (after ++ u)) front tail ∙ ap (λ t. done ++ t) (append-nil after ∙ body) ∙ sym (append_assoc done code _)

-- One byte more.
pub holds_byte : (done out buffer : List ℕ) (at b : ℕ) → Holds done out buffer → at ≡ length done → length done < length out → Holds (done ++ (b ∷ [])) out (set buffer at b)
holds_byte done out buffer at b held is room =
    ap (λ t. set t at b) (held ∙ ap (λ t. done ++ t) (drop_more out (length done) 0 room)) ∙ set_at done _ (drop (length done + 1) out) b at (sym is)
    ∙ sym (append_assoc done (b ∷ []) _) ∙ ap (λ t. (done ++ (b ∷ [])) ++ drop t out) (sym (length_push done b))

-- Two codes, then three, the first to the front of the output and each other to what is left of it.
module _ (p m out after₁ after₂ : List ℕ) (r₁ r₂ : Result ℕ ByteFault) (k₁ : ℕ) (room : length p + length m ≤ length out)
    (w₁ : Written p out after₁ r₁) (at₁ : k₁ ≡ length p) (w₂ : Written m (take (length after₁ - k₁) (drop k₁ after₁)) after₂ r₂) where
  abbrev buffer₂ : List ℕ
  buffer₂ = put_mid k₁ (length after₁ - k₁) after₁ after₂

  pub two_held : Holds (p ++ m) out buffer₂
  two_held = holds_next p m out after₁ after₂ k₁ r₂ (w₁.fits (omega (arith, room))).1 at₁ w₂ room

  module _ (x after₃ : List ℕ) (r₃ : Result ℕ ByteFault) (k₂ : ℕ) (more : length p + length m + length x ≤ length out)
      (at₂ : k₂ ≡ length p + length m) (w₃ : Written x (take (length buffer₂ - k₂) (drop k₂ buffer₂)) after₃ r₃) where
    abbrev buffer₃ : List ℕ
    buffer₃ = put_mid k₂ (length buffer₂ - k₂) buffer₂ after₃

    pub three_held : Holds (p ++ (m ++ x)) out buffer₃
    three_held =
        let both = length-append p m in
        let held = holds_next (p ++ m) x out buffer₂ after₃ k₂ r₃ two_held (at₂ ∙ sym both) w₃ (omega (arith, both, more)) in
        held ∙ ap (λ t. t ++ drop (length t) out) (append_assoc p m x)

-- A code that the output now holds was written; to one that is too short nothing was.
pub held_written : (code out buffer : List ℕ) (size : ℕ) → Holds code out buffer → size ≡ length code → length code ≤ length out → Written code out buffer (Ok size)
held_written code out buffer size held is room = record { fits = λ _. (ap Ok is, held); short = λ h. absurd (omega (arith, h, room)) }

pub too_short : (code out : List ℕ) → length out < length code → Written code out out (Err Output)
too_short code out h = record { fits = λ l. absurd (omega (arith, l, h)); short = λ _. (refl, refl) }

pub written_as : {code code' before after : List ℕ} {r : Result ℕ ByteFault} → code ≡ code' → Written code before after r → Written code' before after r
written_as {before = before} {after = after} {r = r} e w = subst (λ t. Written t before after r) e w
