-- Codes of one size, written one behind the other to the front of an output. Assumes nothing.
use Rattle.std.proofs.Common.{◌≡◌, ℕ, zero, suc, ◌+◌, ◌-◌, ◌*◌, ◌<◌, ◌≤◌, List, [], ◌∷◌, ◌++◌, length, take, drop, get_or, Ok, Err, Result, sym, ap, ap₂, ◌∙◌, append_assoc, append-nil, arith, length-append, length-drop, drop-drop, mul-le-mul_right}
use borrow.Rule.Slice.PartMut.{put_mid}
use Rattle.std.specs.List.{flat_map}
use Rattle.std.proofs.lemmas.List.{take_at, take_all, drop_at, drop_all, take_rest, take_more, flat_map_more}
use Rattle.algebra.specs.declared.fault.ByteFault.{ByteFault}
use Rattle.algebra.specs.Bytes.{Written}

-- Of the codes of xs, which are n bytes each, the first i stand in the buffer, up to `at`, and behind them what the output held.
pub record Holds {X : Type 0} (f : X → List ℕ) (n : ℕ) (xs : List X) (out : List ℕ) (i at : ℕ) (buffer : List ℕ) : Type 0 where
  pub up_to : at ≡ i * n
  pub held : buffer ≡ flat_map f (take i xs) ++ drop at out

length_codes : {X : Type 0} (f : X → List ℕ) (n : ℕ) → ((x : X) → length (f x) ≡ n) → (xs : List X) (i : ℕ) → i ≤ length xs → length (flat_map f (take i xs)) ≡ i * n
length_codes f n sized xs zero h = omega arith
length_codes f n sized [] (suc i) h = absurd (omega arith)
length_codes f n sized (x ∷ xs) (suc i) h =
    let rest = length_codes f n sized xs i (omega arith) in
    length-append (f x) (flat_map f (take i xs)) ∙ (omega (arith, rest, sized x))

module _ {X : Type 0} {f : X → List ℕ} {n : ℕ} {xs : List X} {out buffer : List ℕ} {i at : ℕ} (h : Holds f n xs out i at buffer)
    (sized : (x : X) → length (f x) ≡ n) (room : length xs * n ≤ length out) where
  is_length : i ≤ length xs → length (flat_map f (take i xs)) ≡ at
  is_length within = length_codes f n sized xs i within ∙ sym h.up_to

  -- All codes stand there.
  pub all_written : (code : List ℕ) → flat_map f xs ≡ code → i ≡ length xs → Written code out buffer (Ok at)
  all_written code whole all =
      let first : flat_map f (take i xs) ≡ code = ap (flat_map f) (take_all i xs (omega arith)) ∙ whole in
      let is : length code ≡ at = ap length (sym first) ∙ is_length (omega arith) in
      let most : length code ≤ length out = rw (is ∙ h.up_to, all) room in
      record { fits = λ _. (ap Ok (sym is), h.held ∙ ap₂ (λ c k. c ++ drop k out) first (sym is)); short = λ few. absurd (omega (arith, few, most)) }

  -- One code more is not refused where there is room for all, and stands behind the others.
  module _ (d : X) (after : List ℕ) (r : Result ℕ ByteFault) (more : i < length xs)
      (written : Written (f (get_or xs i d)) (take (length buffer - at) (drop at buffer)) after r) where
    abbrev code : List ℕ
    code = f (get_or xs i d)

    rest : take (length buffer - at) (drop at buffer) ≡ drop at out
    rest = take_rest buffer at ∙ ap (drop at) h.held ∙ drop_at (flat_map f (take i xs)) (drop at out) at (is_length (omega arith))

    wrote : (r ≡ Ok (length code)) × (after ≡ code ++ drop (length code) (take (length buffer - at) (drop at buffer)))
    wrote =
        let most : (i + 1) * n ≤ length xs * n = mul-le-mul_right n (omega arith) in
        written.fits (rw rest (simp length-drop (omega (arith, sized (get_or xs i d), h.up_to, most, room))))

    pub not_refused : (e : ByteFault) → ¬ (r ≡ Err e)
    not_refused e refused = cc (sym refused ∙ wrote.0)

    pub next_held : (k : ℕ) → r ≡ Ok k → Holds f n xs out (i + 1) (at + k) (put_mid at (length buffer - at) buffer after)
    next_held k answered =
        let is : k ≡ length code = cc (sym answered ∙ wrote.0) in
        record {
          up_to = omega (arith, is, sized (get_or xs i d), h.up_to);
          held =
              ap₂ (λ t u. t ++ (after ++ u))
              (ap (take at) h.held ∙ take_at (flat_map f (take i xs)) (drop at out) at (is_length (omega arith)))
              (drop_all (length buffer - at) (drop at buffer) (simp length-drop (omega arith)))
              ∙ ap (λ t. flat_map f (take i xs) ++ t) (append-nil after ∙ wrote.1 ∙ ap₂ (λ t m. code ++ drop m t) rest (sym is) ∙ ap (λ t. code ++ t) (drop-drop k at out))
              ∙ sym (append_assoc (flat_map f (take i xs)) code _)
              ∙ ap (λ t. t ++ drop (at + k) out) (flat_map_more f [] (take i xs) (get_or xs i d) ∙ ap (flat_map f) (sym (take_more xs i d more)));
        }
