-- The loop that reads a run of elements, turn by turn. Assumes nothing.
use Rattle.std.proofs.Common.{◌≡◌, ℕ, zero, suc, ◌+◌, ◌-◌, ◌*◌, ◌<◌, ◌≤◌, List, [], ◌∷◌, length, take, drop, set, Ok, Err, Result, sym, refl, ap, ◌∙◌, subst, suc-mul, add-mul, add_comm, zero-mul, arith, length-set, drop-drop, None}
use Rattle.std.proofs.Math.Nat.{sub-zero}
use Rattle.algebra.specs.declared.fault.ByteFault.{ByteFault}
use Rattle.algebra.specs.declared.run.Order.{Order}
use Rattle.algebra.specs.Codec.{Codec, IsCodec}
use Rattle.algebra.specs.Bytes.{Input, left, meant, read_one}
use Rattle.algebra.specs.Runs.{slot, with_places, Placed, Run, encode_run, and_more, read_run, unless, ReadsRun}
use Rattle.algebra.proofs.Reading.{split_codes, join_codes, read_only, read_each}

pub placed_none : {G V : Type 0} (means : G → V) (area : List G) → Placed means [] area area
placed_none means area = record { values = []; mean = refl; put = refl }

pub placed_more : {G V : Type 0} (means : G → V) (place : ℕ) (value : G) (rest : List (ℕ × V)) (before after : List G)
    → Placed means rest (set before place value) after → Placed means ((place, means value) ∷ rest) before after
placed_more means place value rest before after p = record { values = (place, value) ∷ p.values; mean = ap (λ t. (place, means value) ∷ t) p.mean; put = p.put }

-- A whole run is the encodings of its elements, and the other way round.
module _ {V : Type 0} (c : Codec V) (laws : IsCodec c) where
  accepted_first : (r : Result V ByteFault) (rest : Run c) → (and_more c r rest).refused ≡ None → (x : V) × (r ≡ Ok x) × (rest.refused ≡ None) × ((and_more c r rest).accepted ≡ x ∷ rest.accepted)
  accepted_first (Ok x) rest e = (x, refl, e, refl)
  accepted_first (Err d) rest e = cc

  pub run_only : (k at : ℕ) (bytes : List ℕ) → (read_run c k at bytes).refused ≡ None
      → (length (read_run c k at bytes).accepted ≡ k) × (take (k * c.size) (drop at bytes) ≡ encode_run c (read_run c k at bytes).accepted)
  unfolding read_run
  run_only zero at bytes e = (refl, rw (zero-mul c.size) refl)
  run_only (suc k) at bytes e =
      let first = accepted_first (read_one c at (drop at bytes)) (read_run c k (at + c.size) bytes) e in
      let ih = run_only k (at + c.size) bytes first.2 in
      let code = read_only c laws at (drop at bytes) first.0 first.1 in
      let total : suc k * c.size ≡ c.size + k * c.size = suc-mul k c.size ∙ add_comm (k * c.size) c.size in
      let whole = join_codes c.size (k * c.size) (drop at bytes) _ _ code (ap (take (k * c.size)) (drop-drop c.size at bytes) ∙ ih.1) in
      let is : (read_run c (suc k) at bytes).accepted ≡ first.0 ∷ (read_run c k (at + c.size) bytes).accepted = first.3 in
      (ap length is ∙ ap suc ih.0, ap (λ t. take t (drop at bytes)) total ∙ whole ∙ ap (encode_run c) (sym is))

  pub run_each : (xs : List V) (at : ℕ) (bytes : List ℕ) → take (length xs * c.size) (drop at bytes) ≡ encode_run c xs → read_run c (length xs) at bytes ≡ record { accepted = xs; refused = None }
  unfolding read_run
  run_each [] at bytes e = refl
  run_each (x ∷ xs) at bytes e =
      let total : suc (length xs) * c.size ≡ c.size + length xs * c.size = suc-mul (length xs) c.size ∙ add_comm (length xs * c.size) c.size in
      let parts = split_codes c.size (length xs * c.size) (drop at bytes) _ _ (laws.sized x) (ap (λ t. take t (drop at bytes)) (sym total) ∙ e) in
      let first = read_each c laws at (drop at bytes) x parts.0 in
      let ih = run_each xs (at + c.size) bytes (ap (take (length xs * c.size)) (sym (drop-drop c.size at bytes)) ∙ parts.1) in
      rw (first, ih) refl

module _ {G V : Type 0} (c : Codec V) (means : G → V) (order : Order) (k : ℕ) (from : Input) (before : List G) where
  abbrev bytes : List ℕ
  bytes = from.bytes

  -- j elements were read, and what is left to read gives the rest of the whole.
  pub record Going (j : ℕ) (now : Input) (area : List G) : Type 0 where
    pub same : now.bytes ≡ bytes
    pub place : now.at ≡ from.at + j * c.size
    pub long : length area ≡ length before
    pub refused : (read_run c k from.at bytes).refused ≡ (read_run c (k - j) now.at bytes).refused
    pub placing : (after : List G) → Placed means (with_places order j (read_run c (k - j) now.at bytes).accepted) area after
        → Placed means (with_places order 0 (read_run c k from.at bytes).accepted) before after

  pub going_none : Going 0 from before
  going_none = record {
    same = refl;
    place = rw (zero-mul c.size) (omega arith);
    long = refl;
    refused = rw (sub-zero k) refl;
    placing = λ after p. rw (sub-zero k) at p;
  }

  module _ (j : ℕ) (now : Input) (area : List G) (g : Going j now area) where
    step : j < k → (r : Result V ByteFault) → r ≡ read_one c now.at (left now) → read_run c (k - j) now.at bytes ≡ and_more c r (read_run c (k - (j + 1)) (now.at + c.size) bytes)
    unfolding read_run
    step h r is = let left : k - j ≡ suc (k - (j + 1)) = omega arith in let there = is ∙ ap (λ t. read_one c now.at (drop now.at t)) g.same in rw (left, there) refl

    pub going_more : (value : G) (place n : ℕ) (next : Input) → j < k → Ok (means value) ≡ read_one c now.at (left now) → place ≡ slot order j → c.size ≡ n
        → next ≡ record { bytes = now.bytes; at = now.at + n } → Going (j + 1) next (set area place value)
    going_more value place n next h is at_place size moved =
        let one = step h (Ok (means value)) is in
        rw (moved, ← size, at_place) (record {
          same = g.same;
          place = rw g.place (omega (arith, add-mul j 1 c.size));
          long = length-set area (slot order j) value ∙ g.long;
          refused = g.refused ∙ ap (λ (run : Run c). run.refused) one;
          placing = λ after p. g.placing after (rw one (placed_more means (slot order j) value _ area after p));
        })

    pub going_refused : (e : ByteFault) (r : Result (Unit {0}) ByteFault) (next : Input) → j < k → Err e ≡ read_one c now.at (left now) → r ≡ Err e → next ≡ now → ReadsRun c means order k from next before area r
    going_refused e r next h is was stays =
        let one = step h (Err e) is in
        record {
          answer = ap (meant (λ _. next.at)) was ∙ sym (ap (λ o. unless o (Ok (from.at + k * c.size))) (g.refused ∙ ap (λ (run : Run c). run.refused) one));
          same = ap (λ (i : Input). i.bytes) stays ∙ g.same;
          area = g.placing area (rw one (placed_none means area));
        }

    pub going_done : k ≤ j → j ≤ k → ReadsRun c means order k from now before area (Ok tt)
    unfolding read_run
    going_done h l =
        let left : k - j ≡ zero = omega arith in
        let all : j ≡ k = omega arith in
        let none_left : read_run c (k - j) now.at bytes ≡ record { accepted = []; refused = None } = rw left refl in
        record {
          answer = ap Ok (g.place ∙ ap (λ t. from.at + t * c.size) all) ∙ sym (ap (λ o. unless o (Ok (from.at + k * c.size))) (g.refused ∙ ap (λ (run : Run c). run.refused) none_left));
          same = g.same;
          area = g.placing area (rw none_left (placed_none means area));
        }

-- A run that was read from there.
pub run_from : {G V : Type 0} {c : Codec V} {means : G → V} {order : Order} {k : ℕ} {from now : Input} {before after : List G} {r : Result (Unit {0}) ByteFault} (there : Input)
    → from ≡ there → ReadsRun c means order k from now before after r → ReadsRun c means order k there now before after r
run_from {c = c} {means} {order} {k} {now = now} {before} {after} {r} there e run = subst (λ t. ReadsRun c means order k t now before after r) e run
