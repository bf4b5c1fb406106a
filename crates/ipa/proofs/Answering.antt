-- What an answer tells of the tests before it. Assumes nothing.
use Rattle.std.proofs.Common.{◌≡◌, Ok, Err, sym, refl, ap, Option, None, Some}
use Rattle.ipa.specs.declared.fault.Fault.{Fault}
use Rattle.ipa.specs.Faults.{Answers}

pub answered : {X : Type 0} (o : Option Fault) (P : X → Type 0) (x : X) → Answers o P (Ok x) → (o ≡ None) × P x
answered None P x h = (refl, h)
answered (Some f) P x h = absurd h

pub declined : {X : Type 0} (o : Option Fault) (P : X → Type 0) (e : Fault) → Answers o P (Err e) → o ≡ Some e
declined None P e h = absurd h
declined (Some f) P e h = ap Some (sym h)
