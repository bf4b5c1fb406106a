-- The steps of reading a record, one after the other. Assumes nothing.
use Rattle.std.proofs.Common.{◌≡◌, Bool, true, false, Ok, Err, Result, refl, ap, Option, None, Some}
use Rattle.algebra.specs.declared.fault.ByteFault.{ByteFault}
use Rattle.algebra.specs.Runs.{unless, Reading, go_on, provided}

-- A step that goes on was accepted.
pub go_on_ok : {Y X V : Type 0} (r : Result Y ByteFault) (f : Y → Reading X V) (x : X) → (go_on r f).answer ≡ Ok x → (y : Y) × (r ≡ Ok y) × (go_on r f ≡ f y)
go_on_ok (Ok y) f x e = (y, refl, refl)
go_on_ok (Err d) f x e = cc

pub provided_ok : {X V : Type 0} (b : Bool) (d : ByteFault) (reading : Reading X V) (x : X) → (provided b d reading).answer ≡ Ok x → (b ≡ true) × (provided b d reading ≡ reading)
provided_ok true d reading x e = (refl, refl)
provided_ok false d reading x e = cc

pub unless_ok : {X : Type 0} (o : Option ByteFault) (r : Result X ByteFault) (x : X) → unless o r ≡ Ok x → (o ≡ None) × (r ≡ Ok x)
unless_ok None r x e = (refl, e)
unless_ok (Some d) r x e = cc

pub same_both : {X Y : Type 0} (x z : X) (y w : Y) → ◌≡◌ {A = Result (X × Y) ByteFault} (Ok (x, y)) (Ok (z, w)) → (x ≡ z) × (y ≡ w)
same_both {X} {Y} x z y w e =
    let same : ◌≡◌ {A = X × Y} (x, y) (z, w) = cc in
    (ap (λ (p : X × Y). p.0) same, ap (λ (p : X × Y). p.1) same)

-- A refusal of the run is one of the record; and what comes behind a run begins where it ended.
pub unless_refused : {X Y : Type 0} (o : Option ByteFault) (r : Result X ByteFault) (y : Y) (e : ByteFault) → Err e ≡ unless o (Ok y) → Err e ≡ unless o r
unless_refused None r y e is = cc
unless_refused (Some d) r y e is = let same : e ≡ d = cc in ap Err same

pub unless_ended : {X Y : Type 0} (o : Option ByteFault) (y end : Y) (f : Y → Result X ByteFault) → Ok end ≡ unless o (Ok y) → f end ≡ unless o (f y)
unless_ended None y end f is = let same : end ≡ y = cc in ap f same
unless_ended (Some d) y end f is = cc
