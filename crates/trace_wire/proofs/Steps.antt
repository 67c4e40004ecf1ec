-- Steps of a reading, each of which may be refused.
use Rattle.std.proofs.Common.{◌≡◌, Bool, true, false, cond, Option, Some, None, Result, Ok, Err, refl, ap}
use Rattle.std.specs.Prelude.{◌&&◌}
use Rattle.trace_wire.specs.declared.fault.WireFault.{WireFault}
use Rattle.trace_wire.specs.Parts.{◌>=>◌, or_fault}

-- the value of a step that did not fail
pub bind_ok : {A B : Type 0} (r : Result A WireFault) (f : A → Result B WireFault) (y : B) → (r >=> f) ≡ Ok y → (x : A) × (r ≡ Ok x) × (f x ≡ Ok y)
bind_ok (Ok x) f y e = (x, refl, e)
bind_ok (Err d) f y e = absurd cc

abbrev pub done : {A : Type 0} → A → Result A WireFault
done x = Ok x

pub ok_is : {A : Type 0} (x y : A) → done x ≡ done y → x ≡ y
ok_is x y e = cc

pub or_ok : {A : Type 0} (fault : WireFault) (o : Option A) (x : A) → or_fault fault o ≡ Ok x → o ≡ Some x
or_ok fault None x e = absurd cc
or_ok fault (Some y) x e = ap (λ z. Some z) (ok_is y x e)

-- a test that had to pass, and one that had to fail
pub passed : {A : Type 0} (b : Bool) (fault : WireFault) (r : Result A WireFault) (x : A) → cond b r (Err fault) ≡ Ok x → (b ≡ true) × (r ≡ Ok x)
passed true fault r x e = (refl, e)
passed false fault r x e = absurd cc

pub missed : {A : Type 0} (b : Bool) (fault : WireFault) (r : Result A WireFault) (x : A) → cond b (Err fault) r ≡ Ok x → (b ≡ false) × (r ≡ Ok x)
missed true fault r x e = absurd cc
missed false fault r x e = (refl, e)

pub both_true : (a b : Bool) → (a && b) ≡ true → (a ≡ true) × (b ≡ true)
both_true true true e = (refl, refl)
both_true true false e = absurd cc
both_true false b e = absurd cc
