-- A fault that is handed on.
use Rattle.std.proofs.Common.{◌≡◌, Result, Ok, Err, IfErr, IsErrAnd, subst, sym}

-- a fault that is handed on refuses as it did
pub handed_on : {T E : Type 0} (r : Result T E) (fault : E) (P : E → Type 0) → IsErrAnd r (λ e. e ≡ fault) → P fault → IfErr r P
handed_on (Ok t) fault P is h = absurd is
handed_on (Err e) fault P is h = subst P (sym is) h
