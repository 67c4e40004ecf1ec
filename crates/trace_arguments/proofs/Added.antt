-- Whether something was told of a call.
use Rattle.std.proofs.Common.{◌≡◌, true, false, Option, Some, None, refl}
use Rattle.std.specs.Prelude.{is_some, unwrap_or}
use Rattle.call_arguments.specs.Known.{ToldParts}

pub absent : (told : Option ToldParts) → is_some told ≡ false → told ≡ None
absent None none = refl
absent (Some x) none = absurd (cc (none))

pub there : (told : Option ToldParts) (other : ToldParts) → is_some told ≡ true → told ≡ Some (unwrap_or told other)
there None other some = absurd (cc (some))
there (Some x) other some = refl
