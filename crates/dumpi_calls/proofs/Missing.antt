-- Parameters that are there.
use Rattle.std.proofs.Common.{◌≡◌, ℕ, List, [], ◌∷◌, Option, Some, None, IsSome, refl}
use Rattle.dumpi_text.specs.Call.{TextCall}
use Rattle.dumpi_calls.specs.Readings.{AreThere, text_of}
use Rattle.dumpi_calls.specs.Rows.{first_missing, missing_first}
use Rattle.dumpi_calls.specs.declared.parameter.Parameter.{Parameter}

not_the_first : (parameter : Parameter) (text : Option (List ℕ)) (others : Option Parameter) → IsSome text → others ≡ None → missing_first parameter text others ≡ None
not_the_first parameter None others some none = cc
not_the_first parameter (Some text) others some none = none

-- where all are there, none is missing
pub none_missing : (parameters : List Parameter) (call : TextCall) → AreThere parameters call → first_missing parameters call ≡ None
none_missing [] call there = refl
none_missing (parameter ∷ parameters) call there = not_the_first parameter (text_of parameter call) (first_missing parameters call) there.0 (none_missing parameters call there.1)
