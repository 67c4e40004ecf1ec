-- A call in the place that holds it.
use Rattle.std.specs.Prelude.{ℕ, false, List, [], ◌∷◌, ◌++◌, None}
use Rattle.dumpi_text.specs.Call.{TextCall}

-- what a place for calls holds before one was put there
abbrev pub no_call : TextCall
no_call = record { name = []; params = []; enter = record { wall = 0; cpu = 0 }; exit = None; line = 0; last_line = 0; threads = false }

-- the call with one parameter more, at the end
abbrev pub with_one_more : TextCall → List ℕ → List ℕ → TextCall
with_one_more call name value = record call { params = call.params ++ record { name = name; value = value } ∷ [] }
