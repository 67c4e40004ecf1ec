-- How a file begins that is the text of a trace.
use Rattle.std.specs.Prelude.{◌≡◌, ◌==◌, ◌-◌, ◌&&◌, ◌||◌, ℕ, Bool, true, List, Option, Some, None, codes, drop, get_or, length, suc, take, zero, false}
use Rattle.std.specs.List.{starts_with}
use Rattle.dumpi_text.specs.Bytes.{line_feed}
use Rattle.run_inputs.specs.declared.load.first_look.TheConstants.{LONGEST_LOOK}

-- a line begins at this byte: it is the first one, or a line feed stands before it
abbrev pub begins_line : List ℕ → ℕ → Bool
begins_line bytes i = (i == 0) || (get_or bytes (i - 1) 0 == line_feed)

-- a line begins at this byte, and with it a call
abbrev pub begins_call : List ℕ → ℕ → Bool
begins_call bytes i = begins_line bytes i && starts_with (λ a b. a == b) (drop i bytes) (codes "MPI_")

-- one of the first bytes passes the test
abbrev pub any_below : ℕ → (ℕ → Bool) → Bool
any_below zero test = false
any_below (suc n) test = any_below n test || test n

-- a call begins somewhere in these bytes
abbrev pub has_call : List ℕ → Bool
has_call bytes = any_below (length bytes) (begins_call bytes)

-- This is whether a call begins in the first bytes of a file, where they are told.
abbrev pub IsLookAt : Option (List ℕ) → Bool → Type 0
IsLookAt None answer = Unit {0}
IsLookAt (Some bytes) answer = answer ≡ has_call (take LONGEST_LOOK bytes)

-- A call begins in the first bytes of a file, where they are told.
abbrev pub BeginsAsText : Option (List ℕ) → Type 0
BeginsAsText file = IsLookAt file true
