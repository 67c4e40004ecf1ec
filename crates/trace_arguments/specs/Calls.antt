-- What calls tell, by rank and number.
use Rattle.std.specs.Prelude.{◌≡◌, ◌==◌, ◌&&◌, ℕ, false, Option, Some, None, unwrap_or}
use Rattle.std.specs.BTreeMap.{get}
use Rattle.call_arguments.specs.Known.{ToldParts}
use Rattle.trace_wait.specs.Patterns.{place_cmp}
use Rattle.trace_arguments.specs.declared.calls.CallsTold.{CallsTold}

-- what a call of a rank tells
abbrev pub told_at : CallsTold → ℕ → ℕ → Option ToldParts
told_at calls rank number = get place_cmp calls.calls (rank, number)

-- Nothing is told of any call.
abbrev pub TellNothing : CallsTold → Type 0
TellNothing calls = (rank number : ℕ) → told_at calls rank number ≡ None

-- A call tells this, unless something was told of it before; of all others is told what was.
pub record AddsCall (rank number : ℕ) (told : ToldParts) (old new : CallsTold) : Type 0 where
  pub first_stays : told_at new rank number ≡ Some (unwrap_or (told_at old rank number) told)
  pub others_stay : (r n : ℕ) → ((rank == r) && (number == n)) ≡ false → told_at new r n ≡ told_at old r n
