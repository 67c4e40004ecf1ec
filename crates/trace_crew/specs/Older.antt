-- When a reader is told that what is shown is older.
use Rattle.std.specs.Prelude.{Option, Some, None}
use denote.Bor.{Bor}
use Rattle.trace_know.specs.View.{IsBelow}
use Rattle.trace_crew.specs.Showing.{Showing}
use Rattle.trace_crew.specs.declared.board.fault.ShowFault.{ShowFault}
use Rattle.trace_crew.specs.declared.board.fault.ShowFault.TheVariants.{Older, Memory}

-- What was found doesn't contain what the reader has seen, which is something; or there was no memory.
abbrev pub IsOlder : ShowFault → Option (Bor Showing) → Type 0
IsOlder (Older found) (Some seen) = IsBelow seen.now.know found.know → ⊥
IsOlder (Older found) None = ⊥
IsOlder Memory seen = Unit {0}
