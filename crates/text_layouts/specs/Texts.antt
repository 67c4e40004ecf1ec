-- What a whole text says of communicators, windows and files.
use Rattle.std.specs.Prelude.{◌≡◌, ℕ, List, Option, length}
use Rattle.dumpi_text.specs.Call.{TextCall}
use Rattle.dumpi_text.specs.Grammar.{Complete}
use Rattle.dumpi_text.specs.Reading.{MeansAll}
use Rattle.dumpi_text.specs.Skips.{IsFirstSkipped}
use Rattle.dumpi_text.specs.declared.step.Position.{Position}
use Rattle.dumpi_calls.specs.Walks.{StopsWalk, unfinished_line}
use Rattle.dumpi_calls.specs.declared.fault.WalkFault.{WalkFault}
use Rattle.dumpi_calls.specs.declared.walking.Walked.{Walked}
use Rattle.comm_makings.specs.declared.calls.RankCalls.{RankCalls}
use Rattle.comm_calls.specs.Calls.{IsReadOf, ReadCalls}
use Rattle.dumpi_calls.specs.declared.collect.Memory.{Memory}

-- what was read, as the calls of a rank
pub record AreOfRank (read : ReadCalls) (rank : RankCalls) : Type 0 where
  pub world : rank.world ≡ read.world
  pub own : rank.own ≡ read.own
  pub size : rank.size ≡ read.size
  pub calls : rank.calls.items ≡ read.calls
  pub uses : rank.uses.items ≡ read.uses.groups
  pub windows : rank.windows.items ≡ read.windows.groups
  pub files : rank.files.items ≡ read.files.groups

-- All calls that the text means were read, where it is told, and they say this of communicators.
pub record IsReadFrom (text : Option (List ℕ)) (rank : RankCalls) (walked : Walked) : Type 0 where
  pub calls : List TextCall
  pub at : Position
  pub means : MeansAll text calls (Complete at)
  pub read : ReadCalls
  pub is_read : IsReadOf calls read
  pub told : AreOfRank read rank
  pub counted : walked.calls ≡ length calls
  pub skipped : walked.skipped ≡ at.skipped
  pub first_skipped : IsFirstSkipped text walked.first_skipped
  pub unfinished : walked.unfinished ≡ unfinished_line calls

-- The text is refused behind these calls, at the first that can't be had.
pub record StopsIn (text : Option (List ℕ)) (fault : WalkFault Memory) : Type 0 where
  pub calls : List TextCall
  pub counted : fault.calls ≡ length calls
  pub stops : StopsWalk {F = Memory} text calls fault.cause fault.line
