-- What pieces tell rank by rank.
use Rattle.std.specs.Prelude.{◌≡◌, ◌⊎◌, ◌<◌, ◌≤◌, ◌+◌, ℕ, List, Option, IfErr, IfOk, length, slice_range}
use Rattle.std.specs.List.{All, AllWithin}
use Rattle.mpi_model.specs.Layouts.{Parts}
use Rattle.trace_know.specs.View.{View, join}
use Rattle.trace_node.specs.ByRank.{AreTold, IsOfRank, IsToldOf}
use Rattle.trace_node.specs.declared.by_rank.RankByRank.{RankByRank}
use Rattle.trace_node.specs.declared.by_rank.RankTold.{RankTold}
use Rattle.run_files.specs.Manifests.{PieceParts}
use Rattle.run_inputs.specs.Files.{NamesFailed}
use Rattle.run_inputs.specs.declared.faults.fault.RunFault.TheVariants.{Memory}
use Rattle.command_runs.specs.Refusals.{RefusesFirst}
use Rattle.command_runs.specs.Traces.{IsKnown}
use Rattle.command_runs.specs.declared.pieces.rank_reads.RankRead.{RankRead}

-- These pieces are of ranks below a number, and those ranks were told by all that the pieces tell.
pub record TellRanks (file : List ℕ → Option (List ℕ)) (l : Parts) (pieces : List PieceParts) (count : ℕ) (told : RankByRank) : Type 0 where
  pub view : View
  pub known : IsKnown file pieces view
  pub told_by : AreTold l view count told
  pub below : All (λ p. p.rank < count) pieces

-- The ranks before were told, and the next one by what these pieces tell.
abbrev pub TellNext : (List ℕ → Option (List ℕ)) → Parts → List PieceParts → ℕ → RankByRank → RankByRank → Type 0
TellNext file l pieces rank told more = (own : View) × IsKnown file pieces own × ((view : View) → AreTold l view rank told → AreTold l (join view own) (rank + 1) more)

-- The pieces of a rank stand between two places: those before are of lower ranks, and those behind of higher ones.
pub record IsShare (pieces : List PieceParts) (rank start end : ℕ) : Type 0 where
  pub order : start ≤ end
  pub bound : end ≤ length pieces
  pub lower : AllWithin (λ p. p.rank < rank) pieces 0 start
  pub own : AllWithin (λ p. p.rank ≡ rank) pieces start end
  pub higher : AllWithin (λ p. rank + 1 ≤ p.rank) pieces end (length pieces)

-- These pieces of one rank tell this of it alone.
abbrev pub TellRank : (List ℕ → Option (List ℕ)) → Parts → List PieceParts → ℕ → RankTold → Type 0
TellRank file l pieces rank told = (own : View) × IsKnown file pieces own × IsOfRank own rank × IsToldOf l rank own told

-- The pieces of a rank were read: they tell this of it alone, or one of them is refused.
pub record IsRankRead (file : List ℕ → Option (List ℕ)) (fails : Type 0) (l : Parts) (pieces : List PieceParts) (rank : ℕ) (read : RankRead) : Type 0 where
  pub ok : IfOk read.told (TellRank file l pieces rank)
  pub err : IfErr read.told (λ fault. (fault ≡ Memory) ⊎ RefusesFirst file pieces fault)
  pub failed : IfErr read.told (NamesFailed fails)

-- So were those of a rank that stand among these, wherever they do.
abbrev pub IsRankAmong : (List ℕ → Option (List ℕ)) → Type 0 → Parts → List PieceParts → ℕ → RankRead → Type 0
IsRankAmong file fails l pieces rank read = (start end : ℕ) → IsShare pieces rank start end → IsRankRead file fails l (slice_range pieces start end) rank read
