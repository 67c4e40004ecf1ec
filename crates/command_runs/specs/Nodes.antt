-- The answer to a run, and its checker.
use Rattle.std.specs.Prelude.{◌≡◌, ℕ, List, Option}
use Rattle.mpi_model.specs.Layouts.{Parts}
use Rattle.trace_check.specs.Checker as checker
use Rattle.trace_node.specs.Answer.{Answered, IsAnswer}
use Rattle.run_files.specs.Manifests.{ManifestParts}
use Rattle.command_runs.specs.Known.{OfAllTold}

-- This is answered to all that the pieces tell.
abbrev pub AnswersAll : (List ℕ → Option (List ℕ)) → Parts → ManifestParts → Answered → Type 0
AnswersAll file l m answer = OfAllTold file l m (λ view. IsAnswer l view answer)

-- The checker holds, for this layout, all that the pieces tell.
abbrev pub IsCheckerOf : (List ℕ → Option (List ℕ)) → Parts → ManifestParts → checker.Held → Type 0
IsCheckerOf file l m c = OfAllTold file l m (λ view. c ≡ checker.held l view)
