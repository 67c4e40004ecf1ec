-- What `explain` and `graph` print.
use Rattle.std.specs.Prelude.{◌≡◌, ℕ, List, Option}
use Rattle.mpi_model.specs.Layouts.{Parts}
use Rattle.trace_node.specs.ByRank.{AnswersWithOps}
use Rattle.run_files.specs.Manifests.{ManifestParts}
use Rattle.command_runs.specs.Known.{OfAllTold}
use Rattle.command_runs.specs.Notes.{AreNotesOf}
use Rattle.command_runs.specs.Said.{IsDiagnosed}
use Rattle.command_runs.specs.declared.verbs.noted_run.NotedRun.{NotedRun}

-- What is known is all that the pieces tell; beside it stand the answer to that for this layout, with what each rank did,
-- and the notes of their texts.
abbrev pub IsNotedRunOf : (List ℕ → Option (List ℕ)) → Parts → ManifestParts → NotedRun → Type 0
IsNotedRunOf file l m noted = OfAllTold file l m (λ view. (noted.know ≡ view) × AnswersWithOps l view noted.told) × AreNotesOf file m.pieces noted.notes.items

-- What holds up the run is told of all that the pieces tell, for the layout. The words are free.
abbrev pub IsExplainOf : (List ℕ → Option (List ℕ)) → Parts → ManifestParts → List ℕ → Type 0
IsExplainOf file l m text = OfAllTold file l m (λ view. IsDiagnosed l view)
