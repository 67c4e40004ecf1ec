-- What `page` prints.
use Rattle.std.specs.Prelude.{◌≡◌, ℕ, List, Option}
use Rattle.mpi_model.specs.Layouts.{Parts}
use Rattle.page_words.specs.Page.{page_around}
use Rattle.run_files.specs.Manifests.{ManifestParts}
use Rattle.command_runs.specs.Explains.{IsExplainOf}

-- The text is the page of what is told of the run as JSON: what `explain` prints so, with the last calls of some ranks.
abbrev pub IsPageOf : (List ℕ → Option (List ℕ)) → Parts → ManifestParts → List ℕ → Type 0
IsPageOf file l m text = (json : List ℕ) × IsExplainOf file l m json × (text ≡ page_around json)
