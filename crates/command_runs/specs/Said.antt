-- What verbs say of all that the pieces tell.
use Rattle.std.specs.Prelude.{◌≡◌, ℕ, List}
use Rattle.mpi_model.specs.Layouts.{Parts}
use Rattle.trace_know.specs.View.{View}
use Rattle.trace_node.specs.Answer.{Answered, IsAnswer}
use Rattle.trace_report.specs.Json.{json_text}
use Rattle.trace_report.specs.Report.{report_text}

-- The text is the report of the answer to a view.
abbrev pub IsReported : Parts → View → List ℕ → Type 0
IsReported l view text = (answer : Answered) × IsAnswer l view answer × (text ≡ report_text answer)

-- The same report, as JSON.
abbrev pub IsReportedJson : Parts → View → List ℕ → Type 0
IsReportedJson l view text = (answer : Answered) × IsAnswer l view answer × (text ≡ json_text answer)

-- What holds up a run is told of the answer to a view: in words, as JSON or as a picture, for which there is no
-- definition.
abbrev pub IsDiagnosed : Parts → View → Type 0
IsDiagnosed l view = (answer : Answered) × IsAnswer l view answer
