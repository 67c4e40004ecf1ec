-- The text of a report, by its form.
use Rattle.std.specs.Prelude.{ℕ, List}
use Rattle.trace_node.specs.Answer.{Answered}
use Rattle.trace_report.specs.declared.form.Form.{Form}
use Rattle.trace_report.specs.declared.form.Form.TheVariants.{Lines, Json}
use Rattle.trace_report.specs.Report.{report_text}
use Rattle.trace_report.specs.Json.{json_text}

-- the report in a form
abbrev pub text_in : Form → Answered → List ℕ
text_in Lines answer = report_text answer
text_in Json answer = json_text answer
