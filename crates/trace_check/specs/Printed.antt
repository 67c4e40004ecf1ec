-- What a line of a check prints.
use Rattle.std.specs.Prelude.{ℕ, List}
use Rattle.trace_check.specs.Lines.{check_line}
use Rattle.trace_check.specs.declared.lines.Line.{Line}

-- a line of two counts and a word
abbrev pub line_text : Line → List ℕ
line_text line = check_line line.first.name.now line.first.count line.second.name.now line.second.count line.word.now
