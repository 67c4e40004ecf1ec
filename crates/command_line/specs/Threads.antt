-- By how many threads texts are read.
use Rattle.std.specs.Prelude.{ℕ, false, List, Option, Some, None, codes, option_and_then, if◌then◌else◌}
use Rattle.std.specs.Str.Parse.{digits_value, without_leading_plus}
use Rattle.clap.specs.Words.{Row, Rule, Text, first_of, new_rule}
use Rattle.clap.specs.ValueTests.{accepts}
use Rattle.clap.specs.declared.builder.value_parser.ValueParser.{ValueParser}
use Rattle.clap.specs.declared.builder.value_parser.ValueParser.TheVariants.{Unsigned}

-- how many threads read texts: a number from 1 to 1,024
abbrev pub threads_parser : ValueParser
threads_parser = Unsigned 1 1024

-- `--threads`, a number
abbrev pub threads_rule : Rule
threads_rule = record (new_rule (codes "threads")) { long = Some (codes "threads"); value_names = 1; parser = Some threads_parser }

-- the number of threads that a text writes, where it is one
abbrev pub thread_count : Text → Option ℕ
thread_count text = if accepts false threads_parser text then Some (digits_value 10 (without_leading_plus text)) else None

-- by how many threads texts are read, where the values of a verb say it
abbrev pub threads_by : List Row → Option ℕ
threads_by rows = option_and_then thread_count (first_of (codes "threads") rows)

-- the same where a verb was met
abbrev pub threads_in : Option (Text × List Row) → Option ℕ
threads_in met = option_and_then (λ m. threads_by m.1) met
