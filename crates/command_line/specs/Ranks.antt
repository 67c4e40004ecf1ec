-- The number of a rank in a text.
use Rattle.std.specs.Prelude.{ℕ, false, Option, Some, None, if◌then◌else◌}
use Rattle.std.specs.Str.Parse.{digits_value, without_leading_plus}
use Rattle.clap.specs.Words.{Text}
use Rattle.clap.specs.ValueTests.{accepts}
use Rattle.clap.specs.declared.builder.value_parser.ValueParser.{ValueParser}
use Rattle.clap.specs.declared.builder.value_parser.ValueParser.TheVariants.{Unsigned}

-- the rank of which `explain` tells: a number of 32 bits
abbrev pub rank_parser : ValueParser
rank_parser = Unsigned 0 4294967295

-- the number that a text writes, where it is one of 32 bits
abbrev pub rank_in : Text → Option ℕ
rank_in text = if accepts false rank_parser text then Some (digits_value 10 (without_leading_plus text)) else None
