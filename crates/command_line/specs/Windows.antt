-- In which form `calls` writes, and what `timeline` shows.
use Rattle.std.specs.Prelude.{ℕ, ◌==◌, List, length, nat_lt, Option, Some, None, Result, Ok, Err, option_map, option_and_then, codes, if◌then◌else◌}
use Rattle.std.specs.List.{after_first, before_first, position_or_len}
use Rattle.std.specs.Str.{bytes_eq}
use Rattle.clap.specs.Words.{Row, Text, first_of}
use Rattle.dumpi_text.specs.Time.{time_of}
use Rattle.dumpi_text.specs.declared.time.TimeFault.{TimeFault}
use Rattle.command_line.specs.Ranks.{rank_in}
use Rattle.command_line.specs.declared.TableForm.TheVariants.{Csv, Json}
use Rattle.command_line.specs.declared.Verb.{Verb}
use Rattle.command_line.specs.declared.Verb.TheVariants.{Calls}
use Rattle.command_line.specs.declared.Window.{Window}

-- a table in the form that its flags say; none where both are set
abbrev pub table_verb : Text → Text → Option Verb
table_verb csv json = if bytes_eq json (codes "true") then (if bytes_eq csv (codes "true") then None else Some (Calls Json)) else Some (Calls Csv)

-- the same, where both flags have their values
abbrev pub calls_asked : Option Text → Option Text → Option Verb
calls_asked (Some csv) (Some json) = table_verb csv json
calls_asked csv json = None

-- a time, where a text is one
abbrev pub moment_of : Result ℕ TimeFault → Option ℕ
moment_of (Ok moment) = Some moment
moment_of (Err fault) = None

-- the moment that a text says, in nanoseconds
abbrev pub moment_in : Text → Option ℕ
moment_in text = moment_of (time_of text)

-- the moment that an option gives, where it is there; none at all where its text is no moment
abbrev pub given_moment : Option Text → Option (Option ℕ)
given_moment None = Some None
given_moment (Some text) = option_map (λ moment. Some moment) (moment_in text)

-- what stands before and behind the first hyphen
abbrev pub ends_in : Text → Option (Text × Text)
ends_in text = if nat_lt (position_or_len (λ b. b == 45) text) (length text) then Some (before_first (λ b. b == 45) text, after_first (λ b. b == 45) text) else None

-- both numbers, where both are there
abbrev pub both_of : Option ℕ → Option ℕ → Option (ℕ × ℕ)
both_of (Some first) (Some last) = Some (first, last)
both_of first last = None

-- the first and the last rank that a text says
abbrev pub ranks_in : Text → Option (ℕ × ℕ)
ranks_in text = option_and_then (λ x. both_of (rank_in x.0) (rank_in x.1)) (ends_in text)

-- the ranks that an option gives, where it is there; none at all where its text says none
abbrev pub given_ranks : Option Text → Option (Option (ℕ × ℕ))
given_ranks None = Some None
given_ranks (Some text) = option_map (λ ranks. Some ranks) (ranks_in text)

-- what is shown, where each of the options could be read
abbrev pub window_of : Option (Option ℕ) → Option (Option ℕ) → Option (Option (ℕ × ℕ)) → Option Window
window_of (Some from) (Some to) (Some ranks) = Some (record { from = from; to = to; ranks = ranks })
window_of from to ranks = None

-- what is shown, by the texts of the options
abbrev pub window_by : Option Text → Option Text → Option Text → Option Window
window_by from to ranks = window_of (given_moment from) (given_moment to) (given_ranks ranks)

-- what is shown, by the words of `timeline`
abbrev pub window_in : List Row → Option Window
window_in rows = window_by (first_of (codes "from") rows) (first_of (codes "to") rows) (first_of (codes "ranks") rows)
