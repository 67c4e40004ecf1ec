-- When a call was entered, and how long it is shown.
use Rattle.std.specs.Prelude.{ℕ, Option, Some, None, max}

-- where a call ends that was entered at a time: where it returned, or at the end of the trace, and never before it
-- began
abbrev pub end_of : ℕ → Option ℕ → ℕ → ℕ
end_of enter (Some exit) last = max enter exit
end_of enter None last = max enter last
