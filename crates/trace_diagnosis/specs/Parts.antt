-- What the parts of a condition need, each for itself. No public clause speaks of it.
use Rattle.std.specs.Prelude.{ℕ, Bool, ◌||◌, not, List, [], filter, map, if◌then◌else◌}
use Rattle.std.specs.List.{flat_map, list_any}
use Rattle.trace_stuck.specs.Shape as waits
use Rattle.trace_stuck.specs.Shape.{shape}
use Rattle.trace_stuck.specs.declared.condition.Condition.{Condition}
use Rattle.trace_diagnosis.specs.Holding.{holds, nobody}
use Rattle.trace_diagnosis.specs.Needs.{needs_of}
use Rattle.diagnosis_value.specs.declared.diagnosis.Need.{Need}
use Rattle.diagnosis_value.specs.declared.diagnosis.Need.TheVariants as needs

-- a part of an all-of: nothing where it holds
abbrev pub unmet : (ℕ → Bool) → waits.Wait → List Need
unmet others w = if holds nobody w then [] else needs_of others w

-- a part of a one-of, by whether one of the parts may hold
abbrev pub may_need : (ℕ → Bool) → Bool → waits.Wait → List Need
may_need others may w = if not may || holds others w then needs_of others w else []

-- that a rank goes on
abbrev pub of_rank : ℕ → Need
of_rank r = needs.Rank r

-- what a one-of of ranks needs: those that may go on, or all where none may
abbrev pub of_ranks : (ℕ → Bool) → List ℕ → List Need
of_ranks others ranks = if list_any others ranks then map of_rank (filter others ranks) else map of_rank ranks

-- the parts of a one-of
abbrev pub of_parts : (ℕ → Bool) → List Condition → List Need
of_parts others parts = flat_map (λ c. may_need others (list_any (λ c. holds others (shape c)) parts) (shape c)) parts
