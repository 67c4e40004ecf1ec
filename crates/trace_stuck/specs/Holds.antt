-- When a condition holds.
use Rattle.std.specs.Prelude.{ℕ, Bool, true, false, Option, Some, List, slice_get}
use Rattle.std.specs.List.{list_any, list_all}
use Rattle.trace_stuck.specs.declared.condition.Condition.{Condition}
use Rattle.trace_stuck.specs.declared.condition.Condition.TheOpen.{Condition-F, Yes, Rank, All, One, OneRank, AllRanks, Mismatched}
use Rattle.trace_stuck.specs.declared.condition.Condition.TheFolds.{fold-Condition}

-- One level of a condition, with the answer of each part in its place. All-of nothing is true, one-of nothing is false.
-- MPI forbids a mismatched round and doesn't say what becomes of it. So the condition holds, and no rank is stuck
-- because of it.
abbrev pub holds_step : (ℕ → Bool) → Condition-F Bool → Bool
holds_step able Yes = true
holds_step able (Rank r) = able r
holds_step able (All parts) = list_all (λ b. b) parts.items
holds_step able (One parts) = list_any (λ b. b) parts.items
holds_step able (OneRank ranks) = list_any able ranks.value.items
holds_step able (AllRanks ranks) = list_all able ranks.value.items
holds_step able (Mismatched first) = true

-- whether a condition holds where just these ranks can go on
abbrev pub holds : (ℕ → Bool) → Condition → Bool
holds able = fold-Condition Bool (holds_step able)

-- whether the rank has a condition, and it holds where just these ranks can go on
abbrev pub may_go : List (Option Condition) → (ℕ → Bool) → ℕ → Bool
may_go conditions able r = goes (slice_get conditions r)
  where
    goes : Option (Option Condition) → Bool
    goes (Some (Some c)) = holds able c
    goes o = false
