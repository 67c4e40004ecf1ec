-- The open receives of one key, each with the latest end of it and all in front of it.
use Rattle.std.specs.Prelude.{◌≡◌, ◌⊎◌, ℕ, ◌-◌, Bool, true, false, nat_lt, nat_le, Option, Some, None, List, [], ◌∷◌, length, map, take}
use Rattle.std.specs.BTreeSet.{BTreeSet}
use Rattle.std.specs.List.Sorted.{IsNonDecreasingBy, IsPartitionPoint}
use Rattle.mpi_model.specs.declared.message.Receive.{Receive}
use Rattle.trace_ops.specs.Order.{Has}
use Rattle.trace_pair.specs.Ends.{ends_by, with_end}
use Rattle.trace_pair.specs.declared.lanes.Step.{Step}

-- the call of a step's receive
abbrev pub call_of : Step → ℕ
call_of s = s.receive.name.call

-- the receives of the steps
abbrev pub receives_of : List Step → List Receive
receives_of steps = map (λ s. s.receive) steps

-- the same as a set
abbrev pub set_of_steps : List Step → BTreeSet Receive
set_of_steps steps = record { keys = receives_of steps }

-- The end of the last to end of the steps, by what the last of them tells; `had` where there is no step.
abbrev pub end_of : Option (Option ℕ) → List Step → Option (Option ℕ)
end_of had [] = had
end_of had (s ∷ steps) = end_of (Some s.latest) steps

-- Each step tells the later of its receive's end and the end that the step in front of it tells; in front of all stands
-- `had`.
abbrev pub AreLatest : Option (Option ℕ) → List Step → Type 0
AreLatest had [] = Unit {0}
AreLatest had (s ∷ steps) = (s.latest ≡ with_end had s.receive.ended) × AreLatest (Some s.latest) steps

-- The steps are in order of their calls, and each tells the latest end of it and all in front of it.
pub record IsLane (steps : List Step) : Type 0 where
  pub in_order : IsNonDecreasingBy call_of steps
  pub latest : AreLatest None steps

-- The last step is that of the receive, and all others are called before it.
pub record EndsWith (steps : List Step) (q : Receive) : Type 0 where
  pub before : (s : Step) → Has (take (length steps - 1) steps) s → nat_lt (call_of s) q.name.call ≡ true
  pub last : (s : Step) → Has steps s → Has (take (length steps - 1) steps) s ⊎ (s.receive ≡ q)

-- the steps before the place pass the test, and those from there on don't
abbrev pub IsSplitBy : (Step → Bool) → List Step → ℕ → Type 0
IsSplitBy test steps place = IsPartitionPoint (λ s. test s ≡ true) (λ s. test s ≡ false) steps place

-- called no later than the limit, where there is one
abbrev pub is_within : Option ℕ → Receive → Bool
is_within None q = true
is_within (Some call) q = nat_le q.name.call call

-- Of these receives, this is the end of the one that ends last; None is that of none.
abbrev pub IsLatestOf : List Receive → Option (Option ℕ) → Type 0
IsLatestOf qs None = (q : Receive) → Has qs q → ⊥
IsLatestOf qs (Some e) = ((q : Receive) × Has qs q × (q.ended ≡ e)) × ((q : Receive) → Has qs q → ends_by q.ended e ≡ true)
