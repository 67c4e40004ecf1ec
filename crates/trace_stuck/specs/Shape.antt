-- What a condition says, apart from where its parts lie in memory.
use Rattle.std.specs.Prelude.{ℕ, List, [], ◌∷◌, map}
use Rattle.trace_stuck.specs.declared.condition.Condition.{Condition}
use Rattle.trace_stuck.specs.declared.condition.RoundName.{RoundName}
use Rattle.trace_stuck.specs.declared.condition.Condition.TheOpen.{Condition-F, Yes, Rank, All, One, OneRank, AllRanks, Mismatched}
use Rattle.trace_stuck.specs.declared.condition.Condition.TheFolds.{fold-Condition}

mutual
  -- A condition as a plain tree: nothing to wait for, a rank, all of some parts, one of some parts, a mismatched round.
  pub data Wait : Type 0 where
    OnNothing : Wait
    OnRank : (r : ℕ) → Wait
    OnAll : (parts : Waits) → Wait
    OnOne : (parts : Waits) → Wait
    OnMismatched : (first : RoundName) → Wait

  -- the parts, in their order
  pub data Waits : Type 0 where
    none : Waits
    and : (first : Wait) → (rest : Waits) → Waits

-- a list of parts
abbrev pub waits_of : List Wait → Waits
waits_of [] = none
waits_of (w ∷ ws) = and w (waits_of ws)

-- one level of a condition, with the shape of each part in its place
abbrev pub shape_step : Condition-F Wait → Wait
shape_step Yes = OnNothing
shape_step (Rank r) = OnRank r
shape_step (All parts) = OnAll (waits_of parts.items)
shape_step (One parts) = OnOne (waits_of parts.items)
shape_step (OneRank ranks) = OnOne (waits_of (map OnRank ranks.value.items))
shape_step (AllRanks ranks) = OnAll (waits_of (map OnRank ranks.value.items))
shape_step (Mismatched first) = OnMismatched first

-- A condition as a plain tree. Two conditions with equal parts have equal shapes, wherever the parts lie.
abbrev pub shape : Condition → Wait
shape = fold-Condition Wait shape_step
