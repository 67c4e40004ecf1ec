-- The shape of a condition, level by level.
use Rattle.std.proofs.Common.{Vec, Global, ◌≡◌, ℕ, map, sym, ◌∙◌, ap}
use Rattle.std.specs.declared.sync.Arc.{Arc}
use Rattle.trace_stuck.specs.declared.condition.Condition.{Condition}
use Rattle.trace_stuck.specs.declared.condition.RoundName.{RoundName}
use Rattle.trace_stuck.specs.declared.condition.Condition.TheOpen.{Yes, Rank, All, One, OneRank, AllRanks, Mismatched}
use Rattle.trace_stuck.specs.declared.condition.Condition.TheFolds.{fold-roll-Condition}
use Rattle.trace_stuck.specs.declared.condition.Condition.TheViews as views
use Rattle.trace_stuck.specs.Shape.{Wait, OnNothing, OnRank, OnAll, OnOne, OnMismatched, waits_of, shape_step, shape}

pub shape_Yes : shape views.made-Yes ≡ OnNothing
shape_Yes = ap shape (sym views.rolls-Yes) ∙ fold-roll-Condition Wait shape_step Yes

pub shape_Rank : (r : ℕ) → shape (views.made-Rank r) ≡ OnRank r
shape_Rank r = ap shape (sym (views.rolls-Rank r)) ∙ fold-roll-Condition Wait shape_step (Rank r)

pub shape_All : (parts : Vec Condition Global) → shape (views.All parts) ≡ OnAll (waits_of (map shape parts.items))
shape_All parts = ap shape (sym (views.rolls-All parts)) ∙ fold-roll-Condition Wait shape_step (All parts)

pub shape_One : (parts : Vec Condition Global) → shape (views.One parts) ≡ OnOne (waits_of (map shape parts.items))
shape_One parts = ap shape (sym (views.rolls-One parts)) ∙ fold-roll-Condition Wait shape_step (One parts)

pub shape_OneRank : (ranks : Arc (Vec ℕ Global) Global) → shape (views.made-OneRank ranks) ≡ OnOne (waits_of (map OnRank ranks.value.items))
shape_OneRank ranks = ap shape (sym (views.rolls-OneRank ranks)) ∙ fold-roll-Condition Wait shape_step (OneRank ranks)

pub shape_AllRanks : (ranks : Arc (Vec ℕ Global) Global) → shape (views.made-AllRanks ranks) ≡ OnAll (waits_of (map OnRank ranks.value.items))
shape_AllRanks ranks = ap shape (sym (views.rolls-AllRanks ranks)) ∙ fold-roll-Condition Wait shape_step (AllRanks ranks)

pub shape_Mismatched : (first : RoundName) → shape (views.made-Mismatched first) ≡ OnMismatched first
shape_Mismatched first = ap shape (sym (views.rolls-Mismatched first)) ∙ fold-roll-Condition Wait shape_step (Mismatched first)
