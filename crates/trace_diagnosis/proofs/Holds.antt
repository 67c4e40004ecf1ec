-- Whether conditions hold, level by level.
use Rattle.std.proofs.Common.{Vec, Global, ◌≡◌, ◌∙◌, ℕ, Bool, true, false, ◌&&◌, ◌||◌, List, [], ◌∷◌, map, refl, ap}
use Rattle.std.specs.List.{list_any, list_all}
use Rattle.std.specs.declared.sync.Arc.{Arc}
use Rattle.trace_stuck.specs.declared.condition.Condition.{Condition}
use Rattle.trace_stuck.specs.declared.condition.Condition.TheViews as views
use Rattle.trace_stuck.specs.declared.condition.RoundName.{RoundName}
use Rattle.trace_stuck.specs.Shape.{OnRank, shape, waits_of}
use Rattle.trace_diagnosis.specs.Holding.{holds, all_hold, one_holds}
use Rattle.trace_diagnosis.proofs.Shapes.{shape_Yes, shape_Rank, shape_All, shape_One, shape_OneRank, shape_AllRanks, shape_Mismatched}

all_shapes : (able : ℕ → Bool) (cs : List Condition) → all_hold able (waits_of (map shape cs)) ≡ list_all (λ c. holds able (shape c)) cs
all_shapes able [] = refl
all_shapes able (c ∷ cs) = ap (λ (b : Bool). holds able (shape c) && b) (all_shapes able cs)

pub one_shapes : (able : ℕ → Bool) (cs : List Condition) → one_holds able (waits_of (map shape cs)) ≡ list_any (λ c. holds able (shape c)) cs
one_shapes able [] = refl
one_shapes able (c ∷ cs) = ap (λ (b : Bool). holds able (shape c) || b) (one_shapes able cs)

all_ranks : (able : ℕ → Bool) (ranks : List ℕ) → all_hold able (waits_of (map OnRank ranks)) ≡ list_all able ranks
all_ranks able [] = refl
all_ranks able (r ∷ ranks) = ap (λ (b : Bool). able r && b) (all_ranks able ranks)

pub one_ranks : (able : ℕ → Bool) (ranks : List ℕ) → one_holds able (waits_of (map OnRank ranks)) ≡ list_any able ranks
one_ranks able [] = refl
one_ranks able (r ∷ ranks) = ap (λ (b : Bool). able r || b) (one_ranks able ranks)

pub holds_Yes : (able : ℕ → Bool) → holds able (shape views.made-Yes) ≡ true
holds_Yes able = ap (holds able) shape_Yes

pub holds_Rank : (able : ℕ → Bool) (r : ℕ) → holds able (shape (views.made-Rank r)) ≡ able r
holds_Rank able r = ap (holds able) (shape_Rank r)

pub holds_Mismatched : (able : ℕ → Bool) (first : RoundName) → holds able (shape (views.made-Mismatched first)) ≡ false
holds_Mismatched able first = ap (holds able) (shape_Mismatched first)

pub holds_All : (able : ℕ → Bool) (parts : Vec Condition Global) → holds able (shape (views.All parts)) ≡ list_all (λ c. holds able (shape c)) parts.items
holds_All able parts = ap (holds able) (shape_All parts) ∙ all_shapes able parts.items

pub holds_One : (able : ℕ → Bool) (parts : Vec Condition Global) → holds able (shape (views.One parts)) ≡ list_any (λ c. holds able (shape c)) parts.items
holds_One able parts = ap (holds able) (shape_One parts) ∙ one_shapes able parts.items

pub holds_OneRank : (able : ℕ → Bool) (ranks : Arc (Vec ℕ Global) Global) → holds able (shape (views.made-OneRank ranks)) ≡ list_any able ranks.value.items
holds_OneRank able ranks = ap (holds able) (shape_OneRank ranks) ∙ one_ranks able ranks.value.items

pub holds_AllRanks : (able : ℕ → Bool) (ranks : Arc (Vec ℕ Global) Global) → holds able (shape (views.made-AllRanks ranks)) ≡ list_all able ranks.value.items
holds_AllRanks able ranks = ap (holds able) (shape_AllRanks ranks) ∙ all_ranks able ranks.value.items
