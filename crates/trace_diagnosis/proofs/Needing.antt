-- What conditions need, level by level.
use Rattle.std.proofs.Common.{Vec, Global, ◌≡◌, ◌∙◌, ℕ, Bool, true, false, List, [], ◌∷◌, ◌++◌, map, filter, refl, ap, if◌then◌else◌}
use Rattle.std.specs.List.{flat_map, list_any}
use Rattle.std.specs.declared.sync.Arc.{Arc}
use Rattle.trace_stuck.specs.declared.condition.Condition.{Condition}
use Rattle.trace_stuck.specs.declared.condition.Condition.TheViews as views
use Rattle.trace_stuck.specs.declared.condition.RoundName.{RoundName}
use Rattle.trace_stuck.specs.Shape.{OnRank, shape, waits_of}
use Rattle.trace_diagnosis.specs.Holding.{holds}
use Rattle.trace_diagnosis.specs.Needs.{needs_of, needs_of_all, needs_of_one}
use Rattle.trace_diagnosis.specs.Parts.{may_need, of_parts, of_rank, of_ranks, unmet}
use Rattle.diagnosis_value.specs.declared.diagnosis.Need.{Need}
use Rattle.diagnosis_value.specs.declared.diagnosis.Need.TheVariants as needs
use Rattle.trace_diagnosis.proofs.Shapes.{shape_Yes, shape_Rank, shape_All, shape_One, shape_OneRank, shape_AllRanks, shape_Mismatched}
use Rattle.trace_diagnosis.proofs.Holds.{one_shapes, one_ranks}

all_shapes : (others : ℕ → Bool) (cs : List Condition) → needs_of_all others (waits_of (map shape cs)) ≡ flat_map (λ c. unmet others (shape c)) cs
all_shapes others [] = refl
all_shapes others (c ∷ cs) = ap (λ (l : List Need). unmet others (shape c) ++ l) (all_shapes others cs)

one_parts : (others : ℕ → Bool) (may : Bool) (cs : List Condition) → needs_of_one others may (waits_of (map shape cs)) ≡ flat_map (λ c. may_need others may (shape c)) cs
one_parts others may [] = refl
one_parts others may (c ∷ cs) = ap (λ (l : List Need). may_need others may (shape c) ++ l) (one_parts others may cs)

all_of_ranks : (others : ℕ → Bool) (ranks : List ℕ) → needs_of_all others (waits_of (map OnRank ranks)) ≡ map of_rank ranks
all_of_ranks others [] = refl
all_of_ranks others (r ∷ ranks) = ap (λ (l : List Need). of_rank r ∷ l) (all_of_ranks others ranks)

none_of_ranks : (others : ℕ → Bool) (ranks : List ℕ) → needs_of_one others false (waits_of (map OnRank ranks)) ≡ map of_rank ranks
none_of_ranks others [] = refl
none_of_ranks others (r ∷ ranks) = ap (λ (l : List Need). of_rank r ∷ l) (none_of_ranks others ranks)

with_first : (others : ℕ → Bool) (r : ℕ) (ranks : List ℕ) (b : Bool) → others r ≡ b
    → (if others r then of_rank r ∷ [] else []) ++ map of_rank (filter others ranks) ≡ map of_rank (filter others (r ∷ ranks))
with_first others r ranks true e = rw e refl
with_first others r ranks false e = rw e refl

some_of_ranks : (others : ℕ → Bool) (ranks : List ℕ) → needs_of_one others true (waits_of (map OnRank ranks)) ≡ map of_rank (filter others ranks)
some_of_ranks others [] = refl
some_of_ranks others (r ∷ ranks) = ap (λ (l : List Need). (if others r then of_rank r ∷ [] else []) ++ l) (some_of_ranks others ranks) ∙ with_first others r ranks (others r) refl

by_may : (others : ℕ → Bool) (ranks : List ℕ) (may : Bool) → needs_of_one others may (waits_of (map OnRank ranks)) ≡ (if may then map of_rank (filter others ranks) else map of_rank ranks)
by_may others ranks true = some_of_ranks others ranks
by_may others ranks false = none_of_ranks others ranks

pub needs_Yes : (others : ℕ → Bool) → needs_of others (shape views.made-Yes) ≡ []
needs_Yes others = ap (needs_of others) shape_Yes

pub needs_Rank : (others : ℕ → Bool) (r : ℕ) → needs_of others (shape (views.made-Rank r)) ≡ needs.Rank r ∷ []
needs_Rank others r = ap (needs_of others) (shape_Rank r)

pub needs_Mismatched : (others : ℕ → Bool) (first : RoundName) → needs_of others (shape (views.made-Mismatched first)) ≡ needs.Round first ∷ []
needs_Mismatched others first = ap (needs_of others) (shape_Mismatched first)

pub needs_All : (others : ℕ → Bool) (parts : Vec Condition Global) → needs_of others (shape (views.All parts)) ≡ flat_map (λ c. unmet others (shape c)) parts.items
needs_All others parts = ap (needs_of others) (shape_All parts) ∙ all_shapes others parts.items

pub needs_One : (others : ℕ → Bool) (parts : Vec Condition Global) → needs_of others (shape (views.One parts)) ≡ of_parts others parts.items
needs_One others parts = ap (needs_of others) (shape_One parts)
    ∙ ap (λ (b : Bool). needs_of_one others b (waits_of (map shape parts.items))) (one_shapes others parts.items)
    ∙ one_parts others (list_any (λ c. holds others (shape c)) parts.items) parts.items

pub needs_OneRank : (others : ℕ → Bool) (ranks : Arc (Vec ℕ Global) Global) → needs_of others (shape (views.made-OneRank ranks)) ≡ of_ranks others ranks.value.items
needs_OneRank others ranks = ap (needs_of others) (shape_OneRank ranks)
    ∙ ap (λ (b : Bool). needs_of_one others b (waits_of (map OnRank ranks.value.items))) (one_ranks others ranks.value.items)
    ∙ by_may others ranks.value.items (list_any others ranks.value.items)

pub needs_AllRanks : (others : ℕ → Bool) (ranks : Arc (Vec ℕ Global) Global) → needs_of others (shape (views.made-AllRanks ranks)) ≡ map of_rank ranks.value.items
needs_AllRanks others ranks = ap (needs_of others) (shape_AllRanks ranks) ∙ all_of_ranks others ranks.value.items
