-- Whether a condition holds is known by its shape.
use Rattle.std.proofs.Common.{◌≡◌, ℕ, Bool, true, ◌&&◌, ◌||◌, List, [], ◌∷◌, map, refl, sym, ◌∙◌, ap, subst, false}
use Rattle.std.specs.List.{list_any, list_all}
use Rattle.trace_stuck.specs.declared.condition.Condition.{Condition}
use Rattle.trace_stuck.specs.declared.condition.Condition.TheOpen.{Condition-F, Yes, Rank, All, One, OneRank, AllRanks, Mismatched}
use Rattle.trace_stuck.specs.declared.condition.Condition.TheFolds.{fold-roll-Condition, ind-Condition, map-Condition}
use Rattle.trace_stuck.specs.declared.condition.Condition.TheViews.{roll-Condition}
use Rattle.trace_stuck.specs.Holds.{holds_step, holds}
use Rattle.trace_stuck.specs.Shape.{Wait, Waits, OnNothing, OnRank, OnAll, OnOne, OnMismatched, none, and, shape_step, shape, waits_of}

abbrev mutual
  -- whether a wait is over where just these ranks can go on
  pub over : (ℕ → Bool) → Wait → Bool
  over able OnNothing = true
  over able (OnRank r) = able r
  over able (OnAll parts) = all_over able parts
  over able (OnOne parts) = some_over able parts
  over able (OnMismatched first) = true

  pub all_over : (ℕ → Bool) → Waits → Bool
  all_over able none = true
  all_over able (and first rest) = over able first && all_over able rest

  pub some_over : (ℕ → Bool) → Waits → Bool
  some_over able none = false
  some_over able (and first rest) = over able first || some_over able rest

-- the condition holds where its shape is over
abbrev IsOver : (ℕ → Bool) → Condition → Type 0
IsOver able c = holds able c ≡ over able (shape c)

-- conditions, each with a proof beside it
all_parts : (able : ℕ → Bool) (cs : List ((c : Condition) × IsOver able c)) →
    list_all (λ b. b) (map (holds able) (map (λ e. e.0) cs)) ≡ all_over able (waits_of (map shape (map (λ e. e.0) cs)))
all_parts able [] = refl
all_parts able (e ∷ cs) = λ i. e.1 i && all_parts able cs i

some_parts : (able : ℕ → Bool) (cs : List ((c : Condition) × IsOver able c)) →
    list_any (λ b. b) (map (holds able) (map (λ e. e.0) cs)) ≡ some_over able (waits_of (map shape (map (λ e. e.0) cs)))
some_parts able [] = refl
some_parts able (e ∷ cs) = λ i. e.1 i || some_parts able cs i

-- one of some ranks
ranks_over : (able : ℕ → Bool) (ranks : List ℕ) → list_any able ranks ≡ some_over able (waits_of (map OnRank ranks))
ranks_over able [] = refl
ranks_over able (r ∷ ranks) = ap (λ b. able r || b) (ranks_over able ranks)

-- each of some ranks
each_over : (able : ℕ → Bool) (ranks : List ℕ) → list_all able ranks ≡ all_over able (waits_of (map OnRank ranks))
each_over able [] = refl
each_over able (r ∷ ranks) = ap (λ b. able r && b) (each_over able ranks)

-- one level
level : (able : ℕ → Bool) (y : Condition-F ((c : Condition) × IsOver able c)) →
    holds able (roll-Condition (map-Condition _ _ (λ e. e.0) y)) ≡ over able (shape (roll-Condition (map-Condition _ _ (λ e. e.0) y)))
level able Yes = fold-roll-Condition Bool (holds_step able) Yes ∙ sym (ap (over able) (fold-roll-Condition Wait shape_step Yes))
level able (Rank r) = fold-roll-Condition Bool (holds_step able) (Rank r) ∙ sym (ap (over able) (fold-roll-Condition Wait shape_step (Rank r)))
level able (All parts) = fold-roll-Condition Bool (holds_step able) (map-Condition _ _ (λ e. e.0) (All parts)) ∙ all_parts able parts.items
    ∙ sym (ap (over able) (fold-roll-Condition Wait shape_step (map-Condition _ _ (λ e. e.0) (All parts))))
level able (One parts) = fold-roll-Condition Bool (holds_step able) (map-Condition _ _ (λ e. e.0) (One parts)) ∙ some_parts able parts.items
    ∙ sym (ap (over able) (fold-roll-Condition Wait shape_step (map-Condition _ _ (λ e. e.0) (One parts))))
level able (OneRank ranks) = fold-roll-Condition Bool (holds_step able) (OneRank ranks) ∙ ranks_over able ranks.value.items
    ∙ sym (ap (over able) (fold-roll-Condition Wait shape_step (OneRank ranks)))
level able (AllRanks ranks) = fold-roll-Condition Bool (holds_step able) (AllRanks ranks) ∙ each_over able ranks.value.items
    ∙ sym (ap (over able) (fold-roll-Condition Wait shape_step (AllRanks ranks)))
level able (Mismatched first) = fold-roll-Condition Bool (holds_step able) (Mismatched first) ∙ sym (ap (over able) (fold-roll-Condition Wait shape_step (Mismatched first)))

holds-shape : (able : ℕ → Bool) (c : Condition) → IsOver able c
holds-shape able c = ind-Condition (IsOver able) (λ x y is. subst (λ z. IsOver able (roll-Condition z)) is (level able y)) c

-- conditions of one shape hold alike
pub holds_alike : (able : ℕ → Bool) (c d : Condition) → shape c ≡ shape d → holds able c ≡ holds able d
holds_alike able c d h = holds-shape able c ∙ ap (over able) h ∙ sym (holds-shape able d)
