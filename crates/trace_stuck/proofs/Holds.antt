-- What a condition says, level by level, and that it holds of more where more ranks can go on.
use Rattle.std.proofs.Common.{Vec, Global, ◌⊎◌, subst, ◌≡◌, ℕ, Bool, true, false, ◌&&◌, ◌||◌, List, [], ◌∷◌, map, refl, sym, ◌∙◌, ap, inl, inr, ⊎_elim}
use Rattle.std.specs.List.{list_any, list_all}
use Rattle.std.specs.declared.sync.Arc.{Arc}
use Rattle.trace_stuck.specs.declared.condition.Condition.{Condition}
use Rattle.trace_stuck.specs.declared.condition.Condition.TheOpen.{Condition-F, Yes, Rank, All, One, OneRank, AllRanks, Mismatched}
use Rattle.trace_stuck.specs.declared.condition.Condition.TheFolds.{fold-roll-Condition, ind-Condition, map-Condition}
use Rattle.trace_stuck.specs.declared.condition.Condition.TheViews.{out-Condition, roll-Condition}
use Rattle.trace_stuck.specs.declared.condition.Condition.TheViews as views
use Rattle.trace_stuck.specs.Holds.{holds_step, holds}

all_map : {X : Type 0} (p : X → Bool) (xs : List X) → list_all (λ b. b) (map p xs) ≡ list_all p xs
all_map p [] = refl
all_map p (x ∷ xs) = ap (λ b. p x && b) (all_map p xs)

any_map : {X : Type 0} (p : X → Bool) (xs : List X) → list_any (λ b. b) (map p xs) ≡ list_any p xs
any_map p [] = refl
any_map p (x ∷ xs) = ap (λ b. p x || b) (any_map p xs)

pub both : (a b : Bool) → (a && b) ≡ true → (a ≡ true) × (b ≡ true)
both true b h = (refl, h)
both false b h = absurd (cc)

pub and_true : (a b : Bool) → a ≡ true → b ≡ true → (a && b) ≡ true
and_true a b h k = rw h k

pub either : (a b : Bool) → (a || b) ≡ true → (a ≡ true) ⊎ (b ≡ true)
either true b h = inl refl
either false b h = inr h

pub or_left : (a b : Bool) → a ≡ true → (a || b) ≡ true
or_left a b h = rw h refl

pub or_right : (a b : Bool) → b ≡ true → (a || b) ≡ true
or_right true b h = refl
or_right false b h = h

-- one level
abbrev pub level : (ℕ → Bool) → Condition-F Condition → Bool
level able Yes = true
level able (Rank r) = able r
level able (All parts) = list_all (holds able) parts.items
level able (One parts) = list_any (holds able) parts.items
level able (OneRank ranks) = list_any able ranks.value.items
level able (AllRanks ranks) = list_all able ranks.value.items
level able (Mismatched first) = true

pub holds_roll : (able : ℕ → Bool) (x : Condition-F Condition) → holds able (roll-Condition x) ≡ level able x
holds_roll able Yes = fold-roll-Condition Bool (holds_step able) Yes
holds_roll able (Rank r) = fold-roll-Condition Bool (holds_step able) (Rank r)
holds_roll able (All parts) = fold-roll-Condition Bool (holds_step able) (All parts) ∙ all_map (holds able) parts.items
holds_roll able (One parts) = fold-roll-Condition Bool (holds_step able) (One parts) ∙ any_map (holds able) parts.items
holds_roll able (OneRank ranks) = fold-roll-Condition Bool (holds_step able) (OneRank ranks)
holds_roll able (AllRanks ranks) = fold-roll-Condition Bool (holds_step able) (AllRanks ranks)
holds_roll able (Mismatched first) = fold-roll-Condition Bool (holds_step able) (Mismatched first)

pub holds_All : (able : ℕ → Bool) (parts : Vec Condition Global) → holds able (views.All parts) ≡ list_all (holds able) parts.items
holds_All able parts = ap (holds able) (sym (views.rolls-All parts)) ∙ holds_roll able (All parts)

pub holds_One : (able : ℕ → Bool) (parts : Vec Condition Global) → holds able (views.One parts) ≡ list_any (holds able) parts.items
holds_One able parts = ap (holds able) (sym (views.rolls-One parts)) ∙ holds_roll able (One parts)

pub holds_OneRank : (able : ℕ → Bool) (ranks : Arc (Vec ℕ Global) Global) → holds able (views.made-OneRank ranks) ≡ list_any able ranks.value.items
holds_OneRank able ranks = ap (holds able) (sym (views.rolls-OneRank ranks)) ∙ holds_roll able (OneRank ranks)

pub holds_AllRanks : (able : ℕ → Bool) (ranks : Arc (Vec ℕ Global) Global) → holds able (views.made-AllRanks ranks) ≡ list_all able ranks.value.items
holds_AllRanks able ranks = ap (holds able) (sym (views.rolls-AllRanks ranks)) ∙ holds_roll able (AllRanks ranks)

-- where more ranks can go on, no fewer conditions hold
abbrev IsMonotone : (ℕ → Bool) → (ℕ → Bool) → Condition → Type 0
IsMonotone able more c = holds able c ≡ true → holds more c ≡ true

all_more : (able more : ℕ → Bool) (cs : List ((c : Condition) × IsMonotone able more c)) → list_all (holds able) (map (λ e. e.0) cs) ≡ true → list_all (holds more) (map (λ e. e.0) cs) ≡ true
all_more able more [] h = refl
all_more able more (e ∷ cs) h =
    let p = both (holds able e.0) (list_all (holds able) (map (λ e. e.0) cs)) h in
    and_true (holds more e.0) (list_all (holds more) (map (λ e. e.0) cs)) (e.1 p.0) (all_more able more cs p.1)

any_more : (able more : ℕ → Bool) (cs : List ((c : Condition) × IsMonotone able more c)) → list_any (holds able) (map (λ e. e.0) cs) ≡ true → list_any (holds more) (map (λ e. e.0) cs) ≡ true
any_more able more [] h = h
any_more able more (e ∷ cs) h =
    ⊎_elim (λ a. or_left (holds more e.0) (list_any (holds more) (map (λ e. e.0) cs)) (e.1 a)) (λ b. or_right (holds more e.0) (list_any (holds more) (map (λ e. e.0) cs)) (any_more able more cs b))
    (either (holds able e.0) (list_any (holds able) (map (λ e. e.0) cs)) h)

some_more : (able more : ℕ → Bool) (h : (r : ℕ) → able r ≡ true → more r ≡ true) (ranks : List ℕ) → list_any able ranks ≡ true → list_any more ranks ≡ true
some_more able more h [] g = g
some_more able more h (r ∷ ranks) g =
    ⊎_elim (λ a. or_left (more r) (list_any more ranks) (h r a)) (λ b. or_right (more r) (list_any more ranks) (some_more able more h ranks b))
    (either (able r) (list_any able ranks) g)

each_more : (able more : ℕ → Bool) (h : (r : ℕ) → able r ≡ true → more r ≡ true) (ranks : List ℕ) → list_all able ranks ≡ true → list_all more ranks ≡ true
each_more able more h [] g = refl
each_more able more h (r ∷ ranks) g =
    let p = both (able r) (list_all able ranks) g in
    and_true (more r) (list_all more ranks) (h r p.0) (each_more able more h ranks p.1)

-- y is x with a proof beside each part
level_more : (able more : ℕ → Bool) (h : (r : ℕ) → able r ≡ true → more r ≡ true) (y : Condition-F ((c : Condition) × IsMonotone able more c)) →
    level able (map-Condition _ _ (λ e. e.0) y) ≡ true → level more (map-Condition _ _ (λ e. e.0) y) ≡ true
level_more able more h Yes g = refl
level_more able more h (Rank r) g = h r g
level_more able more h (All parts) g = all_more able more parts.items g
level_more able more h (One parts) g = any_more able more parts.items g
level_more able more h (OneRank ranks) g = some_more able more h ranks.value.items g
level_more able more h (AllRanks ranks) g = each_more able more h ranks.value.items g
level_more able more h (Mismatched first) g = refl

pub monotone : (able more : ℕ → Bool) (c : Condition) → ((r : ℕ) → able r ≡ true → more r ≡ true) → holds able c ≡ true → holds more c ≡ true
monotone able more c h = ind-Condition (IsMonotone able more) (λ x y is g.
    let g' = sym (holds_roll able x) ∙ g in
    holds_roll more x ∙ subst (λ z. level able z ≡ true → level more z ≡ true) is (level_more able more h y) g') c
