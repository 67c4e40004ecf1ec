-- A condition that holds only since one more rank can go on names that rank.
use Rattle.std.proofs.Common.{Vec, Global, ◌⊎◌, subst, ◌≡◌, ℕ, Bool, true, false, ◌&&◌, ◌||◌, List, [], ◌∷◌, ◌++◌, map, eqb, refl, sym, ◌∙◌, ap, inl, inr, ⊎_elim, arith}
use Rattle.std.specs.List.{list_any, list_all, flat_map}
use Rattle.std.specs.declared.sync.Arc.{Arc}
use Rattle.std.proofs.lemmas.List.Folds.{list_any-append, flat_map-map}
use Rattle.std.proofs.lemmas.Bool.Decides.{nat_tests}
use Rattle.trace_stuck.specs.declared.condition.Condition.{Condition}
use Rattle.trace_stuck.specs.declared.condition.Condition.TheOpen.{Condition-F, Yes, Rank, All, One, OneRank, AllRanks, Mismatched}
use Rattle.trace_stuck.specs.declared.condition.Condition.TheFolds.{fold-roll-Condition, ind-Condition, map-Condition}
use Rattle.trace_stuck.specs.declared.condition.Condition.TheViews.{out-Condition, roll-Condition}
use Rattle.trace_stuck.specs.declared.condition.Condition.TheViews as views
use Rattle.trace_stuck.specs.Holds.{holds}
use Rattle.trace_stuck.specs.Release.{among}
use Rattle.trace_stuck.specs.Named.{named, named_step}
use Rattle.trace_stuck.proofs.Holds.{level, holds_roll, both, either, or_left, or_right}

flat_parts : (parts : List Condition) → flat_map (λ p. p) (map named parts) ≡ flat_map named parts
flat_parts parts = flat_map-map (λ p. p) named parts

abbrev named_level : Condition-F Condition → List ℕ
named_level Yes = []
named_level (Rank r) = r ∷ []
named_level (All parts) = flat_map named parts.items
named_level (One parts) = flat_map named parts.items
named_level (OneRank ranks) = ranks.value.items
named_level (AllRanks ranks) = ranks.value.items
named_level (Mismatched first) = []

named_roll : (x : Condition-F Condition) → named (roll-Condition x) ≡ named_level x
named_roll Yes = fold-roll-Condition (List ℕ) named_step Yes
named_roll (Rank r) = fold-roll-Condition (List ℕ) named_step (Rank r)
named_roll (All parts) = fold-roll-Condition (List ℕ) named_step (All parts) ∙ flat_parts parts.items
named_roll (One parts) = fold-roll-Condition (List ℕ) named_step (One parts) ∙ flat_parts parts.items
named_roll (OneRank ranks) = fold-roll-Condition (List ℕ) named_step (OneRank ranks)
named_roll (AllRanks ranks) = fold-roll-Condition (List ℕ) named_step (AllRanks ranks)
named_roll (Mismatched first) = fold-roll-Condition (List ℕ) named_step (Mismatched first)

pub named_Rank : (r : ℕ) → named (views.made-Rank r) ≡ r ∷ []
named_Rank r = ap named (sym (views.rolls-Rank r)) ∙ named_roll (Rank r)

pub named_All : (parts : Vec Condition Global) → named (views.All parts) ≡ flat_map named parts.items
named_All parts = ap named (sym (views.rolls-All parts)) ∙ named_roll (All parts)

pub named_One : (parts : Vec Condition Global) → named (views.One parts) ≡ flat_map named parts.items
named_One parts = ap named (sym (views.rolls-One parts)) ∙ named_roll (One parts)

pub named_OneRank : (ranks : Arc (Vec ℕ Global) Global) → named (views.made-OneRank ranks) ≡ ranks.value.items
named_OneRank ranks = ap named (sym (views.rolls-OneRank ranks)) ∙ named_roll (OneRank ranks)

pub named_AllRanks : (ranks : Arc (Vec ℕ Global) Global) → named (views.made-AllRanks ranks) ≡ ranks.value.items
named_AllRanks ranks = ap named (sym (views.rolls-AllRanks ranks)) ∙ named_roll (AllRanks ranks)

pub ruleset named_rules = (named_Rank, named_All, named_One, named_OneRank, named_AllRanks)

pub and_false : (a b : Bool) → (a && b) ≡ false → (a ≡ false) ⊎ (b ≡ false)
and_false true b h = inr h
and_false false b h = inl refl

pub or_false_parts : (a b : Bool) → (a || b) ≡ false → (a ≡ false) × (b ≡ false)
or_false_parts true b h = absurd (cc)
or_false_parts false b h = (refl, h)

pub among_append : (xs ys : List ℕ) (r : ℕ) → among (xs ++ ys) r ≡ (among xs r || among ys r)
among_append xs ys r = list_any-append (λ s. eqb s r) xs ys

pub among_self : (q : ℕ) → among (q ∷ []) q ≡ true
among_self q = or_left (eqb q q) false (grind (arith, nat_tests))

module _ (able more : ℕ → Bool) (q : ℕ) where
  abbrev NamesNew : Condition → Type 0
  NamesNew c = holds more c ≡ true → holds able c ≡ false → among (named c) q ≡ true

  -- the first part, or one of the rest
  names_first : (x xs : List ℕ) → among x q ≡ true → among (x ++ xs) q ≡ true
  names_first x xs h = among_append x xs q ∙ or_left (among x q) (among xs q) h

  names_rest : (x xs : List ℕ) → among xs q ≡ true → among (x ++ xs) q ≡ true
  names_rest x xs h = among_append x xs q ∙ or_right (among x q) (among xs q) h

  all_new : (cs : List ((c : Condition) × NamesNew c)) → list_all (holds more) (map (λ e. e.0) cs) ≡ true → list_all (holds able) (map (λ e. e.0) cs) ≡ false →
      among (flat_map named (map (λ e. e.0) cs)) q ≡ true
  all_new [] h k = absurd (cc)
  all_new (e ∷ cs) h k =
      let p = both (holds more e.0) (list_all (holds more) (map (λ e. e.0) cs)) h in
      ⊎_elim
      (λ (a : holds able e.0 ≡ false). names_first (named e.0) (flat_map named (map (λ e. e.0) cs)) (e.1 p.0 a))
      (λ (b : list_all (holds able) (map (λ e. e.0) cs) ≡ false). names_rest (named e.0) (flat_map named (map (λ e. e.0) cs)) (all_new cs p.1 b))
      (and_false (holds able e.0) (list_all (holds able) (map (λ e. e.0) cs)) k)

  any_new : (cs : List ((c : Condition) × NamesNew c)) → list_any (holds more) (map (λ e. e.0) cs) ≡ true → list_any (holds able) (map (λ e. e.0) cs) ≡ false →
      among (flat_map named (map (λ e. e.0) cs)) q ≡ true
  any_new [] h k = absurd (cc)
  any_new (e ∷ cs) h k =
      let p = or_false_parts (holds able e.0) (list_any (holds able) (map (λ e. e.0) cs)) k in
      ⊎_elim
      (λ (a : holds more e.0 ≡ true). names_first (named e.0) (flat_map named (map (λ e. e.0) cs)) (e.1 a p.0))
      (λ (b : list_any (holds more) (map (λ e. e.0) cs) ≡ true). names_rest (named e.0) (flat_map named (map (λ e. e.0) cs)) (any_new cs b p.1))
      (either (holds more e.0) (list_any (holds more) (map (λ e. e.0) cs)) h)

  -- the one rank more is among those of which one can go on
  some_new : ((s : ℕ) → more s ≡ true → (able s ≡ true) ⊎ (q ≡ s)) → (ranks : List ℕ) → list_any more ranks ≡ true → list_any able ranks ≡ false → among ranks q ≡ true
  some_new new [] h k = absurd (cc)
  some_new new (r ∷ ranks) h k =
      let p = or_false_parts (able r) (list_any able ranks) k in
      ⊎_elim
      (λ (a : more r ≡ true). ⊎_elim (λ (b : able r ≡ true). absurd (cc)) (λ (e : q ≡ r). or_left (eqb r q) (among ranks q) (subst (λ (x : ℕ). eqb x q ≡ true) e (grind (arith, nat_tests)))) (new r a))
      (λ (b : list_any more ranks ≡ true). or_right (eqb r q) (among ranks q) (some_new new ranks b p.1))
      (either (more r) (list_any more ranks) h)

  -- so it is among those of which each can go on
  each_new : ((s : ℕ) → more s ≡ true → (able s ≡ true) ⊎ (q ≡ s)) → (ranks : List ℕ) → list_all more ranks ≡ true → list_all able ranks ≡ false → among ranks q ≡ true
  each_new new [] h k = absurd (cc)
  each_new new (r ∷ ranks) h k =
      let p = both (more r) (list_all more ranks) h in
      ⊎_elim
      (λ (a : able r ≡ false). ⊎_elim (λ (b : able r ≡ true). absurd (cc)) (λ (e : q ≡ r). or_left (eqb r q) (among ranks q) (subst (λ (x : ℕ). eqb x q ≡ true) e (grind (arith, nat_tests)))) (new r p.0))
      (λ (b : list_all able ranks ≡ false). or_right (eqb r q) (among ranks q) (each_new new ranks p.1 b))
      (and_false (able r) (list_all able ranks) k)

  level_new : ((s : ℕ) → more s ≡ true → (able s ≡ true) ⊎ (q ≡ s)) → (y : Condition-F ((c : Condition) × NamesNew c)) →
      level more (map-Condition _ _ (λ e. e.0) y) ≡ true → level able (map-Condition _ _ (λ e. e.0) y) ≡ false →
      among (named_level (map-Condition _ _ (λ e. e.0) y)) q ≡ true
  level_new new Yes h k = absurd (cc)
  level_new new (Rank r) h k =
      ⊎_elim (λ (a : able r ≡ true). absurd (cc)) (λ (e : q ≡ r). subst (λ (x : ℕ). among (x ∷ []) q ≡ true) e (among_self q)) (new r h)
  level_new new (All parts) h k = all_new parts.items h k
  level_new new (One parts) h k = any_new parts.items h k
  level_new new (OneRank ranks) h k = some_new new ranks.value.items h k
  level_new new (AllRanks ranks) h k = each_new new ranks.value.items h k
  level_new new (Mismatched first) h k = absurd (cc)

  pub names_new : ((s : ℕ) → more s ≡ true → (able s ≡ true) ⊎ (q ≡ s)) → (c : Condition) → NamesNew c
  names_new new c = ind-Condition NamesNew (λ x y is h k.
      let h' = sym (holds_roll more x) ∙ h in
      let k' = sym (holds_roll able x) ∙ k in
      ap (λ l. among l q) (named_roll x)
      ∙ subst (λ z. level more z ≡ true → level able z ≡ false → among (named_level z) q ≡ true) is (level_new new y) h' k') c
