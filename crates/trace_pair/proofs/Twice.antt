-- Members that stand in two maps, as one comes or goes.
use Rattle.std.proofs.Common.{◌≡◌, Bool, true, false, ◌&&◌, ◌||◌, sym, refl, ◌∙◌, ap, cond}
use Rattle.std.specs.declared.cmp.Ordering.{Ordering}
use Rattle.std.specs.Ordering.{is_eq}
use Rattle.std.specs.Cmp.{IsTotalOrder}
use Rattle.std.specs.BTreeMap.{BTreeMap, IsOrdered}
use Rattle.std.specs.BTreeSet.{BTreeSet}
use Rattle.std.proofs.lemmas.Map.Lookups.{CmpEqualImpliesEq}
use Rattle.trace_pair.specs.Groups.{has, StandTwice}
use Rattle.trace_pair.proofs.Members.{placed_more, placed_less, own_adds, own_drops}

undone : (e a : Bool) → cond e false (e || a) ≡ cond e false a
undone true a = refl
undone false a = refl

module _ {K L T : Type 0} {cmp : K → K → Ordering} {compare : L → L → Ordering} {order : T → T → Ordering}
    (keys : IsTotalOrder cmp) (exact : CmpEqualImpliesEq cmp) (others : IsTotalOrder compare) (exact_others : CmpEqualImpliesEq compare) (total : IsTotalOrder order) (sharp : CmpEqualImpliesEq order)
    (f : T → K) (g : T → L) (a : BTreeMap K (BTreeSet T)) (b : BTreeMap L (BTreeSet T)) (x : T) where
  abbrev Adds : BTreeMap K (BTreeSet T) → Type 0
  Adds new = (k : K) (d : T) → has cmp order new k d ≡ ((is_eq (cmp (f x) k) && is_eq (order x d)) || has cmp order a k d)

  abbrev AddsOther : BTreeMap L (BTreeSet T) → Type 0
  AddsOther new = (k : L) (d : T) → has compare order new k d ≡ ((is_eq (compare (g x) k) && is_eq (order x d)) || has compare order b k d)

  abbrev Drops : BTreeMap K (BTreeSet T) → BTreeMap K (BTreeSet T) → Type 0
  Drops old new = (k : K) (d : T) → has cmp order new k d ≡ cond (is_eq (cmp (f x) k) && is_eq (order x d)) false (has cmp order old k d)

  abbrev DropsOther : BTreeMap L (BTreeSet T) → BTreeMap L (BTreeSet T) → Type 0
  DropsOther old new = (k : L) (d : T) → has compare order new k d ≡ cond (is_eq (compare (g x) k) && is_eq (order x d)) false (has compare order old k d)

  module _ (inv : StandTwice cmp compare order f g a b) where
    pub twice_same : (n : BTreeMap K (BTreeSet T)) → IsOrdered cmp n → ((k : K) (d : T) → has cmp order n k d ≡ has cmp order a k d) → StandTwice cmp compare order f g n b
    twice_same n o law = record {
      first_ordered = o;
      second_ordered = inv.second_ordered;
      first_placed = λ k d h. inv.first_placed k d (sym (law k d) ∙ h);
      second_placed = inv.second_placed;
      same = λ d. law (f d) d ∙ inv.same d;
    }

    pub twice_more : (n : BTreeMap K (BTreeSet T)) (p : BTreeMap L (BTreeSet T)) → IsOrdered cmp n → IsOrdered compare p → Adds n → AddsOther p → StandTwice cmp compare order f g n p
    twice_more n p o q law other = record {
      first_ordered = o;
      second_ordered = q;
      first_placed = placed_more keys exact total sharp f a n inv.first_placed x law;
      second_placed = placed_more others exact_others total sharp g b p inv.second_placed x other;
      same = λ d. own_adds keys exact total sharp f a n x law d ∙ ap (λ h. is_eq (order x d) || h) (inv.same d) ∙ sym (own_adds others exact_others total sharp g b p x other d);
    }

    pub twice_less : (n : BTreeMap K (BTreeSet T)) (p : BTreeMap L (BTreeSet T)) → IsOrdered cmp n → IsOrdered compare p → Drops a n → DropsOther b p → StandTwice cmp compare order f g n p
    twice_less n p o q law other = record {
      first_ordered = o;
      second_ordered = q;
      first_placed = placed_less keys exact total sharp f a n inv.first_placed (f x) x law;
      second_placed = placed_less others exact_others total sharp g b p inv.second_placed (g x) x other;
      same = λ d. own_drops keys exact total sharp f a n x law d ∙ ap (λ h. cond (is_eq (order x d)) false h) (inv.same d) ∙ sym (own_drops others exact_others total sharp g b p x other d);
    }

    -- the first map had grown, and the second was refused
    pub twice_undone : (m n : BTreeMap K (BTreeSet T)) (r p : BTreeMap L (BTreeSet T)) → IsOrdered cmp n → IsOrdered compare p → Adds m → ((k : L) (d : T) → has compare order r k d ≡ has compare order b k d) → Drops m n → DropsOther r p → StandTwice cmp compare order f g n p
    twice_undone m n r p o q added stays law other = record {
      first_ordered = o;
      second_ordered = q;
      first_placed = placed_less keys exact total sharp f m n (placed_more keys exact total sharp f a m inv.first_placed x added) (f x) x law;
      second_placed = placed_less others exact_others total sharp g r p (λ k d h. inv.second_placed k d (sym (stays k d) ∙ h)) (g x) x other;
      same = λ d. own_drops keys exact total sharp f m n x law d ∙ ap (λ h. cond (is_eq (order x d)) false h) (own_adds keys exact total sharp f a m x added d) ∙ undone (is_eq (order x d)) (has cmp order a (f d) d)
          ∙ ap (λ h. cond (is_eq (order x d)) false h) (inv.same d ∙ sym (stays (g d) d)) ∙ sym (own_drops others exact_others total sharp g r p x other d);
    }
