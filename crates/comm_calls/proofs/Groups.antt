-- Groups of calls that name one number, with one call more.
use Rattle.std.proofs.Common.{◌≡◌, ◌≢◌, ◌∙◌, ◌<◌, ◌≤◌, ◌⊎◌, ℕ, ◌+◌, ◌-◌, ◌==◌, List, Option, Some, None, cond, ap, sym, subst, inl, inr, arith}
use Rattle.std.proofs.lemmas.Bool.{cases_eq, cases_lt, cases_order, cond-false, cond-true, eq-eqb, ne_eqb}
use Rattle.comm_makings.specs.declared.calls.Uses.{Uses}
use Rattle.comm_calls.specs.Uses.{AreUses, GoesOn, IsBetween, IsEnded, IsGroup, IsOpen}
use Rattle.comm_calls.proofs.Counted.{count_same}

-- What the calls say, and what they say with one more at this place, which says this.
pub record More (before after : ℕ → Option ℕ) (place : ℕ) (said : Option ℕ) : Type 0 where
  pub same : (q : ℕ) → q < place → after q ≡ before q
  pub here : after place ≡ said
  pub none : (q : ℕ) → place ≤ q → before q ≡ None
  pub past : (q : ℕ) → place < q → after q ≡ None

pub within : (before after : ℕ → Option ℕ) (p : ℕ) (said : Option ℕ) (q n : ℕ) → More before after p said → before q ≡ Some n → q < p
within before after p said q n m e = elim (cases_lt q p) [ inl h ↦ h | inr h ↦ absurd (let none = m.none q h in cc) ]

pub kept : (before after : ℕ → Option ℕ) (p : ℕ) (said : Option ℕ) (q n : ℕ) → More before after p said → before q ≡ Some n → after q ≡ Some n
kept before after p said q n m e = m.same q (within before after p said q n m e) ∙ e

-- what is said then was said before, or is said by the new call
pub of_more : (before after : ℕ → Option ℕ) (p : ℕ) (said : Option ℕ) (q n : ℕ) → More before after p said → after q ≡ Some n → (before q ≡ Some n) ⊎ ((q ≡ p) × (said ≡ Some n))
of_more before after p said q n m e = elim (cases_order q p) [
  | inl same ↦ inr (same, sym m.here ∙ ap after (sym same) ∙ e)
  | inr apart ↦ elim apart [ inl h ↦ inl (sym (m.same q h) ∙ e) | inr h ↦ absurd (let none = m.past q h in cc) ]
]

-- a call that says nothing else leaves what was not said unsaid
pub unsaid : (before after : ℕ → Option ℕ) (p : ℕ) (said : Option ℕ) (q n : ℕ) → More before after p said → said ≢ Some n → before q ≢ Some n → after q ≢ Some n
unsaid before after p said q n m h before_not e = elim (of_more before after p said q n m e) [ inl was ↦ before_not was | inr is ↦ h is.1 ]

-- ---- a group

pub group_kept : (named named' changed changed' : ℕ → Option ℕ) (p : ℕ) (x y : Option ℕ) (u : Uses) → More named named' p x → More changed changed' p y → IsGroup named changed u → IsGroup named' changed' u
group_kept named named' changed changed' p x y u m c g =
    let below : u.last < p = within named named' p x u.last u.number m g.last in
    record {
      first = kept named named' p x u.first u.number m g.first;
      last = kept named named' p x u.last u.number m g.last;
      order = g.order;
      together = λ q low high e. g.together q low high (sym (c.same q (omega arith)) ∙ e);
      count = g.count ∙ sym (count_same named named' u.number u.first (u.last + 1 - u.first) (λ q low high. m.same q (let order = g.order in omega arith)));
    }

pub between_kept : (changed changed' : ℕ → Option ℕ) (p : ℕ) (y : Option ℕ) (u v : Uses) → More changed changed' p y → IsBetween changed u v → IsBetween changed' u v
between_kept changed changed' p y u v c b = record { place = b.place; above = b.above; below = b.below; changes = kept changed changed' p y b.place u.number c b.changes }

pub ended_kept : (changed changed' : ℕ → Option ℕ) (p : ℕ) (y : Option ℕ) (u : Uses) → More changed changed' p y → IsEnded changed u → IsEnded changed' u
ended_kept changed changed' p y u c e = record { place = e.place; above = e.above; changes = kept changed changed' p y e.place u.number c e.changes }

pub still_kept : (changed changed' : ℕ → Option ℕ) (p : ℕ) (y : Option ℕ) (groups : List Uses) (n at : ℕ) → More changed changed' p y → y ≢ Some n → GoesOn changed groups n at → GoesOn changed' groups n at
still_kept changed changed' p y groups n at c h g = record {
  group = g.group;
  is = g.is;
  same = g.same;
  still = λ q low. unsaid changed changed' p y q n c h (g.still q low);
}

-- behind the last call of a group that goes on no call names the number
pub quiet_behind : (named changed : ℕ → Option ℕ) (groups : List Uses) (n at : ℕ) (q : ℕ) → AreUses named changed groups → (g : GoesOn changed groups n at) → g.group.last < q → named q ≢ Some n
quiet_behind named changed groups n at q uses g above e =
    let w = uses.whole q n e in
    let order = (uses.each at g.group g.is).order in
    elim (cases_order w.at at) [
      | inl same ↦ (let is = w.is in let on = g.is in let one : w.group ≡ g.group = cc in let last : w.group.last ≡ g.group.last = ap (λ (u : Uses). u.last) one in let to = w.to in omega arith)
      | inr apart ↦ elim apart [
        | inl h ↦ (let b = uses.apart w.at at w.group g.group h w.is g.is (w.same ∙ sym g.same) in let to = w.to in let above_it = b.above in let below_it = b.below in omega arith)
        | inr h ↦ (let b = uses.apart at w.at g.group w.group h g.is w.is (g.same ∙ sym w.same) in g.still b.place (let above_it = b.above in omega arith) (b.changes ∙ ap Some g.same))
      ]
    ]

-- ---- a call that names no number

pub uses_kept : (named named' changed changed' : ℕ → Option ℕ) (p : ℕ) (y : Option ℕ) (groups : List Uses) → More named named' p None → More changed changed' p y → AreUses named changed groups → AreUses named' changed' groups
uses_kept named named' changed changed' p y groups m c uses = record {
  each = λ i u is. group_kept named named' changed changed' p None y u m c (uses.each i u is);
  whole = λ q n e. elim (of_more named named' p None q n m e) [ inl was ↦ uses.whole q n was | inr new ↦ absurd (let none = new.1 in cc) ];
  rising = uses.rising;
  apart = λ i j u v h iu jv same. between_kept changed changed' p y u v c (uses.apart i j u v h iu jv same);
}

-- what goes on goes on where no call gives or frees the number
pub open_kept : (changed changed' : ℕ → Option ℕ) (p : ℕ) (y : Option ℕ) (groups : List Uses) (n : ℕ) (going : Option ℕ) → More changed changed' p y → y ≢ Some n → IsOpen changed groups n going → IsOpen changed' groups n going
open_kept changed changed' p y groups n None c h ended = λ i u is same. ended_kept changed changed' p y u c (ended i u is same)
open_kept changed changed' p y groups n (Some at) c h on = still_kept changed changed' p y groups n at c h on

-- a call that gives or frees the number ends its groups
pub all_ended : (named named' changed changed' : ℕ → Option ℕ) (p n : ℕ) (x : Option ℕ) (groups : List Uses) → More named named' p x → More changed changed' p (Some n) → AreUses named changed groups → IsOpen changed' groups n None
all_ended named named' changed changed' p n x groups m c uses = λ i u is same. record {
  place = p;
  above = within named named' p x u.last u.number m (uses.each i u is).last;
  changes = c.here ∙ ap Some (sym same);
}

pub open_changed : (named named' changed changed' : ℕ → Option ℕ) (p n : ℕ) (x : Option ℕ) (groups : List Uses) (k : ℕ) (going : Option ℕ) → More named named' p x → More changed changed' p (Some n) → AreUses named changed groups → IsOpen changed groups k going
    → IsOpen changed' groups k (cond (n == k) None going)
open_changed named named' changed changed' p n x groups k going m c uses is = elim (cases_eq n k) [
  | inl same ↦ subst (λ (o : Option ℕ). IsOpen changed' groups k o) (sym (cond-true (n == k) None going (eq-eqb n k same)))
      (subst (λ (j : ℕ). IsOpen changed' groups j None) same (all_ended named named' changed changed' p n x groups m c uses))
  | inr other ↦ subst (λ (o : Option ℕ). IsOpen changed' groups k o) (sym (cond-false (n == k) None going (ne_eqb n k other)))
      (open_kept changed changed' p (Some n) groups k going c (λ e. other (let e : Some n ≡ Some k = e in cc)) is)
]
