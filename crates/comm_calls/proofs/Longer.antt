-- A call that names a number, of which a group goes on.
use Rattle.std.proofs.Common.{◌≡◌, ◌≢◌, ◌∙◌, ◌<◌, ◌≤◌, ◌⊎◌, ℕ, ◌+◌, ◌-◌, ◌^◌, List, Option, Some, None, min, ap, sym, subst, refl, inl, inr, arith}
use Rattle.std.specs.List.{slice_get, slice_set}
use Rattle.std.proofs.lemmas.Bool.{cases_eq}
use Rattle.comm_makings.specs.declared.calls.Uses.{Uses}
use Rattle.comm_calls.specs.Uses.{AreUses, IsBetween, IsGroup, IsOneOf, IsOpen, count_named, longer}
use Rattle.comm_calls.proofs.Counted.{count_quiet, count_same, count_within, count_yes}
use Rattle.comm_calls.proofs.Elements.{get_set_other, get_set_same}
use Rattle.comm_calls.proofs.Groups.{More, ended_kept, group_kept, kept, of_more, unsaid, within}

-- one call more is counted
count_longer : (named named' : ℕ → Option ℕ) (p n first last : ℕ) → More named named' p (Some n) → first ≤ last → last < p → ((q : ℕ) → last < q → named q ≢ Some n)
    → count_named named' n first (p + 1 - first) ≡ count_named named n first (last + 1 - first) + 1
count_longer named named' p n first last m order below quiet =
    let k : ℕ = last + 1 - first in
    let more : ℕ = p - (last + 1) in
    let all : p + 1 - first ≡ k + more + 1 = omega arith in
    let there : first + (k + more) ≡ p = omega arith in
    ap (count_named named' n first) all
    ∙ count_yes named' n first (k + more) (ap named' there ∙ m.here)
    ∙ ap (λ (c : ℕ). c + 1) (count_same named named' n first (k + more) (λ q low high. m.same q (omega arith))
    ∙ count_quiet named n first k more (λ q low high. quiet q (omega arith)))

longer_count : (named named' : ℕ → Option ℕ) (p n first last count : ℕ) → More named named' p (Some n) → p < 2 ^ 64 - 1 → first ≤ last → last < p → ((q : ℕ) → last < q → named q ≢ Some n)
    → count ≡ count_named named n first (last + 1 - first) → min (count + 1) (2 ^ 64 - 1) ≡ count_named named' n first (p + 1 - first)
longer_count named named' p n first last count m few order below quiet is =
    let most = count_within named n first (last + 1 - first) in
    let all = count_longer named named' p n first last m order below quiet in
    omega (arith, most, all, is, few)

group_longer : (named named' changed changed' : ℕ → Option ℕ) (p : ℕ) (u : Uses) → More named named' p (Some u.number) → More changed changed' p None → p < 2 ^ 64 - 1 → IsGroup named changed u
    → ((q : ℕ) → u.first ≤ q → changed q ≢ Some u.number) → ((q : ℕ) → u.last < q → named q ≢ Some u.number) → IsGroup named' changed' (longer p u)
group_longer named named' changed changed' p u m c few g still quiet =
    let below : u.last < p = within named named' p (Some u.number) u.last u.number m g.last in
    record {
      first = kept named named' p (Some u.number) u.first u.number m g.first;
      last = m.here;
      order = (let order = g.order in omega arith);
      together = λ q low high. unsaid changed changed' p None q u.number c (λ e. absurd (cc)) (still q low);
      count = longer_count named named' p u.number u.first u.last u.count m few g.order below quiet g.count;
    }

-- What stands in the list with one group longer: it is that one, or stood there.
record Stood (groups : List Uses) (p at : ℕ) (u : Uses) (j : ℕ) (v : Uses) : Type 0 where
  pub was : Uses
  pub is : slice_get groups j ≡ Some was
  pub first : v.first ≡ was.first
  pub number : v.number ≡ was.number
  pub which : ((j ≡ at) × (was ≡ u) × (v ≡ longer p u)) ⊎ ((j ≢ at) × (v ≡ was))

stood : (groups : List Uses) (p at : ℕ) (u : Uses) (j : ℕ) (v : Uses) → slice_get groups at ≡ Some u → slice_get (slice_set groups at (longer p u)) j ≡ Some v → Stood groups p at u j v
stood groups p at u j v is e = elim (cases_eq j at) [
  | inl same ↦ (
      let now = get_set_same groups at (longer p u) u is in
      let there : slice_get (slice_set groups at (longer p u)) j ≡ Some (longer p u) = ap (slice_get (slice_set groups at (longer p u))) same ∙ now in
      let v_is : v ≡ longer p u = cc in
      record { was = u; is = ap (slice_get groups) same ∙ is; first = ap (λ (w : Uses). w.first) v_is; number = ap (λ (w : Uses). w.number) v_is; which = inl (same, refl, v_is) })
  | inr other ↦ record { was = v; is = sym (get_set_other groups at j (longer p u) other) ∙ e; first = refl; number = refl; which = inr (other, refl) }
]

one_of_longer : (groups : List Uses) (p at : ℕ) (u : Uses) (q k : ℕ) → slice_get groups at ≡ Some u → q < p → IsOneOf groups q k → IsOneOf (slice_set groups at (longer p u)) q k
one_of_longer groups p at u q k is below w = elim (cases_eq w.at at) [
  | inl same ↦ (
      let it = w.is in
      let there : slice_get groups w.at ≡ Some u = ap (slice_get groups) same ∙ is in
      let one : w.group ≡ u = cc in
      record { at = at; group = longer p u; is = get_set_same groups at (longer p u) u is; same = ap (λ (v : Uses). v.number) (sym one) ∙ w.same; from = (let first : w.group.first ≡ u.first = ap (λ (v : Uses). v.first) one in let from = w.from in omega arith); to = omega arith })
  | inr other ↦ record { at = w.at; group = w.group; is = get_set_other groups at w.at (longer p u) other ∙ w.is; same = w.same; from = w.from; to = w.to }
]

-- between the group that is longer now and a later one of its number nothing is called yet
apart_longer : (changed changed' : ℕ → Option ℕ) (p at i j : ℕ) (groups : List Uses) (u v w : Uses) (a : Stood groups p at u i v) (b : Stood groups p at u j w) → More changed changed' p None
    → ((q : ℕ) → u.first ≤ q → changed q ≢ Some u.number) → u.first ≤ u.last → IsBetween changed a.was b.was → IsBetween changed' v w
apart_longer changed changed' p at i j groups u v w a b c still order between = elim a.which [
  | inl one ↦ (
      let last : a.was.last ≡ u.last = ap (λ (x : Uses). x.last) one.1 in
      let above = between.above in
      absurd (still between.place (omega arith) (between.changes ∙ ap (λ (x : Uses). Some x.number) one.1)))
  | inr other ↦ record {
    place = between.place;
    above = (let last : v.last ≡ a.was.last = ap (λ (x : Uses). x.last) other.1 in let above = between.above in omega arith);
    below = (let first = b.first in let below = between.below in omega arith);
    changes = kept changed changed' p None between.place a.was.number c between.changes ∙ ap Some (sym a.number);
  }
]

pub uses_longer : (named named' changed changed' : ℕ → Option ℕ) (p at : ℕ) (groups : List Uses) (u : Uses) → More named named' p (Some u.number) → More changed changed' p None → p < 2 ^ 64 - 1 → AreUses named changed groups
    → slice_get groups at ≡ Some u → ((q : ℕ) → u.first ≤ q → changed q ≢ Some u.number) → ((q : ℕ) → u.last < q → named q ≢ Some u.number) → AreUses named' changed' (slice_set groups at (longer p u))
uses_longer named named' changed changed' p at groups u m c few uses is still quiet = record {
  each = λ i v e. (let s = stood groups p at u i v is e in elim s.which [
    | inl one ↦ subst (λ (w : Uses). IsGroup named' changed' w) (sym one.2) (group_longer named named' changed changed' p u m c few (uses.each at u is) still quiet)
    | inr other ↦ subst (λ (w : Uses). IsGroup named' changed' w) (sym other.1) (group_kept named named' changed changed' p (Some u.number) None s.was m c (uses.each i s.was s.is))
  ]);
  whole = λ q k e. elim (of_more named named' p (Some u.number) q k m e) [
    | inl was ↦ one_of_longer groups p at u q k is (within named named' p (Some u.number) q k m was) (uses.whole q k was)
    | inr new ↦ record {
      at = at;
      group = longer p u;
      is = get_set_same groups at (longer p u) u is;
      same = (let said = new.1 in cc);
      from = (let there = new.0 in let below = within named named' p (Some u.number) u.first u.number m (uses.each at u is).first in omega arith);
      to = (let there = new.0 in omega arith);
    }
  ];
  rising = λ i j v w h iv jw. (let a = stood groups p at u i v is iv in let b = stood groups p at u j w is jw in
      let was = uses.rising i j a.was b.was h a.is b.is in let first = a.first in let second = b.first in omega arith);
  apart = λ i j v w h iv jw same. (let a = stood groups p at u i v is iv in let b = stood groups p at u j w is jw in
      apart_longer changed changed' p at i j groups u v w a b c still (uses.each at u is).order (uses.apart i j a.was b.was h a.is b.is (sym a.number ∙ same ∙ b.number)));
}

pub open_longer : (changed changed' : ℕ → Option ℕ) (p at k : ℕ) (groups : List Uses) (u : Uses) (going : Option ℕ) → More changed changed' p None → slice_get groups at ≡ Some u
    → ((q : ℕ) → u.first ≤ q → changed q ≢ Some u.number) → (u.number ≡ k → going ≡ Some at) → IsOpen changed groups k going → IsOpen changed' (slice_set groups at (longer p u)) k going
open_longer changed changed' p at k groups u None c is still opened ended = λ i v e same. (let s = stood groups p at u i v is e in elim s.which [
  | inl one ↦ absurd (let none = opened (sym (ap (λ (w : Uses). w.number) one.1) ∙ sym s.number ∙ same) in cc)
  | inr other ↦ ended_kept changed changed' p None v c (ended i v (s.is ∙ ap Some (sym other.1)) same)
])
open_longer changed changed' p at k groups u (Some there) c is still opened on = elim (cases_eq there at) [
  | inl same ↦ (
      let it = on.is in
      let here : slice_get groups there ≡ Some u = ap (slice_get groups) same ∙ is in
      let one : on.group ≡ u = cc in
      let number : u.number ≡ k = ap (λ (v : Uses). v.number) (sym one) ∙ on.same in
      record {
        group = longer p u;
        is = ap (slice_get (slice_set groups at (longer p u))) same ∙ get_set_same groups at (longer p u) u is;
        same = number;
        still = λ q low. unsaid changed changed' p None q k c (λ e. absurd (cc)) (λ e. still q low (e ∙ ap Some (sym number)));
      })
  | inr other ↦ record { group = on.group; is = get_set_other groups at there (longer p u) other ∙ on.is; same = on.same; still = λ q low. unsaid changed changed' p None q k c (λ e. absurd (cc)) (on.still q low) }
]
