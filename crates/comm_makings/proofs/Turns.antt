-- How many calls of MPI_Comm_create_group of one member name the same.
use Rattle.std.proofs.Common.{◌≡◌, ◌≢◌, ◌+◌, ◌<◌, ◌≤◌, ◌-◌, ◌++◌, ℕ, zero, suc, ℤ, List, [], ◌∷◌, Some, get_or, length, map, take, Fits, w64, ap, ◌∙◌, sym, subst, inl, inr, refl, arith}
use Rattle.std.specs.List.{slice_get}
use Rattle.std.proofs.lemmas.Bool.{cases_lt}
use Rattle.std.proofs.lemmas.List.{length-map}
use Rattle.std.proofs.lemmas.Option.{get_or_from_slice_get, slice_get-get_or, slice_get_within}
use Rattle.comm_makings.specs.ByGroups.{AreCounted, key_of}
use Rattle.comm_makings.specs.GroupKeys.{GroupKey, Times, key_with}
use Rattle.comm_makings.specs.declared.by_groups.Offer.{Offer}
use Rattle.comm_makings.proofs.Lists.{get_more}

-- From a place on no call names this.
pub record NoneFrom (own : List Offer) (key : GroupKey) (at : ℕ) : Type 0 where
  pub each : (k : ℕ) (offer : Offer) → slice_get own k ≡ Some offer → at ≤ k → key_of offer ≢ key

times_none : (key : GroupKey) (own : List Offer) → ((k : ℕ) (offer : Offer) → slice_get own k ≡ Some offer → key_of offer ≢ key) → Times key (map key_of own) 0
times_none key [] none = refl
times_none key (one ∷ own) none = inr (none zero one refl, times_none key own (λ k offer e. none (suc k) offer e))

-- those before the last that names it, and that one
times_at : (key : GroupKey) (own : List Offer) (at count : ℕ) (last : Offer) → slice_get own at ≡ Some last → key_of last ≡ key → Times key (map key_of (take at own)) count
    → ((k : ℕ) (offer : Offer) → slice_get own k ≡ Some offer → at < k → key_of offer ≢ key) → Times key (map key_of own) (count + 1)
times_at key [] at count last e is times none = absurd (cc)
times_at key (one ∷ own) zero count last e is times none =
    let same : one ≡ last = cc in
    inl (ap key_of same ∙ is, (count, refl, subst (Times key (map key_of own)) (sym times) (times_none key own (λ k offer f. none (suc k) offer f (omega arith)))))
times_at key (one ∷ own) (suc at) count last e is times none =
    let later : (k : ℕ) (offer : Offer) → slice_get own k ≡ Some offer → at < k → key_of offer ≢ key = λ k offer f past. none (suc k) offer f (omega arith) in
    elim times [
      | inl first ↦ inl (first.0, (first.1.0 + 1, ap (λ (n : ℕ). n + 1) first.1.1, times_at key own at first.1.0 last e is first.1.2 later))
      | inr other ↦ inr (other.0, times_at key own at count last e is other.1 later)
    ]

pub times_le : (key : GroupKey) (keys : List GroupKey) (count : ℕ) → Times key keys count → count ≤ length keys
times_le key [] count times = omega arith
times_le key (one ∷ keys) count times = elim times [
  | inl first ↦ let fewer = times_le key keys first.1.0 first.1.2 in omega arith
  | inr other ↦ let fewer = times_le key keys count other.1 in omega arith
]

-- the last that names it says how many do before it
pub times_last : (key : GroupKey) (own : List Offer) (at : ℕ) (last : Offer) → AreCounted own → slice_get own at ≡ Some last → key_of last ≡ key → NoneFrom own key (at + 1)
    → Times key (map key_of own) (last.turn + 1)
times_last key own at last counted e is none =
    times_at key own at last.turn last e is (subst (λ (one : GroupKey). Times one (map key_of (take at own)) last.turn) is (counted.each at last e))
    (λ k offer f past. none.each k offer f (omega arith))

pub times_no : (key : GroupKey) (own : List Offer) (at : ℕ) → at ≤ 0 → NoneFrom own key at → Times key (map key_of own) 0
times_no key own at first none = times_none key own (λ k offer e. none.each k offer e (omega arith))

-- what stands before an element
pub length_before : (own : List Offer) (k : ℕ) (offer : Offer) → slice_get own k ≡ Some offer → length (take k own) ≡ k
length_before [] k offer e = absurd (cc)
length_before (one ∷ own) zero offer e = refl
length_before (one ∷ own) (suc k) offer e = ap suc (length_before own k offer e)

before_more : (own : List Offer) (offer : Offer) (k : ℕ) (one : Offer) → slice_get own k ≡ Some one → take k (own ++ offer ∷ []) ≡ take k own
before_more [] offer k one e = absurd (cc)
before_more (first ∷ own) offer zero one e = refl
before_more (first ∷ own) offer (suc k) one e = ap (λ (l : List Offer). first ∷ l) (before_more own offer k one e)

before_last : (own : List Offer) (offer : Offer) → take (length own) (own ++ offer ∷ []) ≡ own
before_last [] offer = refl
before_last (first ∷ own) offer = ap (λ (l : List Offer). first ∷ l) (before_last own offer)

pub counted_more : (own : List Offer) (offer : Offer) → AreCounted own → Times (key_of offer) (map key_of own) offer.turn → AreCounted (own ++ offer ∷ [])
counted_more own offer are times = record {
  each = λ k one e. elim (get_more own offer k one e) [
    | inl before ↦
        subst (λ (l : List Offer). Times (key_of one) (map key_of l) one.turn) (sym (before_more own offer k one before)) (are.each k one before)
    | inr is ↦
        subst (λ (n : ℕ). Times (key_of one) (map key_of (take n (own ++ offer ∷ []))) one.turn) (sym is.0)
        (subst (λ (l : List Offer). Times (key_of one) (map key_of l) one.turn) (sym (before_last own offer))
        (subst (λ (o : Offer). Times (key_of o) (map key_of own) o.turn) (sym is.1) times))
  ];
}

-- the call before a place, behind which none names this
pub turn_is : (group : List ℕ) (tag : ℤ) (own : List Offer) (behind : ℕ) (d : Offer) → AreCounted own → 0 < behind → behind ≤ length own
    → ((get_or own (behind - 1) d).ranks.now ≡ group) × ((get_or own (behind - 1) d).tag ≡ tag) → NoneFrom own (key_with group tag) behind
    → Times (key_with group tag) (map key_of own) ((get_or own (behind - 1) d).turn + 1)
turn_is group tag own behind d counted some within is none =
    let at : behind - 1 + 1 ≡ behind = omega arith in
    times_last (key_with group tag) own (behind - 1) (get_or own (behind - 1) d) counted (slice_get-get_or own (behind - 1) d (omega arith))
    (ap (λ (g : List ℕ). key_with g (get_or own (behind - 1) d).tag) is.0 ∙ ap (key_with group) is.1)
    (subst (NoneFrom own (key_with group tag)) (sym at) none)

pub turn_fits : (own : List Offer) (behind : ℕ) (d : Offer) → AreCounted own → 0 < behind → behind ≤ length own → Fits w64 behind
    → Fits w64 ((get_or own (behind - 1) d).turn + 1)
turn_fits own behind d counted some within fits =
    let here : slice_get own (behind - 1) ≡ Some (get_or own (behind - 1) d) = slice_get-get_or own (behind - 1) d (omega arith) in
    let fewer = times_le (key_of (get_or own (behind - 1) d)) (map key_of (take (behind - 1) own)) (get_or own (behind - 1) d).turn (counted.each (behind - 1) (get_or own (behind - 1) d) here) in
    let many = length_before own (behind - 1) (get_or own (behind - 1) d) here in
    let same : length (map key_of (take (behind - 1) own)) ≡ length (take (behind - 1) own) = length-map (take (behind - 1) own) key_of in
    omega arith

pub none_behind : (own : List Offer) (key : GroupKey) → NoneFrom own key (length own)
none_behind own key = record { each = λ k offer e past. absurd (let within = slice_get_within own k offer e in omega arith) }

pub none_more : (own : List Offer) (group : List ℕ) (tag : ℤ) (behind : ℕ) (d : Offer) → 0 < behind → behind ≤ length own → NoneFrom own (key_with group tag) behind
    → (((get_or own (behind - 1) d).ranks.now ≡ group) × ((get_or own (behind - 1) d).tag ≡ tag) → ⊥) → NoneFrom own (key_with group tag) (behind - 1)
none_more own group tag behind d some within none other = record {
  each = λ k offer e past. elim (cases_lt k behind) [
    | inl less ↦ λ is.
        let at : k ≡ behind - 1 = omega arith in
        let one : get_or own (behind - 1) d ≡ offer = get_or_from_slice_get own (behind - 1) offer d (ap (slice_get own) (sym at) ∙ e) in
        other (ap (λ (o : Offer). o.ranks.now) one ∙ ap (λ (key : GroupKey). key.group) is, ap (λ (o : Offer). o.tag) one ∙ ap (λ (key : GroupKey). key.tag) is)
    | inr past ↦ none.each k offer e past
  ];
}
