-- What stands at a key, as a member comes.
use Rattle.std.proofs.Common.{◌≡◌, Bool, true, false, ◌&&◌, ◌||◌, Option, Some, None, sym, refl, ◌∙◌, ap, cond, subst}
use Rattle.std.specs.declared.cmp.Ordering.{Ordering}
use Rattle.std.specs.declared.cmp.Ordering.TheVariants.{Equal}
use Rattle.std.specs.Ordering.{is_eq}
use Rattle.std.specs.Cmp.{IsTotalOrder}
use Rattle.std.specs.Option.{IsSome}
use Rattle.std.specs.BTreeMap.{BTreeMap, get, get_by, WritesThrough}
use Rattle.std.specs.BTreeSet.{BTreeSet, contains}
use Rattle.trace_pair.specs.Groups.{holds, has}

or_none : (b : Bool) → (b || false) ≡ b
or_none true = refl
or_none false = refl

pub says_equal : (o : Ordering) → is_eq o ≡ true → o ≡ Equal
says_equal Equal h = refl
says_equal _ h = absurd (cc)

-- equal keys have one value
pub at_equal : {K X : Type 0} {cmp : K → K → Ordering} → IsTotalOrder cmp → (m : BTreeMap K X) (key k : K) → cmp key k ≡ Equal → get cmp m key ≡ get cmp m k
at_equal keys m key k e = λ i. get_by (λ x. keys.congr key k x e i) m

-- at the key stands v now
abbrev Puts : {K T : Type 0} → (K → K → Ordering) → BTreeMap K (BTreeSet T) → BTreeMap K (BTreeSet T) → K → BTreeSet T → Type 0
Puts {K} {T} cmp old new key v = (k : K) → get cmp new k ≡ cond (is_eq (cmp key k)) (Some v) (get cmp old k)

module _ {K T : Type 0} {cmp : K → K → Ordering} (order : T → T → Ordering) (keys : IsTotalOrder cmp) (old new : BTreeMap K (BTreeSet T)) (key : K) (v : BTreeSet T) (puts : Puts cmp old new key v) where
  -- v has what stood there and x
  put_more : (x : T) → ((d : T) → contains order v d ≡ (is_eq (order x d) || holds order (get cmp old key) d)) →
      (k : K) (d : T) → has cmp order new k d ≡ ((is_eq (cmp key k) && is_eq (order x d)) || has cmp order old k d)
  put_more x more k d =
      ap (λ (g : Option (BTreeSet T)). holds order g d) (puts k) ∙ (elim (is_eq (cmp key k)) as (λ b. is_eq (cmp key k) ≡ b → holds order (cond b (Some v) (get cmp old k)) d ≡ ((b && is_eq (order x d)) || has cmp order old k d)) [
        | true ↦ λ h. more d ∙ ap (λ (g : Option (BTreeSet T)). is_eq (order x d) || holds order g d) (at_equal keys old key k (says_equal (cmp key k) h))
        | false ↦ λ h. refl
      ] refl)

  -- nothing stood there, and v has x alone
  pub put_first : (x : T) → get cmp old key ≡ None → ((d : T) → contains order v d ≡ is_eq (order x d)) →
      (k : K) (d : T) → has cmp order new k d ≡ ((is_eq (cmp key k) && is_eq (order x d)) || has cmp order old k d)
  put_first x none alone = put_more x
      (λ d. alone d ∙ sym (ap (λ (g : Option (BTreeSet T)). is_eq (order x d) || holds order g d) none ∙ or_none (is_eq (order x d))))

  -- v has what stood there
  put_same : ((d : T) → contains order v d ≡ holds order (get cmp old key) d) → (k : K) (d : T) → has cmp order new k d ≡ has cmp order old k d
  put_same same k d =
      ap (λ (g : Option (BTreeSet T)). holds order g d) (puts k) ∙ (elim (is_eq (cmp key k)) as (λ b. is_eq (cmp key k) ≡ b → holds order (cond b (Some v) (get cmp old k)) d ≡ has cmp order old k d) [
        | true ↦ λ h. same d ∙ ap (λ (g : Option (BTreeSet T)). holds order g d) (at_equal keys old key k (says_equal (cmp key k) h))
        | false ↦ λ h. refl
      ] refl)

-- what `get_mut` lent at a key, where s stood, is v now
module _ {K T : Type 0} {cmp : K → K → Ordering} (order : T → T → Ordering) (keys : IsTotalOrder cmp) (old new : BTreeMap K (BTreeSet T)) (key : K) (s v : BTreeSet T)
    (stood : Some s ≡ get cmp old key) (written : WritesThrough cmp (cmp key) old v new) where
  puts : Puts cmp old new key v
  puts = (written.3 (subst (λ (g : Option (BTreeSet T)). IsSome g) stood refl)).0

  pub write_more : (x : T) → ((d : T) → contains order v d ≡ (is_eq (order x d) || contains order s d)) →
      (k : K) (d : T) → has cmp order new k d ≡ ((is_eq (cmp key k) && is_eq (order x d)) || has cmp order old k d)
  write_more x more = put_more order keys old new key v puts x (λ d. more d ∙ ap (λ (g : Option (BTreeSet T)). is_eq (order x d) || holds order g d) stood)

  pub write_same : ((d : T) → contains order v d ≡ contains order s d) → (k : K) (d : T) → has cmp order new k d ≡ has cmp order old k d
  write_same same = put_same order keys old new key v puts (λ d. same d ∙ ap (λ (g : Option (BTreeSet T)). holds order g d) stood)
