-- Things under their keys, as a key or a thing comes.
use Rattle.std.proofs.Common.{◌≡◌, ◌∙◌, ◌==◌, ◌&&◌, ◌||◌, ◌++◌, ℕ, Bool, true, false, not, cond, Option, Some, None, List, [], take, map, filter, refl, sym, ap, subst}
use Rattle.std.specs.Prelude.{is_some}
use Rattle.std.specs.declared.cmp.Ordering.{Ordering}
use Rattle.std.specs.declared.cmp.Ordering.TheVariants.{Equal}
use Rattle.std.specs.Ordering.{is_eq}
use Rattle.std.specs.Option.{IsSome}
use Rattle.std.specs.BTreeMap.{BTreeMap, WritesThrough, get, get_by}
use Rattle.trace_wait.specs.Patterns.{Pattern, pattern_cmp, same_pattern}
use Rattle.trace_diagnosis.specs.Fewest.{AddsThing, has_other, only_if, others}
use Rattle.trace_diagnosis.specs.Shelves.{IsBare, MakesKey, PutsThing, others_at, things_of}
use Rattle.trace_diagnosis.specs.declared.few.Placed.{Placed}
use Rattle.trace_diagnosis.specs.declared.shelf.Shelf.{Shelf}
use Rattle.trace_diagnosis.proofs.Alike.{pattern_same, patterns_total}
use Rattle.trace_diagnosis.proofs.Fewest.{cut_same}

says_equal : (o : Ordering) → is_eq o ≡ true → o ≡ Equal
says_equal Equal h = refl
says_equal _ h = absurd (cc)

-- equal keys have one value
at_equal : (m : BTreeMap Pattern (List Placed)) (key k : Pattern) → is_eq (pattern_cmp key k) ≡ true → get pattern_cmp m key ≡ get pattern_cmp m k
at_equal m key k e = λ i. get_by (λ x. patterns_total.congr key k x (says_equal (pattern_cmp key k) e) i) m

none_of : {X : Type 0} (o : Option X) → is_some o ≡ false → o ≡ None
none_of None e = refl
none_of (Some x) e = absurd (cc (e))

abbrev Things : Type 0
Things = BTreeMap Pattern (List Placed)

abbrev pub shelf_of : Things → Shelf
shelf_of m = record { things = m }

-- at the key these things stand now
abbrev pub Sets : Pattern → List Placed → Things → Things → Type 0
Sets key things old new = (k : Pattern) → get pattern_cmp new k ≡ cond (is_eq (pattern_cmp key k)) (Some things) (get pattern_cmp old k)

pub key_made : (key : Pattern) (old new : Things) (v : List Placed) → v ≡ [] → is_some (get pattern_cmp old key) ≡ false → Sets key v old new → get pattern_cmp new key ≡ Some v → MakesKey key (shelf_of old) (shelf_of new)
key_made key old new v nothing absent sets there = record {
  there = ap is_some there;
  kept = λ k has. ap is_some (sets k) ∙ stays (is_eq (pattern_cmp key k)) (get pattern_cmp old k) has;
  same = λ k w. ap (λ o. others (things_of o) w) (sets k) ∙ (elim (is_eq (pattern_cmp key k)) as (λ b. is_eq (pattern_cmp key k) ≡ b → others (things_of (cond b (Some v) (get pattern_cmp old k))) w ≡ others (things_of (get pattern_cmp old k)) w) [
    | true ↦ λ h. ap (λ l. others l w) nothing ∙ ap (λ o. others (things_of o) w) (sym (none_of (get pattern_cmp old key) absent) ∙ at_equal old key k h)
    | false ↦ λ h. refl
  ] refl);
}
  where
    stays : (b : Bool) (o : Option (List Placed)) → is_some o ≡ true → is_some (cond b (Some v) o) ≡ true
    stays true o e = refl
    stays false o e = e

pub key_there : (key : Pattern) (old : Things) → is_some (get pattern_cmp old key) ≡ true → MakesKey key (shelf_of old) (shelf_of old)
key_there key old there = record { there = there; kept = λ k has. has; same = λ k v. refl }

pub again : (old : Shelf) (k : Pattern) (w : ℕ) → others_at old k w ≡ take 3 (others_at old k w ++ [])
again old k w = cut_same 3 (map (λ (t : Placed). t.place) (filter (has_other w) (things_of (get pattern_cmp old.things k))))

-- what was written at the key where things stood
pub thing_put : (key : Pattern) (value place : ℕ) (old new : Things) (s v : List Placed) → Some s ≡ get pattern_cmp old key → WritesThrough pattern_cmp (pattern_cmp key) old v new → AddsThing value place s v
    → PutsThing key value place (shelf_of old) (shelf_of new)
thing_put key value place old new s v stood written adds = record {
  kept = λ k. ap is_some (sets k) ∙ (elim (is_eq (pattern_cmp key k)) as (λ b. is_eq (pattern_cmp key k) ≡ b → is_some (cond b (Some v) (get pattern_cmp old k)) ≡ is_some (get pattern_cmp old k)) [
    | true ↦ λ h. ap is_some (stood ∙ at_equal old key k h)
    | false ↦ λ h. refl
  ] refl);
  more = λ k w has. ap (λ o. others (things_of o) w) (sets k) ∙ (elim (is_eq (pattern_cmp key k)) as (λ b. is_eq (pattern_cmp key k) ≡ b →
      others (things_of (cond b (Some v) (get pattern_cmp old k))) w ≡ take 3 (others (things_of (get pattern_cmp old k)) w ++ only_if (same_pattern key k && not (value == w)) place)) [
        | true ↦ λ h. adds w ∙ ap (λ o. take 3 (others (things_of o) w ++ only_if (not (value == w)) place)) (stood ∙ at_equal old key k h)
            ∙ ap (λ b. take 3 (others (things_of (get pattern_cmp old k)) w ++ only_if (b && not (value == w)) place)) (sym (sym (pattern_same key k) ∙ h))
        | false ↦ λ h. again (shelf_of old) k w ∙ ap (λ b. take 3 (others (things_of (get pattern_cmp old k)) w ++ only_if (b && not (value == w)) place)) (sym (sym (pattern_same key k) ∙ h))
      ] refl);
}
  where
    sets : Sets key v old new
    sets = (written.3 (subst (λ (g : Option (List Placed)). IsSome g) stood refl)).0

-- no thing was put where there is no place
pub none_put : (key : Pattern) (value place : ℕ) (old new : Things) → None ≡ get pattern_cmp old key → new ≡ old → PutsThing key value place (shelf_of old) (shelf_of new)
none_put key value place old new none same = subst (λ (m : Things). PutsThing key value place (shelf_of old) (shelf_of m)) (sym same) (record {
  kept = λ k. refl;
  more = λ k w has. again (shelf_of old) k w
      ∙ ap (λ b. take 3 (others (things_of (get pattern_cmp old k)) w ++ only_if (b && not (value == w)) place)) (sym (sym (pattern_same key k) ∙ apart k (ap (λ o. is_some o || is_some (get pattern_cmp old k)) none ∙ has)));
})
  where
    apart : (k : Pattern) → is_some (get pattern_cmp old k) ≡ true → is_eq (pattern_cmp key k) ≡ false
    apart k has = elim (is_eq (pattern_cmp key k)) as (λ b. is_eq (pattern_cmp key k) ≡ b → b ≡ false) [
      | true ↦ λ h. let e : is_some (get pattern_cmp old k) ≡ false = sym (ap is_some (none ∙ at_equal old key k h)) in absurd (cc (e, has))
      | false ↦ λ h. refl
    ] refl

pub nothing_at : (shelf : Shelf) → ((k : Pattern) → get pattern_cmp shelf.things k ≡ None) → IsBare shelf
nothing_at shelf none = λ k v. ap (λ o. others (things_of o) v) (none k)
