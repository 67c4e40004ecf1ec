-- What the tests of a group tell.
use Rattle.std.proofs.Common.{◌≡◌, ◌≤◌, ◌<◌, ℕ, ◌+◌, ◌==◌, ◌&&◌, ◌||◌, ◌∙◌, Bool, true, false, List, [], ◌∷◌, nat_le, length, take, drop, refl, ap, arith, Option, Some, None, IfSome, eqb, option_map, rules, if◌then◌else◌}
use Rattle.std.proofs.lemmas.Grind.{common_steps}
use Rattle.std.proofs.lemmas.List.Elements.{All-from_recursion, All-head, All-tail}
use Rattle.std.proofs.lemmas.Map.Keys.{IsDistinct-cons}
use Rattle.std.proofs.lemmas.Map.Steps.{length-le_from_distinct_below}
use Rattle.std.specs.List.{All, AllByRecursion, IsDistinct, list_any, range_with_len}
use Rattle.mpi_model.specs.declared.object.Object.{Object}
use Rattle.mpi_model.specs.declared.object.Object.TheVariants.{Communicator as a_communicator, Window, File}
use Rattle.mpi_model.specs.Kinds.{object_number}
use Rattle.mpi_model.specs.Communicators.{Communicator, first_group, has_double, is_among, is_inter, local_group, members_of, second_group}
use Rattle.mpi_model.specs.Layouts.{IsGroup, counts_from, has_double_member, has_stranger, is_empty_group, is_some_communicator, is_some_whole, is_whole}

pub or_false : (a b : Bool) → (a || b) ≡ false → (a ≡ false) × (b ≡ false)
or_false true b h = cc
or_false false b h = (refl, h)

pub and_true : (a b : Bool) → (a && b) ≡ true → (a ≡ true) × (b ≡ true)
and_true true b h = (refl, h)
and_true false b h = cc

apart : (x : ℕ) (xs : List ℕ) → list_any (λ y. y == x) xs ≡ false → AllByRecursion (λ y. eqb x y ≡ false) xs
apart x [] h = search rules
apart x (y ∷ ys) h =
    let parts = or_false (y == x) (list_any (λ z. z == x) ys) h in
    let differ : (y == x) ≡ false = parts.0 in
    let first : eqb x y ≡ false = grind (arith, common_steps) in
    (first, apart x ys parts.1)

pub distinct : (xs : List ℕ) → has_double xs ≡ false → IsDistinct eqb xs
unfolding IsDistinct
distinct [] h = search rules
distinct (x ∷ xs) h =
    let parts = or_false (list_any (λ y. y == x) xs) (has_double xs) h in
    IsDistinct-cons eqb x xs (apart x xs parts.0) (distinct xs parts.1)

each_below : (n : ℕ) (xs : List ℕ) → has_stranger n xs ≡ false → AllByRecursion (λ r. r < n) xs
each_below n [] h = search rules
each_below n (x ∷ xs) h =
    let parts = or_false (nat_le n x) (has_stranger n xs) h in
    let low : nat_le n x ≡ false = parts.0 in
    let first : x < n = grind (arith, common_steps) in
    (first, each_below n xs parts.1)

group_of : (ranks : ℕ) (g : Communicator) → is_empty_group g ≡ false → has_stranger ranks g.members ≡ false → has_double_member g ≡ false → IsGroup ranks g.members
group_of ranks g full range single =
    record {
      some = grind (arith, common_steps, full);
      in_range = All-from_recursion (λ r. r < ranks) g.members (each_below ranks g.members range);
      distinct = distinct g.members single;
    }

each_group : (ranks : ℕ) (gs : List Communicator) → list_any is_empty_group gs ≡ false → list_any (λ g. has_stranger ranks g.members) gs ≡ false
    → list_any has_double_member gs ≡ false → AllByRecursion (λ g. IsGroup ranks g.members) gs
each_group ranks [] full range single = search rules
each_group ranks (g ∷ gs) full range single =
    let a = or_false (is_empty_group g) (list_any is_empty_group gs) full in
    let b = or_false (has_stranger ranks g.members) (list_any (λ g. has_stranger ranks g.members) gs) range in
    let c = or_false (has_double_member g) (list_any has_double_member gs) single in
    (group_of ranks g a.0 b.0 c.0, each_group ranks gs a.1 b.1 c.1)

pub all_groups : (ranks : ℕ) (gs : List Communicator) → list_any is_empty_group gs ≡ false → list_any (λ g. has_stranger ranks g.members) gs ≡ false
    → list_any has_double_member gs ≡ false → All (λ g. IsGroup ranks g.members) gs
all_groups ranks gs full range single = All-from_recursion (λ g. IsGroup ranks g.members) gs (each_group ranks gs full range single)

-- what a number names is a group
pub named_group : (ranks : ℕ) (gs : List Communicator) (n : ℕ) → All (λ g. IsGroup ranks g.members) gs → IfSome (members_of gs n) (IsGroup ranks)
named_group ranks [] n all = search rules
named_group ranks (g ∷ gs) n all =
    step (g.comm == n) refl (All-head (λ g. IsGroup ranks g.members) g gs all) (named_group ranks gs n (All-tail (λ g. IsGroup ranks g.members) g gs all))
  where
    step : (t : Bool) → (g.comm == n) ≡ t → IsGroup ranks g.members → IfSome (members_of gs n) (IsGroup ranks) → IfSome (members_of (g ∷ gs) n) (IsGroup ranks)
    step true e here rest = rw e here
    step false e here rest = rw e rest

member_below : (n : ℕ) (xs : List ℕ) → All (λ r. r < n) xs → (q : ℕ) → list_any (eqb q) xs ≡ true → q < n
member_below n [] all q has = cc
member_below n (x ∷ xs) all q has = step (eqb q x) refl has (member_below n xs (All-tail (λ r. r < n) x xs all) q)
  where
    step : (t : Bool) → eqb q x ≡ t → (t || list_any (eqb q) xs) ≡ true → (list_any (eqb q) xs ≡ true → q < n) → q < n
    step true e has rest =
        let low : x < n = All-head (λ r. r < n) x xs all in
        grind (arith, common_steps)
    step false e has rest = rest has

-- A group has no more members than the run has ranks.
pub small_group : (ranks : ℕ) (members : List ℕ) → IsGroup ranks members → length members ≤ ranks
small_group ranks members g = length-le_from_distinct_below members ranks g.distinct (member_below ranks members g.in_range)

short_front : (n : ℕ) (xs : List ℕ) → length (take n xs) ≤ length xs
short_front n xs = grind (arith, common_steps)

short_rest : (n : ℕ) (xs : List ℕ) → length (drop n xs) ≤ length xs
short_rest n xs = grind (arith, common_steps)

-- The group of an intercommunicator in which a rank is has no more members than both groups.
pub small_side : (rank : ℕ) (g : Communicator) → length (local_group rank g) ≤ length g.members
small_side rank g = by (is_inter g) (is_among rank (first_group g))
  where
    by : (two first : Bool) → length (if two then (if first then first_group g else second_group g) else g.members) ≤ length g.members
    by true true = short_front _ g.members
    by true false = short_rest _ g.members
    by false first = omega arith

counted : (first : ℕ) (xs : List ℕ) → counts_from first xs ≡ true → xs ≡ range_with_len first (length xs)
counted first [] h = refl
counted first (x ∷ xs) h =
    let parts = and_true (x == first) (counts_from (first + 1) xs) h in
    let here : (x == first) ≡ true = parts.0 in
    let same : x ≡ first = grind (arith, common_steps) in
    let rest : xs ≡ range_with_len (first + 1) (length xs) = counted (first + 1) xs parts.1 in
    cc

all_ranks : (ranks : ℕ) (members : List ℕ) → is_whole ranks members ≡ true → members ≡ range_with_len 0 ranks
all_ranks ranks members h =
    let parts = and_true (length members == ranks) (counts_from 0 members) h in
    let long : (length members == ranks) ≡ true = parts.0 in
    let same : length members ≡ ranks = grind (arith, common_steps) in
    counted 0 members parts.1 ∙ ap (range_with_len 0) same

pub whole_world : (ranks : ℕ) (named : Option (List ℕ)) → is_some_whole ranks named ≡ true → named ≡ Some (range_with_len 0 ranks)
whole_world ranks None h = cc
whole_world ranks (Some members) h = ap Some (all_ranks ranks members h)

-- a sort of the number of communicators is that of communicators
communicator_is : (object : Object) → (object_number object == object_number a_communicator) ≡ true → object ≡ a_communicator
communicator_is a_communicator h = refl
communicator_is Window h = cc
communicator_is File h = cc

pub communicator_world : (named : Option Object) → is_some_communicator named ≡ true → named ≡ Some a_communicator
communicator_world None h = cc
communicator_world (Some object) h = ap Some (communicator_is object h)

-- what holds of the value that is shown holds of what shows it
pub under_map : {X Y : Type 0} (f : X → Y) (P : Y → Type 0) (o : Option X) (m : Option Y) → option_map f o ≡ m → IfSome m P → IfSome o (λ x. P (f x))
under_map f P None m e h = search rules
under_map f P (Some x) None e h = cc
under_map f P (Some x) (Some y) e h = let same : f x ≡ y = cc in rw same h
