-- The shape of a condition that was just made.
use Rattle.std.proofs.Common.{Vec, Global, ◌≡◌, ℕ, zero, suc, ◌<◌, Bool, List, [], ◌∷◌, ◌++◌, IsTrue, map, length, get_or, refl, sym, ◌∙◌, ap, arith}
use Rattle.std.specs.declared.sync.Arc.{Arc}
use Rattle.trace_stuck.specs.declared.condition.Condition.{Condition}
use Rattle.trace_stuck.specs.declared.condition.RoundName.{RoundName}
use Rattle.trace_stuck.specs.declared.condition.Condition.TheOpen.{Rank, All, One, OneRank, AllRanks, Mismatched}
use Rattle.trace_stuck.specs.declared.condition.Condition.TheFolds.{fold-roll-Condition}
use Rattle.trace_stuck.specs.declared.condition.Condition.TheViews as views
use Rattle.trace_stuck.specs.Shape.{Wait, Waits, OnRank, OnAll, OnOne, OnMismatched, waits_of, shape_step, shape}

pub shape_Rank : (r : ℕ) → shape (views.made-Rank r) ≡ OnRank r
shape_Rank r = ap shape (sym (views.rolls-Rank r)) ∙ fold-roll-Condition Wait shape_step (Rank r)

pub shape_All : (parts : Vec Condition Global) → shape (views.All parts) ≡ OnAll (waits_of (map shape parts.items))
shape_All parts = ap shape (sym (views.rolls-All parts)) ∙ fold-roll-Condition Wait shape_step (All parts)

pub shape_One : (parts : Vec Condition Global) → shape (views.One parts) ≡ OnOne (waits_of (map shape parts.items))
shape_One parts = ap shape (sym (views.rolls-One parts)) ∙ fold-roll-Condition Wait shape_step (One parts)

pub shape_OneRank : (ranks : Arc (Vec ℕ Global) Global) → shape (views.made-OneRank ranks) ≡ OnOne (waits_of (map OnRank ranks.value.items))
shape_OneRank ranks = ap shape (sym (views.rolls-OneRank ranks)) ∙ fold-roll-Condition Wait shape_step (OneRank ranks)

pub shape_AllRanks : (ranks : Arc (Vec ℕ Global) Global) → shape (views.made-AllRanks ranks) ≡ OnAll (waits_of (map OnRank ranks.value.items))
shape_AllRanks ranks = ap shape (sym (views.rolls-AllRanks ranks)) ∙ fold-roll-Condition Wait shape_step (AllRanks ranks)

pub shape_Mismatched : (first : RoundName) → shape (views.made-Mismatched first) ≡ OnMismatched first
shape_Mismatched first = ap shape (sym (views.rolls-Mismatched first)) ∙ fold-roll-Condition Wait shape_step (Mismatched first)

pub map_push : {X Y : Type 0} (f : X → Y) (xs : List X) (x : X) → map f (xs ++ x ∷ []) ≡ map f xs ++ f x ∷ []
map_push f [] x = refl
map_push {Y = Y} f (y ∷ ys) x = ap (λ (l : List Y). f y ∷ l) (map_push f ys x)

pub ruleset shapes = (shape_Rank, shape_All, shape_One, shape_OneRank, shape_AllRanks, shape_Mismatched, map_push)

-- parts are known by the list that they make
one_waits : (xs ys : List Wait) → waits_of xs ≡ waits_of ys → xs ≡ ys
one_waits [] [] h = refl
one_waits [] (y ∷ ys) h = absurd (cc)
one_waits (x ∷ xs) [] h = absurd (cc)
one_waits (x ∷ xs) (y ∷ ys) h =
    let a : x ≡ y = cc in
    let b : waits_of xs ≡ waits_of ys = cc in
    let rest = one_waits xs ys b in
    cc (a, rest)

-- ranks are known by the parts that they make
one_ranks : (xs ys : List ℕ) → map OnRank xs ≡ map OnRank ys → xs ≡ ys
one_ranks [] [] h = refl
one_ranks [] (y ∷ ys) h = absurd (cc)
one_ranks (x ∷ xs) [] h = absurd (cc)
one_ranks (x ∷ xs) (y ∷ ys) h =
    let a : OnRank x ≡ OnRank y = cc in
    let i : x ≡ y = cc in
    let b : map OnRank xs ≡ map OnRank ys = cc in
    let rest = one_ranks xs ys b in
    cc (i, rest)

-- a test of the parts is a test of the whole
module _ (first second : Condition) (parts others : Vec Condition Global) (xs ys : List Condition) (x_is : xs ≡ parts.items) (y_is : ys ≡ others.items)
    (b : Bool) (test : (IsTrue b → map shape xs ≡ map shape ys) × (map shape xs ≡ map shape ys → IsTrue b)) where
  lists : map shape xs ≡ map shape ys → map shape parts.items ≡ map shape others.items
  lists h = ap (map shape) (sym x_is) ∙ h ∙ ap (map shape) y_is

  back : map shape parts.items ≡ map shape others.items → map shape xs ≡ map shape ys
  back h = ap (map shape) x_is ∙ h ∙ ap (map shape) (sym y_is)

  pub same_all : first ≡ views.All parts → second ≡ views.All others → (IsTrue b → shape first ≡ shape second) × (shape first ≡ shape second → IsTrue b)
  same_all f s = (
    λ h. ap shape f ∙ shape_All parts ∙ ap (λ (l : List Wait). OnAll (waits_of l)) (lists (test.0 h)) ∙ sym (shape_All others) ∙ sym (ap shape s),
    λ h.
        let e : OnAll (waits_of (map shape parts.items)) ≡ OnAll (waits_of (map shape others.items)) = sym (shape_All parts) ∙ sym (ap shape f) ∙ h ∙ ap shape s ∙ shape_All others in
        let w : waits_of (map shape parts.items) ≡ waits_of (map shape others.items) = cc in
        test.1 (back (one_waits (map shape parts.items) (map shape others.items) w)),
  )

  pub same_one : first ≡ views.One parts → second ≡ views.One others → (IsTrue b → shape first ≡ shape second) × (shape first ≡ shape second → IsTrue b)
  same_one f s = (
    λ h. ap shape f ∙ shape_One parts ∙ ap (λ (l : List Wait). OnOne (waits_of l)) (lists (test.0 h)) ∙ sym (shape_One others) ∙ sym (ap shape s),
    λ h.
        let e : OnOne (waits_of (map shape parts.items)) ≡ OnOne (waits_of (map shape others.items)) = sym (shape_One parts) ∙ sym (ap shape f) ∙ h ∙ ap shape s ∙ shape_One others in
        let w : waits_of (map shape parts.items) ≡ waits_of (map shape others.items) = cc in
        test.1 (back (one_waits (map shape parts.items) (map shape others.items) w)),
  )

pub one_of : (x y : Waits) → OnOne x ≡ OnOne y → x ≡ y
one_of x y h = cc

pub all_of : (x y : Waits) → OnAll x ≡ OnAll y → x ≡ y
all_of x y h = cc

-- A test of a list of ranks is a test of the whole, whether the ranks stand as parts or as a list, and whether one or
-- all of them are waited for.
module _ (on : Waits → Wait) (same_on : (x y : Waits) → on x ≡ on y → x ≡ y) (first second : Condition) (b : Bool) where
  pub same_parts_ranks : (parts : List Condition) (ranks : List ℕ) (xs : List Condition) (ys : List ℕ) → xs ≡ parts → ys ≡ ranks →
      (test : (IsTrue b → map shape xs ≡ map OnRank ys) × (map shape xs ≡ map OnRank ys → IsTrue b)) →
      shape first ≡ on (waits_of (map shape parts)) → shape second ≡ on (waits_of (map OnRank ranks)) → (IsTrue b → shape first ≡ shape second) × (shape first ≡ shape second → IsTrue b)
  same_parts_ranks parts ranks xs ys x_is y_is test f s =
      let there : map shape xs ≡ map shape parts = ap (map shape) x_is in
      let others : map OnRank ys ≡ map OnRank ranks = ap (map OnRank) y_is in (
        λ h. f ∙ ap (λ (l : List Wait). on (waits_of l)) (sym there ∙ test.0 h ∙ others) ∙ sym s,
        λ h.
            let w = same_on (waits_of (map shape parts)) (waits_of (map OnRank ranks)) (sym f ∙ h ∙ s) in
            test.1 (there ∙ one_waits (map shape parts) (map OnRank ranks) w ∙ sym others),
      )

  pub same_ranks : (ranks others xs ys : List ℕ) → xs ≡ ranks → ys ≡ others →
      (test : (IsTrue b → xs ≡ ys) × (xs ≡ ys → IsTrue b)) →
      shape first ≡ on (waits_of (map OnRank ranks)) → shape second ≡ on (waits_of (map OnRank others)) → (IsTrue b → shape first ≡ shape second) × (shape first ≡ shape second → IsTrue b)
  same_ranks ranks others xs ys x_is y_is test f s = (
    λ h. f ∙ ap (λ (l : List ℕ). on (waits_of (map OnRank l))) (sym x_is ∙ test.0 h ∙ y_is) ∙ sym s,
    λ h.
        let w = same_on (waits_of (map OnRank ranks)) (waits_of (map OnRank others)) (sym f ∙ h ∙ s) in
        test.1 (x_is ∙ one_ranks ranks others (one_waits (map OnRank ranks) (map OnRank others) w) ∙ sym y_is),
  )

pub same_ranks_parts : (on : Waits → Wait) (same_on : (x y : Waits) → on x ≡ on y → x ≡ y) (first second : Condition) (b : Bool) (ranks : List ℕ) (parts : List Condition) (xs : List Condition) (ys : List ℕ) → xs ≡ parts → ys ≡ ranks →
    (test : (IsTrue b → map shape xs ≡ map OnRank ys) × (map shape xs ≡ map OnRank ys → IsTrue b)) →
    shape first ≡ on (waits_of (map OnRank ranks)) → shape second ≡ on (waits_of (map shape parts)) → (IsTrue b → shape first ≡ shape second) × (shape first ≡ shape second → IsTrue b)
same_ranks_parts on same_on first second b ranks parts xs ys x_is y_is test f s =
    let back = same_parts_ranks on same_on second first b parts ranks xs ys x_is y_is test s f in
    (λ h. sym (back.0 h), λ h. back.1 (sym h))

-- one part that is not the rank at its place
pub ranks_at : (xs : List Condition) (ys : List ℕ) (i : ℕ) (d : Condition) (r : ℕ) → i < length xs → i < length ys → map shape xs ≡ map OnRank ys → shape (get_or xs i d) ≡ OnRank (get_or ys i r)
ranks_at [] ys i d r lt le h = absurd (omega arith)
ranks_at (x ∷ xs) [] i d r lt le h = absurd (omega arith)
ranks_at (x ∷ xs) (y ∷ ys) zero d r lt le h = cc
ranks_at (x ∷ xs) (y ∷ ys) (suc i) d r lt le h =
    let rest : map shape xs ≡ map OnRank ys = cc in
    ranks_at xs ys i d r (omega (arith, lt)) (omega (arith, le)) rest

-- lists of one shape have one shape at each place
pub shapes_at : (xs ys : List Condition) (i : ℕ) (d e : Condition) → i < length xs → i < length ys → map shape xs ≡ map shape ys → shape (get_or xs i d) ≡ shape (get_or ys i e)
shapes_at [] ys i d e lt le h = absurd (omega arith)
shapes_at (x ∷ xs) [] i d e lt le h = absurd (omega arith)
shapes_at (x ∷ xs) (y ∷ ys) zero d e lt le h = cc
shapes_at (x ∷ xs) (y ∷ ys) (suc i) d e lt le h =
    let rest : map shape xs ≡ map shape ys = cc in
    shapes_at xs ys i d e (omega (arith, lt)) (omega (arith, le)) rest
