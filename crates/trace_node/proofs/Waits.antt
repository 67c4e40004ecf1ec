-- Which ranks are stuck is known by the shapes of the conditions.
use Rattle.std.proofs.Common.{◌≡◌, ◌↔◌, ◌<◌, ◌≤◌, ◌+◌, ◌⊎◌, ⊎_elim, ℕ, zero, suc, Bool, true, Option, Some, None, List, [], ◌∷◌, ◌++◌, map, refl, sym, ◌∙◌, ap, subst, arith, length, get_or, set, take}
use Rattle.std.specs.Prelude.{slice_index_or, unwrap_or}
use Rattle.std.proofs.lemmas.List.{take_more}
use Rattle.std.specs.List.Sorted.{IsStrictlyIncreasing}
use Rattle.std.specs.Option.{option_map}
use Rattle.trace_ops.specs.declared.state.State.{State}
use Rattle.trace_stuck.specs.declared.condition.Condition.{Condition}
use Rattle.trace_stuck.specs.Holds.{may_go}
use Rattle.trace_stuck.specs.Release.{among}
use Rattle.trace_stuck.specs.Shape.{Wait, OnNothing, shape}
use Rattle.trace_stuck.specs.Stuck.{IsStuck}
use Rattle.trace_node.specs.Answer.{AreStuck, IsStuckBy, Stopped, call_of, shapes, stopped_at, wait_at}
use Rattle.trace_node.specs.ByRank.{AreWalls, stopped_by}
use Rattle.trace_know.specs.View.{View}
use Rattle.trace_ops.specs.Ops.{Ops}
use Rattle.trace_wait.specs.Ranks.{ops_of}
use Rattle.trace_node.proofs.Shapes.{holds_alike}

-- ranks whose conditions have one shape may go alike
goes_alike : (cs ds : List (Option Condition)) (able : ℕ → Bool) (r : ℕ) → shapes cs ≡ shapes ds → may_go cs able r ≡ may_go ds able r
goes_alike [] [] able r h = refl
goes_alike [] (d ∷ ds) able r h = absurd (cc)
goes_alike (c ∷ cs) [] able r h = absurd (cc)
goes_alike (None ∷ cs) (None ∷ ds) able zero h = refl
goes_alike (None ∷ cs) (Some d ∷ ds) able zero h = absurd (cc)
goes_alike (Some c ∷ cs) (None ∷ ds) able zero h = absurd (cc)
goes_alike (Some c ∷ cs) (Some d ∷ ds) able zero h = let e : shape c ≡ shape d = cc in holds_alike able c d e
goes_alike (c ∷ cs) (d ∷ ds) able (suc r) h = let e : shapes cs ≡ shapes ds = cc in goes_alike cs ds able r e

stays_stuck : (states : List State) (cs ds : List (Option Condition)) (r : ℕ) → shapes cs ≡ shapes ds → IsStuck states cs r → IsStuck states ds r
stays_stuck states cs ds r h stuck = (
  stuck.0,
  λ q i. let closed = stuck.1 q i in (closed.0, sym (goes_alike cs ds _ q h) ∙ closed.1),
  stuck.2,
)

-- any conditions of these shapes tell the stuck ranks
pub stuck_by : (states : List State) (cs : List (Option Condition)) (waits : List (Option Wait)) (r : ℕ) → shapes cs ≡ waits →
    IsStuck states cs r ↔ IsStuckBy states waits r
stuck_by states cs waits r h = (λ stuck. (cs, h, stuck), λ by. stays_stuck states by.0 cs r (by.1 ∙ sym h) by.2)

-- a rising list of the stuck ranks under some conditions is one of those under their shapes
pub are_stuck : (ranks : List ℕ) (states told : List State) (cs : List (Option Condition)) (waits : List (Option Wait)) → told ≡ states → shapes cs ≡ waits →
    IsStrictlyIncreasing ranks → ((r : ℕ) → (among ranks r ≡ true) ↔ IsStuck told cs r) → AreStuck states waits ranks
are_stuck ranks states told cs waits s e rising all = subst (λ (l : List State). AreStuck l waits ranks) s (record {
  rising = rising;
  stuck = λ r. let f = all r in let g = stuck_by told cs waits r e in (λ a. g.0 (f.0 a), λ b. f.1 (g.1 b));
})

-- what one rank waits for is written over: the later ranks wait as before
pub wait_set : (cs : List (Option Condition)) (i r : ℕ) (c : Option Condition) → i < r → wait_at (shapes (set cs i c)) r ≡ wait_at (shapes cs) r
wait_set [] i r c lt = refl
wait_set (d ∷ cs) zero zero c lt = absurd (omega (arith, lt))
wait_set (d ∷ cs) zero (suc r) c lt = refl
wait_set (d ∷ cs) (suc i) zero c lt = absurd (omega (arith, lt))
wait_set (d ∷ cs) (suc i) (suc r) c lt = wait_set cs i r c (omega (arith, lt))

pub wait_is : (cs : List (Option Condition)) (i : ℕ) (d o : Option Condition) → i < length cs → o ≡ get_or cs i d → unwrap_or (option_map shape o) OnNothing ≡ wait_at (shapes cs) i
wait_is [] i d o lt e = absurd (omega arith)
wait_is (c ∷ cs) zero d o lt e = ap (λ (o : Option Condition). unwrap_or (option_map shape o) OnNothing) e
wait_is (c ∷ cs) (suc i) d o lt e = wait_is cs i d o (omega (arith, lt)) e

pub wait_past : (cs : List (Option Condition)) (i : ℕ) → length cs ≤ i → OnNothing ≡ wait_at (shapes cs) i
wait_past [] zero le = refl
wait_past [] (suc i) le = refl
wait_past (c ∷ cs) zero le = absurd (omega arith)
wait_past (c ∷ cs) (suc i) le = wait_past cs i (omega (arith, le))

-- in a rising list what stands before is below
pub rising_below : (ranks : List ℕ) → IsStrictlyIncreasing ranks → (i k : ℕ) → k < i → i < length ranks → get_or ranks k 0 < get_or ranks i 0
rising_below ranks up zero k lt le = absurd (omega (arith, lt))
rising_below ranks up (suc i) k lt le =
    let n : i + 1 ≡ suc i = omega arith in
    let step : get_or ranks i 0 < get_or ranks (suc i) 0 = subst (λ (j : ℕ). get_or ranks i 0 < get_or ranks j 0) n (up i (omega (arith, le))) in
    ⊎_elim (λ (e : k ≡ i). subst (λ (j : ℕ). get_or ranks j 0 < get_or ranks (suc i) 0) (sym e) step)
    (λ (l : k < i). let before = rising_below ranks up i k l (omega (arith, le)) in omega (arith, before, step))
    (split k i lt)
  where
    split : (k i : ℕ) → k < suc i → (k ≡ i) ⊎ (k < i)
    split k i lt = grind arith

-- what is told of a stuck rank, part by part
pub stop_is : (walls : List ℕ) (ops : List Ops) (waits : List (Option Wait)) (r call wall : ℕ) (w : Wait) → call ≡ call_of (ops_of ops r) → wall ≡ slice_index_or walls r 0 → w ≡ wait_at waits r →
    record { rank = r; call = call; wall = wall; waits = w } ≡ stopped_by walls ops waits r
stop_is walls ops waits r call wall w a b e = λ i. record { rank = r; call = a i; wall = b i; waits = e i }

-- the stuck ranks, where it is told of each when it entered the call in which it waits
pub all_stopped : (view : View) (walls : List ℕ) (ops : List Ops) (waits : List (Option Wait)) → AreWalls view ops walls → (ranks : List ℕ) →
    map (stopped_by walls ops waits) ranks ≡ map (stopped_at view ops waits) ranks
all_stopped view walls ops waits tell [] = refl
all_stopped view walls ops waits tell (r ∷ ranks) =
    let rest = all_stopped view walls ops waits tell ranks in
    λ i. record { rank = r; call = call_of (ops_of ops r); wall = tell r i; waits = wait_at waits r } ∷ rest i

map_push : {X Y : Type 0} (f : X → Y) (xs : List X) (x : X) → map f (xs ++ x ∷ []) ≡ map f xs ++ f x ∷ []
map_push f [] x = refl
map_push {Y = Y} f (y ∷ ys) x = ap (λ (l : List Y). f y ∷ l) (map_push f ys x)

-- one stuck rank more
pub told_more : {X : Type 0} (stopped : X → Stopped) (f : ℕ → Stopped) (all : List X) (s : X) (ranks : List ℕ) (i : ℕ) → i < length ranks →
    map stopped all ≡ map f (take i ranks) → stopped s ≡ f (get_or ranks i 0) → map stopped (all ++ s ∷ []) ≡ map f (take (i + 1) ranks)
told_more stopped f all s ranks i lt told here =
    map_push stopped all s ∙ (λ j. told j ++ here j ∷ []) ∙ sym (ap (map f) (take_more ranks i 0 lt) ∙ map_push f (take i ranks) (get_or ranks i 0))
