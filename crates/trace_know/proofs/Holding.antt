-- What holds of the runs of every knowledge is kept by joins.
use Rattle.std.proofs.Common.{◌≡◌, ℕ, ◌+◌, ◌^◌, ◌<◌, ◌≤◌, Bool, true, false, cond, Option, Some, None, List, [], ◌∷◌, length, refl, sym, ap, subst, ◌∙◌, inl, inr, arith}
use Rattle.std.specs.Prelude.{IsSome, is_some}
use Rattle.std.specs.Ordering.{is_eq, eq_by_cmp}
use Rattle.std.specs.declared.cmp.Ordering.TheVariants.{Less}
use Rattle.std.specs.Cmp.{eq_by_cmp_equiv}
use Rattle.std.specs.FinMap.{empty, get, insert, len, get-insert, len-insert, len-empty}
use Rattle.trace_know.specs.declared.cell.Known.{Known}
use Rattle.trace_know.specs.declared.run.Run.{Run}
use Rattle.trace_know.specs.Cell.{join_known, join_cell}
use Rattle.trace_know.specs.Placed.{ArePlaced, IsKnowledge, IsPlaced, IsPast}
use Rattle.trace_know.specs.View.{View, place_cmp, join}
use Rattle.trace_know.specs.Rows.{single, row}
use Rattle.trace_know.specs.Runs.{of_run, of_runs, Above, IsHeld, AreAlike, listed}
use Rattle.trace_know.proofs.SameEvents.{false_or_true}
use Rattle.trace_know.proofs.CellJoins.{join_cell-none}
use Rattle.trace_know.proofs.Joins.{places_total, exact_places, equal, get-join, join-assoc, join-empty, same_views}
use Rattle.trace_know.proofs.Rows.{get-single}
use Rattle.trace_know.proofs.Listing.{length-placed, len-listed}
use Rattle.trace_know.proofs.Alike.{alike-view, alike-above}
use Rattle.trace_know.proofs.Placed.{empty-IsKnowledge, join-IsKnowledge}

pub none-IsHeld : IsHeld 0 []
none-IsHeld = record { above = tt; placed = empty-IsKnowledge; few = let none = len-empty place_cmp Known in omega arith; fits = omega arith }

-- ---- how many cells a join can have

sum_fits : (b : Bool) (n : ℕ) → cond b n (n + 1) ≤ n + 1
sum_fits true n = omega arith
sum_fits false n = omega arith

abbrev met : Option Known → Known → Known
met None k = k
met (Some a) k = join_known a k

met_is : (o : Option Known) (k : Known) → join_cell o (Some k) ≡ Some (met o k)
met_is None k = refl
met_is (Some a) k = refl

-- one cell more is set, to what it is together with what was there
set-join : (v : View) (rank place : ℕ) (k : Known) → join v (single rank place k) ≡ insert v (rank, place) (met (get v (rank, place)) k)
set-join v rank place k = same_views _ _ (λ q.
    get-join v (single rank place k) q ∙ elim (false_or_true (eq_by_cmp place_cmp q (rank, place))) [
      | inl t ↦
          let at : q ≡ (rank, place) = exact_places q (rank, place) (equal _ t) in
          let cells : get (single rank place k) q ≡ Some k = get-single rank place k q ∙ ap (λ (b : Bool). cond b (Some k) None) t in
          ap (join_cell (get v q)) cells ∙ met_is (get v q) k ∙ ap (λ x. Some (met (get v x) k)) at
          ∙ sym (get-insert places_total v (rank, place) (met (get v (rank, place)) k) q ∙ ap (λ (b : Bool). cond b (Some (met (get v (rank, place)) k)) (get v q)) t)
      | inr f ↦
          let cells : get (single rank place k) q ≡ None = get-single rank place k q ∙ ap (λ (b : Bool). cond b (Some k) None) f in
          ap (join_cell (get v q)) cells ∙ join_cell-none (get v q)
          ∙ sym (get-insert places_total v (rank, place) (met (get v (rank, place)) k) q ∙ ap (λ (b : Bool). cond b (Some (met (get v (rank, place)) k)) (get v q)) f)
    ])

len-single : (v : View) (rank place : ℕ) (k : Known) → len (join v (single rank place k)) ≤ len v + 1
len-single v rank place k =
    let n : len (join v (single rank place k)) ≡ cond (is_some (get v (rank, place))) (len v) (len v + 1) = ap len (set-join v rank place k) ∙ len-insert places_total v (rank, place) (met (get v (rank, place)) k) in
    let most = sum_fits (is_some (get v (rank, place))) (len v) in
    omega arith

pub len-row : (v : View) (rank place : ℕ) (ks : List Known) → len (join v (row rank place ks)) ≤ len v + length ks
len-row v rank place [] = let same : len (join v empty) ≡ len v = ap len (join-empty v) in omega arith
len-row v rank place (k ∷ ks) =
    let same : len (join (join v (single rank place k)) (row rank (place + 1) ks)) ≡ len (join v (row rank place (k ∷ ks))) = ap len (join-assoc v (single rank place k) (row rank (place + 1) ks)) in
    let rest = len-row (join v (single rank place k)) rank (place + 1) ks in
    let first = len-single v rank place k in
    omega arith

-- ---- what a write leaves

pub joined-IsHeld : (most most' : ℕ) (old new : List Run) (rank place : ℕ) (ks : List Known) (v : View) → row rank place ks ≡ v → IsKnowledge v → len (of_runs old) + length ks ≤ most' → most' < 2 ^ 64 → IsHeld most old → Above 0 new
    → of_runs new ≡ join (of_runs old) v → IsHeld most' new
joined-IsHeld most most' old new rank place ks v is known few fits held above ok =
    let size = len-row (of_runs old) rank place ks in
    let same : len (of_runs new) ≡ len (join (of_runs old) (row rank place ks)) = ap len (ok ∙ ap (join (of_runs old)) (sym is)) in
    record { above = above; placed = subst IsKnowledge (sym ok) (join-IsKnowledge (of_runs old) v held.placed known); few = omega arith; fits = fits }

-- nothing was written
pub kept-IsHeld : (most : ℕ) (old new : List Run) → IsHeld most old → Above 0 new → of_runs new ≡ of_runs old → IsHeld most new
kept-IsHeld most old new held above err = record {
  above = above;
  placed = subst IsKnowledge (sym err) held.placed;
  few = let was = held.few in let same : len (of_runs new) ≡ len (of_runs old) = ap len err in omega arith;
  fits = held.fits;
}

pub len-runs : (v : View) (rs : List Run) → len (join v (of_runs rs)) ≤ len v + length (listed rs)
len-runs v [] = let same : len (join v empty) ≡ len v = ap len (join-empty v) in omega arith
len-runs v (r ∷ rs) =
    let same : len (join (join v (of_run r)) (of_runs rs)) ≡ len (join v (of_runs (r ∷ rs))) = ap len (join-assoc v (of_run r) (of_runs rs)) in
    let rest = len-runs (join v (of_run r)) rs in
    let first = len-row v r.rank r.first r.cells.items in
    let size = length-placed r.rank r.first r.cells.items (listed rs) in
    omega arith

pub both-IsHeld : (most most' other : ℕ) (a b new : List Run) → IsHeld most a → IsHeld other b → len (of_runs a) + len (of_runs b) ≤ most' → most' < 2 ^ 64 → Above 0 new → of_runs new ≡ join (of_runs a) (of_runs b) → IsHeld most' new
both-IsHeld most most' other a b new h k few fits above is =
    let size = len-runs (of_runs a) b in
    let n = len-listed b k.above in
    let same : len (of_runs new) ≡ len (join (of_runs a) (of_runs b)) = ap len is in
    record { above = above; placed = subst IsKnowledge (sym is) (join-IsKnowledge (of_runs a) (of_runs b) h.placed k.placed); few = omega arith; fits = fits }

pub alike-IsHeld : (most : ℕ) (copies rs : List Run) → AreAlike copies rs → IsHeld most rs → IsHeld most copies
alike-IsHeld most copies rs same h = kept-IsHeld most rs copies h (alike-above 0 copies rs same h.above) (alike-view copies rs same)

-- ---- one cell past all others

pub single-IsKnowledge : (rank place : ℕ) (known : Known) → IsPlaced rank place known → IsKnowledge (single rank place known)
single-IsKnowledge rank place known h = record {
  placed = λ r p c e. elim (false_or_true (eq_by_cmp place_cmp (r, p) (rank, place))) [
    | inl t ↦
        let at : (rank, place) ≡ (r, p) = sym (exact_places (r, p) (rank, place) (equal _ t)) in
        let is : Some known ≡ Some c = sym (get-single rank place known (r, p) ∙ ap (λ (b : Bool). cond b (Some known) None) t) ∙ e in
        let same : known ≡ c = cc in
        subst (λ (q : ℕ × ℕ). IsPlaced q.0 q.1 c) at (subst (IsPlaced rank place) same h)
    | inr t ↦
        let is : None ≡ Some c = sym (get-single rank place known (r, p) ∙ ap (λ (b : Bool). cond b (Some known) None) t) ∙ e in
        absurd cc
  ];
}

pub row-IsKnowledge : (rank place : ℕ) (ks : List Known) → ArePlaced rank place ks → IsKnowledge (row rank place ks)
row-IsKnowledge rank place [] h = empty-IsKnowledge
row-IsKnowledge rank place (k ∷ ks) h = join-IsKnowledge (single rank place k) (row rank (place + 1) ks) (single-IsKnowledge rank place k h.0) (row-IsKnowledge rank (place + 1) ks h.1)

none_or_some : (o : Option Known) → (IsSome o → ⊥) → o ≡ None
none_or_some None h = refl
none_or_some (Some k) h = absurd (h refl)

pub past-none : (v : View) (rank place : ℕ) → IsPast v rank place → get v (rank, place) ≡ None
past-none v rank place h = none_or_some (get v (rank, place)) (λ some.
    let less : is_eq (place_cmp (rank, place) (rank, place)) ≡ is_eq Less = ap is_eq (h rank place some) in
    let same : eq_by_cmp place_cmp (rank, place) (rank, place) ≡ true = (eq_by_cmp_equiv places_total).refl (rank, place) in
    absurd cc)
