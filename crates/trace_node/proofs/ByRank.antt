-- What is told of a rank goes by what is known of it alone.
use Rattle.std.proofs.Common.{◌≡◌, ◌∙◌, ◌⊎◌, ⊎_elim, inl, inr, ℕ, zero, suc, ◌+◌, ◌*◌, ◌<◌, ◌≤◌, Bool, true, false, Option, Some, None, List, [], ◌∷◌, ◌++◌, map, length, refl, sym, ap, ap₂, subst, arith, IsSome}
use Rattle.std.specs.Prelude.{Contains, ◌↔◌, slice_index_or}
use Rattle.std.specs.FinMap.{empty, get-empty}
use Rattle.std.specs.List.{range_with_len}
use Rattle.std.specs.List.Sorted.{IsStrictlySortedBy}
use Rattle.std.specs.declared.cmp.Ordering.TheVariants.{Less}
use Rattle.std.proofs.lemmas.Bool.{cases_order}
use Rattle.std.proofs.lemmas.Bool.Decides.{nat_tests}
use Rattle.std.proofs.lemmas.List.Elements.{Contains-append_cases, Contains-append_left, Contains-append_right}
use Rattle.std.proofs.lemmas.List.FromFn.{fill_by_all, get_or-map-range_with_len, length-map-range_with_len, map-range_with_len_more}
use Rattle.mpi_model.specs.Layouts.{Parts}
use Rattle.mpi_model.specs.declared.event.Event.{Event}
use Rattle.trace_know.specs.Cell.{join_cell}
use Rattle.trace_know.specs.Listing.{conflicts_of}
use Rattle.trace_know.specs.Prefix.{IsBeyond, IsLeading, event_of, events_of, is_beyond, is_unread, is_unread_enter, prefix_of, readable_at, readable_of}
use Rattle.trace_know.specs.View.{View, cell, join, place_cmp}
use Rattle.trace_know.specs.declared.cell.Known.{Known}
use Rattle.trace_know.specs.declared.cell.Known.TheVariants.{Contradiction}
use Rattle.trace_ops.specs.Ops.{Ops, no_ops}
use Rattle.trace_ops.specs.RankOps.{ops_by, ops_of}
use Rattle.trace_node.specs.Answer.{call_of, entry_of}
use Rattle.trace_wait.specs.Ranks.{ops_of as among}
use Rattle.trace_node.specs.ByRank.{AreTold, AreWalls, IsBelowRank, IsOfRank, IsReading, IsReadingOf, IsToldOf, TakesReading, entered_by}
use Rattle.trace_node.specs.declared.answer.parts.RankReading.{RankReading}
use Rattle.trace_node.specs.declared.answer.parts.Reading.{Reading}
use Rattle.trace_node.specs.declared.by_rank.RankByRank.{RankByRank}
use Rattle.trace_node.specs.declared.by_rank.RankTold.{RankTold}
use Rattle.trace_node.proofs.SortedPlaces.{behind, one_list}

-- the laws of readable prefixes
abbrev pub ReadsOn : Type 0
ReadsOn = (view : View) (rank : ℕ) → IsLeading (readable_at view rank) (events_of view rank)

abbrev pub ReadsOneList : Type 0
ReadsOneList = (view : View) (rank : ℕ) (events : List Event) → IsLeading (readable_at view rank) events → events ≡ events_of view rank

abbrev pub TestsBeyond : Type 0
TestsBeyond = (view : View) (rank : ℕ) → (is_beyond view rank ≡ true) ↔ IsBeyond view rank (prefix_of view rank)

-- the law of the cells of a join
abbrev pub JoinsCells : Type 0
JoinsCells = (a b : View) (rank place : ℕ) → cell (join a b) rank place ≡ join_cell (cell a rank place) (cell b rank place)

-- both know the same of a rank
abbrev pub KnowAlike : View → View → ℕ → Type 0
KnowAlike a b rank = (place : ℕ) → cell a rank place ≡ cell b rank place

both_ways : (x y : Bool) → (x ≡ true → y ≡ true) → (y ≡ true → x ≡ true) → x ≡ y
both_ways true y f g = sym (f refl)
both_ways false true f g = g refl
both_ways false false f g = refl

module _ (reads : ReadsOn) (one : ReadsOneList) (tests : TestsBeyond) where
  events_alike : (a b : View) (rank : ℕ) → KnowAlike a b rank → events_of a rank ≡ events_of b rank
  events_alike a b rank alike = one b rank (events_of a rank) (record {
    each = λ i lt. ap readable_of (sym (alike i)) ∙ (reads a rank).each i lt;
    end = ap readable_of (sym (alike (length (events_of a rank)))) ∙ (reads a rank).end;
  })

  pub prefix_alike : (a b : View) (rank : ℕ) → KnowAlike a b rank → prefix_of a rank ≡ prefix_of b rank
  prefix_alike a b rank alike = ap length (events_alike a b rank alike)

  beyond_too : (a b : View) (rank : ℕ) → KnowAlike a b rank → is_beyond a rank ≡ true → is_beyond b rank ≡ true
  beyond_too a b rank alike h =
      let at = (tests a rank).0 h in
      let same = prefix_alike a b rank alike in
      (tests b rank).1 (at.0, subst (λ (n : ℕ). n ≤ at.0) same at.1, subst (λ (o : Option Known). IsSome o) (alike at.0) at.2)

  pub beyond_alike : (a b : View) (rank : ℕ) → KnowAlike a b rank → is_beyond a rank ≡ is_beyond b rank
  beyond_alike a b rank alike = both_ways (is_beyond a rank) (is_beyond b rank) (beyond_too a b rank alike) (beyond_too b a rank (λ place. sym (alike place)))

  pub unread_alike : (a b : View) (rank : ℕ) → KnowAlike a b rank → is_unread a rank ≡ is_unread b rank
  unread_alike a b rank alike =
      ap (λ (o : Option Known). is_unread_enter (event_of o)) (alike (prefix_of a rank))
      ∙ ap (λ (n : ℕ). is_unread_enter (event_of (cell b rank n))) (prefix_alike a b rank alike)

  pub ops_alike : (layout : Parts) (a b : View) (rank : ℕ) → KnowAlike a b rank → ops_of layout a rank ≡ ops_of layout b rank
  ops_alike layout a b rank alike = ap₂ (ops_by layout rank) (beyond_alike a b rank alike) (events_alike a b rank alike)

  pub entered_alike : (layout : Parts) (a b : View) (rank : ℕ) → KnowAlike a b rank → entered_by a rank (ops_of layout a rank) ≡ entered_by b rank (ops_of layout b rank)
  entered_alike layout a b rank alike =
      ap (λ (own : Ops). entered_by a rank own) (ops_alike layout a b rank alike)
      ∙ ap (λ (o : Option Known). entry_of (event_of o)) (alike (2 * call_of (ops_of layout b rank)))

-- ---- a join with what is known of the next rank

nothing : (o : Option Known) → (IsSome o → ⊥) → o ≡ None
nothing None h = refl
nothing (Some known) h = absurd (h refl)

with_nothing : (a b : Option Known) → b ≡ None → join_cell a b ≡ a
with_nothing None b e = e
with_nothing (Some a) None e = refl
with_nothing (Some a) (Some b) e = absurd cc

from_nothing : (a b : Option Known) → a ≡ None → join_cell a b ≡ b
from_nothing None b e = refl
from_nothing (Some a) b e = absurd cc

module _ (joins : JoinsCells) (view know : View) (count : ℕ) (below : IsBelowRank view count) (of : IsOfRank know count) where
  pub as_before : (rank : ℕ) → rank < count → KnowAlike (join view know) view rank
  as_before rank lt place =
      joins view know rank place
      ∙ with_nothing (cell view rank place) (cell know rank place) (nothing (cell know rank place) (λ some. let e = of rank place some in omega (arith, e, lt)))

  pub as_told : KnowAlike (join view know) know count
  as_told place =
      joins view know count place
      ∙ from_nothing (cell view count place) (cell know count place) (nothing (cell view count place) (λ some. let lt = below count place some in omega (arith, lt)))

  some_of : (a b : Option Known) → IsSome (join_cell a b) → IsSome a ⊎ IsSome b
  some_of None b some = inr some
  some_of (Some a) b some = inl refl

  pub below_next : IsBelowRank (join view know) (count + 1)
  below_next rank place some = elim (some_of (cell view rank place) (cell know rank place) (subst (λ (o : Option Known). IsSome o) (joins view know rank place) some)) [
    | inl old ↦ (let lt = below rank place old in omega (arith, lt))
    | inr new ↦ (let e = of rank place new in omega (arith, e))
  ]

  -- ---- contradictions

  rank_less : (r p s q : ℕ) → r < s → place_cmp (r, p) (s, q) ≡ Less
  rank_less r p s q lt = grind (arith, nat_tests, lt)

  contradicted : (o : Option Known) → o ≡ Some Contradiction → IsSome o
  contradicted None e = absurd cc
  contradicted (Some known) e = refl

  either : (a b : Option Known) → a ≡ None ⊎ b ≡ None → join_cell a b ≡ Some Contradiction ↔ (a ≡ Some Contradiction) ⊎ (b ≡ Some Contradiction)
  either a b (inl none) = (
    λ e. inr (sym (from_nothing a b none) ∙ e),
    λ some. elim some [ inl e ↦ absurd (let both : None ≡ Some Contradiction = sym none ∙ e in cc) | inr e ↦ from_nothing a b none ∙ e ],
  )
  either a b (inr none) = (
    λ e. inl (sym (with_nothing a b none) ∙ e),
    λ some. elim some [ inl e ↦ with_nothing a b none ∙ e | inr e ↦ absurd (let both : None ≡ Some Contradiction = sym none ∙ e in cc) ],
  )

  one_nothing : (rank place : ℕ) → cell view rank place ≡ None ⊎ cell know rank place ≡ None
  one_nothing rank place = by (cell view rank place) refl
    where
      by : (o : Option Known) → cell view rank place ≡ o → cell view rank place ≡ None ⊎ cell know rank place ≡ None
      by None e = inl e
      by (Some known) e = inr (nothing (cell know rank place) (λ some.
          let lt = below rank place (subst (λ (o : Option Known). IsSome o) (sym e) refl) in
          let is = of rank place some in
          omega (arith, lt, is)))

  pub conflicts_next : ((v : View) (rank place : ℕ) → Contains (conflicts_of v) (rank, place) ↔ (cell v rank place ≡ Some Contradiction))
      → ((v : View) → IsStrictlySortedBy place_cmp (conflicts_of v)) → conflicts_of (join view know) ≡ conflicts_of view ++ conflicts_of know
  conflicts_next lists rises = one_list (conflicts_of (join view know)) (conflicts_of view ++ conflicts_of know) (rises (join view know))
      (behind (conflicts_of view) (conflicts_of know) (rises view) (rises know) (λ x y a b.
      let lt = below x.0 x.1 (contradicted _ ((lists view x.0 x.1).0 a)) in
      let is = of y.0 y.1 (contradicted _ ((lists know y.0 y.1).0 b)) in
      rank_less x.0 x.1 y.0 y.1 (omega (arith, lt, is))))
      (λ x. let test = either (cell view x.0 x.1) (cell know x.0 x.1) (one_nothing x.0 x.1) in (
        λ c. elim (test.0 (sym (joins view know x.0 x.1) ∙ (lists (join view know) x.0 x.1).0 c)) [
          | inl old ↦ Contains-append_left (conflicts_of view) (conflicts_of know) x ((lists view x.0 x.1).1 old)
          | inr new ↦ Contains-append_right (conflicts_of view) (conflicts_of know) x ((lists know x.0 x.1).1 new)
        ],
        λ c. (lists (join view know) x.0 x.1).1 (joins view know x.0 x.1 ∙ test.1 (elim (Contains-append_cases (conflicts_of view) (conflicts_of know) x c) [
          | inl old ↦ inl ((lists view x.0 x.1).0 old)
          | inr new ↦ inr ((lists know x.0 x.1).0 new)
        ])),
      ))

-- ---- lists by rank

-- what is the same of each rank below a number gives one list
listed_alike : {X : Type 0} (f g : ℕ → X) (n : ℕ) → ((r : ℕ) → r < n → f r ≡ g r) → map f (range_with_len 0 n) ≡ map g (range_with_len 0 n)
listed_alike f g n alike = fill_by_all g (map f (range_with_len 0 n)) n (f 0) (length-map-range_with_len f 0 n)
    (λ k lt. get_or-map-range_with_len f 0 n k k (f 0) lt (omega arith) ∙ alike k lt)

-- one rank more: those below stay as they were
pub listed_next : {X : Type 0} (f g : ℕ → X) (n : ℕ) (x : X) (xs : List X) → xs ≡ map f (range_with_len 0 n) → ((r : ℕ) → r < n → f r ≡ g r) → x ≡ g n
    → xs ++ x ∷ [] ≡ map g (range_with_len 0 (n + 1))
listed_next {X = X} f g n x xs e alike is =
    ap₂ (λ (l : List X) (y : X). l ++ y ∷ []) (e ∙ listed_alike f g n alike) is ∙ sym (map-range_with_len_more g 0 n n (omega arith))

-- what a rank did, by its place among all
ops_at : (ops : List Ops) (r : ℕ) → among ops r ≡ slice_index_or ops r no_ops
ops_at [] zero = refl
ops_at [] (suc r) = refl
ops_at (own ∷ ops) zero = refl
ops_at (own ∷ ops) (suc r) = ops_at ops r

-- past the end of a list of numbers stands none
past_end : (xs : List ℕ) (i : ℕ) → length xs ≤ i → slice_index_or xs i 0 ≡ 0
past_end [] zero le = refl
past_end [] (suc i) le = refl
past_end (x ∷ xs) zero le = absurd (omega arith)
past_end (x ∷ xs) (suc i) le = past_end xs i (omega (arith, le))

-- of a rank of which nothing is known no call was entered
not_entered : (view : View) (count r : ℕ) (own : Ops) → IsBelowRank view count → count ≤ r → entered_by view r own ≡ 0
not_entered view count r own below le =
    ap (λ (o : Option Known). entry_of (event_of o))
    (nothing (cell view r (2 * call_of own)) (λ some. let lt = below r (2 * call_of own) some in omega (arith, lt, le)))

below_or_not : (m n : ℕ) → (m < n) ⊎ (n ≤ m)
below_or_not m n = ⊎_elim (λ (e : m ≡ n). inr (omega (arith, e))) (⊎_elim (λ (lt : m < n). inl lt) (λ (gt : n < m). inr (omega (arith, gt)))) (cases_order m n)

-- a list of the ranks below a number tells of each rank when it entered the call in which it waits
pub walls_tell : (view : View) (ops : List Ops) (walls : List ℕ) (count : ℕ) → IsBelowRank view count
    → walls ≡ map (λ r. entered_by view r (among ops r)) (range_with_len 0 count) → AreWalls view ops walls
walls_tell view ops walls count below e r = elim (below_or_not r count) [
  | inl lt ↦ ap (λ (l : List ℕ). slice_index_or l r 0) e ∙ get_or-map-range_with_len (λ r. entered_by view r (among ops r)) 0 count r r 0 lt (omega arith)
  | inr le ↦ (let long = ap length e ∙ length-map-range_with_len (λ r. entered_by view r (among ops r)) 0 count in
      past_end walls r (omega (arith, long, le)) ∙ sym (not_entered view count r (among ops r) below le))
]

-- when each rank entered its call is the same by what it did alone and among all
pub walls_alike : (layout : Parts) (view : View) (ops : List Ops) (count : ℕ) → ops ≡ map (ops_of layout view) (range_with_len 0 count)
    → map (λ r. entered_by view r (ops_of layout view r)) (range_with_len 0 count) ≡ map (λ r. entered_by view r (among ops r)) (range_with_len 0 count)
walls_alike layout view ops count o = listed_alike (λ r. entered_by view r (ops_of layout view r)) (λ r. entered_by view r (among ops r)) count (λ r lt.
    ap (λ (own : Ops). entered_by view r own) (sym (ops_at ops r ∙ ap (λ (l : List Ops). slice_index_or l r no_ops) o ∙ get_or-map-range_with_len (ops_of layout view) 0 count r r no_ops lt (omega arith))))

-- ---- one rank more

-- one rank more at the end of what is told, by what is known of it
record AddsRank (rank : ℕ) (know : View) (old new : Reading) : Type 0 where
  pub prefixes : new.prefixes.items ≡ old.prefixes.items ++ prefix_of know rank ∷ []
  pub beyond : new.beyond.items ≡ old.beyond.items ++ is_beyond know rank ∷ []
  pub unread : new.unread.items ≡ old.unread.items ++ is_unread know rank ∷ []
  pub conflicts : new.conflicts.items ≡ old.conflicts.items ++ conflicts_of know

-- so it is where the reading of the rank stands there
adds_rank : (rank : ℕ) (know : View) (one : RankReading) (old new : Reading) → IsReadingOf rank know one → TakesReading one old new → AddsRank rank know old new
adds_rank rank know one old new is takes = record {
  prefixes = takes.prefixes ∙ ap (λ (n : ℕ). old.prefixes.items ++ n ∷ []) is.prefix;
  beyond = takes.beyond ∙ ap (λ (b : Bool). old.beyond.items ++ b ∷ []) is.beyond;
  unread = takes.unread ∙ ap (λ (b : Bool). old.unread.items ++ b ∷ []) is.unread;
  conflicts = takes.conflicts ∙ ap (λ (l : List (ℕ × ℕ)). old.conflicts.items ++ l) is.conflicts;
}

module _ (reads : ReadsOn) (one : ReadsOneList) (tests : TestsBeyond) (joins : JoinsCells)
    (lists : (v : View) (rank place : ℕ) → Contains (conflicts_of v) (rank, place) ↔ (cell v rank place ≡ Some Contradiction))
    (rises : (v : View) → IsStrictlySortedBy place_cmp (conflicts_of v)) where
  reading_next : (view know : View) (count : ℕ) (old new : Reading) → IsBelowRank view count → IsOfRank know count → IsReading count view old → AddsRank count know old new
      → IsReading (count + 1) (join view know) new
  reading_next view know count old new below of was adds =
      let before = as_before joins view know count below of in
      let told = as_told joins view know count below of in
      let both = join view know in
      record {
        prefixes = adds.prefixes ∙ listed_next (prefix_of view) (prefix_of both) count (prefix_of know count) old.prefixes.items was.prefixes
            (λ r lt. sym (prefix_alike reads one tests both view r (before r lt))) (sym (prefix_alike reads one tests both know count told));
        beyond = adds.beyond ∙ listed_next (is_beyond view) (is_beyond both) count (is_beyond know count) old.beyond.items was.beyond
            (λ r lt. sym (beyond_alike reads one tests both view r (before r lt))) (sym (beyond_alike reads one tests both know count told));
        unread = adds.unread ∙ listed_next (is_unread view) (is_unread both) count (is_unread know count) old.unread.items was.unread
            (λ r lt. sym (unread_alike reads one tests both view r (before r lt))) (sym (unread_alike reads one tests both know count told));
        conflicts = adds.conflicts ∙ ap (λ (l : List (ℕ × ℕ)). l ++ conflicts_of know) was.conflicts ∙ sym (conflicts_next joins view know count below of lists rises);
      }

  told_next : (layout : Parts) (view know : View) (count wall : ℕ) (own : Ops) (old new : RankByRank) → AreTold layout view count old → IsOfRank know count
      → AddsRank count know old.reading new.reading → new.ops.items ≡ old.ops.items ++ own ∷ [] → new.walls.items ≡ old.walls.items ++ wall ∷ []
      → own ≡ ops_of layout know count → wall ≡ entered_by know count own → AreTold layout (join view know) (count + 1) new
  told_next layout view know count wall own old new was of adds ops walls did entered =
      let before = as_before joins view know count was.below of in
      let told = as_told joins view know count was.below of in
      let both = join view know in
      record {
        below = below_next joins view know count was.below of;
        reading = reading_next view know count old.reading new.reading was.below of was.reading adds;
        ops = ops ∙ listed_next (ops_of layout view) (ops_of layout both) count own old.ops.items was.ops
            (λ r lt. sym (ops_alike reads one tests layout both view r (before r lt))) (did ∙ sym (ops_alike reads one tests layout both know count told));
        walls = walls ∙ listed_next (λ r. entered_by view r (ops_of layout view r)) (λ r. entered_by both r (ops_of layout both r)) count wall old.walls.items was.walls
            (λ r lt. sym (entered_alike reads one tests layout both view r (before r lt)))
            (entered ∙ ap (λ (o : Ops). entered_by know count o) did ∙ sym (entered_alike reads one tests layout both know count told));
      }

  -- what was told of the next rank is taken
  pub taken_next : (layout : Parts) (view know : View) (count : ℕ) (told : RankTold) (old new : RankByRank) → AreTold layout view count old → IsOfRank know count
      → IsToldOf layout count know told → TakesReading told.reading old.reading new.reading → new.ops.items ≡ old.ops.items ++ told.ops ∷ []
      → new.walls.items ≡ old.walls.items ++ told.wall ∷ [] → AreTold layout (join view know) (count + 1) new
  taken_next layout view know count told old new was of is reading ops walls =
      told_next layout view know count told.wall told.ops old new was of (adds_rank count know told.reading old.reading new.reading is.reading reading) ops walls is.ops is.wall

-- nothing is known of no rank
pub below_none : IsBelowRank empty 0
below_none rank place some =
    let none : cell empty rank place ≡ None = get-empty place_cmp (rank, place) in
    absurd (cc (some, none))

-- no place is contradicted of which nothing is known
pub none_contradicted : ((v : View) (rank place : ℕ) → Contains (conflicts_of v) (rank, place) ↔ (cell v rank place ≡ Some Contradiction)) → conflicts_of empty ≡ []
none_contradicted lists = by (conflicts_of empty) refl
  where
    by : (xs : List (ℕ × ℕ)) → conflicts_of empty ≡ xs → conflicts_of empty ≡ []
    by [] e = e
    by (x ∷ xs) e =
        let among : Contains (conflicts_of empty) (x.0, x.1) = subst (λ (l : List (ℕ × ℕ)). Contains l x) (sym e) (0, omega arith, refl) in
        let here : cell empty x.0 x.1 ≡ Some Contradiction = (lists empty x.0 x.1).0 among in
        let none : cell empty x.0 x.1 ≡ None = get-empty place_cmp (x.0, x.1) in
        absurd (cc (here, none))
