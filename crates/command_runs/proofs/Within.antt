-- What is known while pieces are read is of ranks of the layout, as long as no stranger came.
use Rattle.std.proofs.Common.{◌≡◌, ◌∙◌, ◌+◌, ◌<◌, ◌⊎◌, inl, inr, ℕ, zero, suc, true, is_none, List, [], ◌∷◌, Option, Some, None, String, IsSome, ap, sym, subst, refl, length, get_or, arith}
use Rattle.std.specs.Prelude.{Contains}
use Rattle.std.specs.FinMap.{empty, get-empty}
use Rattle.std.specs.declared.alloc.Global.{Global}
use Rattle.mpi_model.specs.Layouts.{Parts}
use Rattle.mpi_model.specs.declared.event.Event.{Event}
use Rattle.trace_know.specs.Cell.{join_cell}
use Rattle.trace_know.specs.Segment.{enter_place}
use Rattle.trace_know.specs.Trace.{Fact, Trace, IsCellOf, facts_from, view_of}
use Rattle.trace_know.specs.View.{View, cell, join, place_cmp}
use Rattle.trace_know.specs.declared.cell.Known.{Known}
use Rattle.trace_know.specs.declared.cell.Known.TheVariants.{One, Contradiction}
use Rattle.trace_node.specs.Node.{IsWithin}
use Rattle.run_files.specs.Manifests.{PieceParts}
use Rattle.command_runs.specs.Pieces.{TellsFacts}
use Rattle.command_runs.specs.Traces.{KeepsFirst}

-- the facts of a rank's events are of that rank
pub of_rank : (rank place : ℕ) (events : List Event) (i : ℕ) (fact : Fact) → i < length (facts_from rank place events) → get_or (facts_from rank place events) i fact ≡ fact → fact.rank ≡ rank
of_rank rank place [] i fact below e = absurd (omega (arith, below))
of_rank rank place (event ∷ events) zero fact below e = sym (ap (λ (f : Fact). f.rank) e)
of_rank rank place (event ∷ events) (suc i) fact below e = of_rank rank (place + 1) events i fact (omega (arith, below)) e

-- the facts of a piece after which there is no stranger
facts_below : (text : Option (List ℕ)) (ranks : ℕ) (piece : PieceParts) (facts : Trace) → TellsFacts text piece.rank piece.first facts → KeepsFirst ranks piece facts None None
    → (fact : Fact) → Contains facts fact → fact.rank < ranks
facts_below text ranks piece facts told (inl below) fact among =
    let here : Contains (facts_from piece.rank (enter_place piece.first) told.0) fact = subst (λ (t : Trace). Contains t fact) told.2 among in
    let e : fact.rank ≡ piece.rank = of_rank piece.rank (enter_place piece.first) told.0 here.0 fact here.1 here.2 in
    omega (arith, e, below)
facts_below text ranks piece facts told (inr none) fact among =
    let here : Contains [] fact = subst (λ (t : Trace). Contains t fact) none among in
    absurd (omega (arith, here.1))

-- where something is known of a place, a fact tells it
pub fact_at : (facts : Trace) (rank place : ℕ) (known : Option Known) → IsCellOf facts rank place known → IsSome known → (fact : Fact) × Contains facts fact × (fact.rank ≡ rank)
fact_at facts rank place None is some = absurd (cc some)
fact_at facts rank place (Some (One event)) is some = (record { rank = rank; place = place; event = event }, is.0, refl)
fact_at facts rank place (Some Contradiction) is some = (record { rank = rank; place = place; event = is.0 }, is.3, refl)

pub either_known : (a b : Option Known) → IsSome (join_cell a b) → IsSome a ⊎ IsSome b
either_known None b some = inr some
either_known (Some a) b some = inl refl

-- the law of the cells of a join, and that of the cells of a trace's view
abbrev pub JoinsCells : Type 0
JoinsCells = (a b : View) (rank place : ℕ) → cell (join a b) rank place ≡ join_cell (cell a rank place) (cell b rank place)

abbrev pub ShowsFacts : Type 0
ShowsFacts = (facts : Trace) (rank place : ℕ) → IsCellOf facts rank place (cell (view_of facts) rank place)

join_within : JoinsCells → ShowsFacts → (layout : Parts) (view : View) (facts : Trace) → IsWithin layout view
    → ((fact : Fact) → Contains facts fact → fact.rank < layout.ranks) → IsWithin layout (join view (view_of facts))
join_within joins shows layout view facts within below rank place some =
    elim (either_known (cell view rank place) (cell (view_of facts) rank place) (subst (λ (c : Option Known). IsSome c) (joins view (view_of facts) rank place) some)) [
      | inl old ↦ within rank place old
      | inr new ↦ (let fact = fact_at facts rank place (cell (view_of facts) rank place) (shows facts rank place) new in
          subst (λ (r : ℕ). r < layout.ranks) fact.2 (below fact.0 fact.1))
    ]

-- one piece more
pub within_more : JoinsCells → ShowsFacts → (text : Option (List ℕ)) (layout : Parts) (piece : PieceParts) (facts : Trace) (old new : Option (String Global)) (view next : View)
    → (is_none old ≡ true → IsWithin layout view) → TellsFacts text piece.rank piece.first facts → KeepsFirst layout.ranks piece facts old new
    → next ≡ join view (view_of facts) → is_none new ≡ true → IsWithin layout next
within_more joins shows text layout piece facts (Some path) new view next within told keeps is none = absurd (cc (keeps, none))
within_more joins shows text layout piece facts None (Some path) view next within told keeps is none = absurd (cc none)
within_more joins shows text layout piece facts None None view next within told keeps is none =
    subst (λ (v : View). IsWithin layout v) (sym is)
    (join_within joins shows layout view facts (within refl) (facts_below text layout.ranks piece facts told keeps))

-- nothing is known at first
pub within_nothing : (layout : Parts) (view : View) → view ≡ empty → IsWithin layout view
within_nothing layout view e rank place some =
    let none : cell view rank place ≡ None = ap (λ (v : View). cell v rank place) e ∙ get-empty place_cmp (rank, place) in
    absurd (cc (some, none))
