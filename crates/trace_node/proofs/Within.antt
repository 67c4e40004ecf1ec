-- Knowledge stays within the ranks of the layout.
use Rattle.std.proofs.Common.{◌≡◌, ℕ, zero, suc, ◌+◌, ◌<◌, Option, Some, None, List, [], ◌∷◌, refl, sym, ap, subst, arith, ⊎_elim, ◌⊎◌, inl, inr, IsSome}
use Rattle.std.specs.Prelude.{Contains}
use Rattle.std.specs.FinMap.{empty, get-empty}
use Rattle.std.proofs.lemmas.Bool.{cases_order}
use Rattle.mpi_model.specs.Layouts.{Parts}
use Rattle.mpi_model.specs.declared.event.Event.{Event}
use Rattle.trace_know.specs.declared.cell.Known.{Known}
use Rattle.trace_know.specs.declared.cell.Known.TheVariants.{One, Contradiction}
use Rattle.trace_know.specs.Cell.{IsAtMost, join_cell}
use Rattle.trace_know.specs.Segment.{PlacedEvents}
use Rattle.trace_know.specs.Trace.{Fact, IsCellOf, facts_from, facts_of, view_of}
use Rattle.trace_know.specs.View.{IsBelow, View, cell, join, place_cmp}
use Rattle.trace_node.specs.Node.{HasStranger, IsWithin}

nothing : IsSome {T = Known} None → ⊥
nothing h = cc

pub within_empty : (layout : Parts) → IsWithin layout empty
within_empty layout = λ rank place some.
    let e : cell empty rank place ≡ None = get-empty place_cmp (rank, place) in
    absurd (nothing (subst (λ (o : Option Known). IsSome o) e some))

pub without_stranger : (layout : Parts) (view : View) → (HasStranger layout view → ⊥) → IsWithin layout view
without_stranger layout view none = λ rank place some.
    ⊎_elim (λ (e : rank ≡ layout.ranks). absurd (none (rank, place, omega (arith, e), some)))
    (⊎_elim (λ (lt : rank < layout.ranks). lt) (λ (gt : layout.ranks < rank). absurd (none (rank, place, omega (arith, gt), some))))
    (cases_order rank layout.ranks)

one_of : (a b : Option Known) → IsSome (join_cell a b) → IsSome a ⊎ IsSome b
one_of None b some = inr some
one_of (Some a) b some = inl refl

pub within_join : (layout : Parts) (a b : View) → ((rank place : ℕ) → cell (join a b) rank place ≡ join_cell (cell a rank place) (cell b rank place)) →
    IsWithin layout a → IsWithin layout b → IsWithin layout (join a b)
within_join layout a b cells wa wb = λ rank place some.
    ⊎_elim (wa rank place) (wb rank place)
    (one_of (cell a rank place) (cell b rank place) (subst (λ (o : Option Known). IsSome o) (cells rank place) some))

-- the facts of a segment are of its rank
own : (rank place : ℕ) (events : List Event) (f : Fact) → Contains (facts_from rank place events) f → f.rank ≡ rank
own rank place [] f (k, lt, at) = absurd (omega (arith, lt))
own rank place (event ∷ events) f (zero, lt, at) = sym (ap (λ (g : Fact). g.rank) at)
own rank place (event ∷ events) f (suc k, lt, at) = own rank (place + 1) events f (k, omega (arith, lt), at)

own_cell : (segment : PlacedEvents) (rank place : ℕ) (o : Option Known) → IsCellOf (facts_of segment) rank place o → IsSome o → rank ≡ segment.rank
own_cell segment rank place None is some = absurd (nothing some)
own_cell segment rank place (Some (One e)) is some = own segment.rank segment.first_place segment.events (record { rank = rank; place = place; event = e }) is.0
own_cell segment rank place (Some Contradiction) is some = own segment.rank segment.first_place segment.events (record { rank = rank; place = place; event = is.0 }) is.3

pub within_segment : (layout : Parts) (segment : PlacedEvents) → ((rank place : ℕ) → IsCellOf (facts_of segment) rank place (cell (view_of (facts_of segment)) rank place)) →
    segment.rank < layout.ranks → IsWithin layout (view_of (facts_of segment))
within_segment layout segment cells lt = λ rank place some.
    let e = own_cell segment rank place (cell (view_of (facts_of segment)) rank place) (cells rank place) some in omega (arith, e, lt)

some_above : (a b : Option Known) → IsAtMost a b → IsSome a → IsSome b
some_above None b at some = absurd (nothing some)
some_above (Some a) None at some = absurd at
some_above (Some a) (Some b) at some = refl

-- what is below a view that is within the ranks has no stranger
pub below_within : (layout : Parts) (view other : View) → IsBelow other view → IsWithin layout view → HasStranger layout other → ⊥
below_within layout view other below within s =
    let inside : s.0 < layout.ranks = within s.0 s.1 (some_above (cell other s.0 s.1) (cell view s.0 s.1) (below s.0 s.1) s.3) in
    omega (arith, s.2, inside)
