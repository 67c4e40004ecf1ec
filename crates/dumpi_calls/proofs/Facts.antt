-- The facts of the segments of events.
use Rattle.std.proofs.Common.{◌≡◌, ◌∙◌, ◌+◌, ◌<◌, ◌++◌, ◌∷◌, [], ℕ, List, length, ap, ap₂, sym, refl, arith}
use Rattle.mpi_model.specs.declared.event.Event.{Event}
use Rattle.trace_know.specs.Segment.{enter_place}
use Rattle.trace_know.specs.Trace.{Trace, facts_from, facts_of}
use Rattle.dumpi_calls.specs.Collected.{IsPart}
use Rattle.dumpi_calls.specs.Whole.{SegmentsTellAll}

-- the facts of more events go on where these end
facts_from-append : (rank place : ℕ) (one other : List Event) → facts_from rank place (one ++ other) ≡ facts_from rank place one ++ facts_from rank (place + length one) other
facts_from-append rank place [] other = let e : place + 0 ≡ place = omega arith in ap (λ n. facts_from rank n other) (sym e)
facts_from-append rank place (x ∷ xs) other =
    let e : (place + 1) + length xs ≡ place + length (x ∷ xs) = omega arith in
    ap (λ (facts : Trace). record { rank = rank; place = place; event = x } ∷ facts)
    (facts_from-append rank (place + 1) xs other ∙ ap (λ n. facts_from rank (place + 1) xs ++ facts_from rank n other) e)

-- what follows a part stands from the Enter of the next segment's first call on
facts_after : (rank first : ℕ) (part rest : List Event) → IsPart part rest → facts_from rank (enter_place first + length part) rest ≡ facts_from rank (enter_place (first + 32768)) rest
facts_after rank first part [] is_part = refl
facts_after rank first part (x ∷ xs) is_part =
    let some : 0 < length (x ∷ xs) = omega arith in
    let full : length part ≡ 65536 = is_part.full some in
    let e : enter_place first + length part ≡ enter_place (first + 32768) = omega (arith, full) in
    ap (λ n. facts_from rank n (x ∷ xs)) e

pub segments_tell_all : SegmentsTellAll
segments_tell_all rank first events [] h = ap (facts_from rank (enter_place first)) (sym h)
segments_tell_all rank first events (s ∷ ss) h =
    ap₂ (λ (own more : Trace). own ++ more) (ap facts_of h.3) (segments_tell_all rank (first + 32768) h.0 ss h.4)
    ∙ ap (λ (more : Trace). facts_from rank (enter_place first) s.events ++ more) (sym (facts_after rank first s.events h.0 h.2))
    ∙ sym (facts_from-append rank (enter_place first) s.events h.0)
    ∙ ap (facts_from rank (enter_place first)) (sym h.1)
