use Rattle.std.proofs.Common.{◌∙◌, ap}
use Rattle.trace_know.specs.Segment.{PlacedEvents}
use Rattle.trace_know.proofs.Pieces.{run-ready, segment-of-run}
use Rattle.trace_know.proofs.ready.piece_of.Goals as goal

pub returns-clause-ready : goal.returns-clause-ready
returns-clause-ready c =
    let segment : PlacedEvents = record { rank = c.args.rank; first_place = c.args.first_place; events = c.args.events.now.items } in
    let rank = c.fill.ensures.same.0 ∙ ap (λ r. r.rank) c.in_ok-piece.ensures ∙ c.in_ok-room.ensures.place.0 in
    let first = c.fill.ensures.same.1 ∙ ap (λ r. r.first) c.in_ok-piece.ensures ∙ c.in_ok-room.ensures.place.1 in
    run-ready c.fill.new.self segment c.requires rank first c.fill.ensures.cells c.fill.ensures.counted

pub returns-clause-segment : goal.returns-clause-segment
returns-clause-segment c =
    let segment : PlacedEvents = record { rank = c.args.rank; first_place = c.args.first_place; events = c.args.events.now.items } in
    let rank = c.fill.ensures.same.0 ∙ ap (λ r. r.rank) c.in_ok-piece.ensures ∙ c.in_ok-room.ensures.place.0 in
    let first = c.fill.ensures.same.1 ∙ ap (λ r. r.first) c.in_ok-piece.ensures ∙ c.in_ok-room.ensures.place.1 in
    segment-of-run c.fill.new.self segment rank first c.fill.ensures.cells
