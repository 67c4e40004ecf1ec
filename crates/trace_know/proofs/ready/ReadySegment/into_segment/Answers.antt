use Rattle.std.proofs.Common.{◌≡◌, sym, subst, ◌∙◌}
use Rattle.trace_know.specs.Ready.{events_among, segment_in}
use Rattle.trace_know.specs.Segment.{PlacedEvents, IsSegment}
use Rattle.trace_know.proofs.Counts.{same_events}
use Rattle.trace_know.proofs.Pieces.{ready-sound}
use Rattle.trace_know.proofs.ready.ReadySegment.into_segment.Goals as goal

pub give_back-requires-clause-sound : goal.give_back-requires-clause-sound
give_back-requires-clause-sound c = ready-sound c.self.inside.piece c.self.invariant

pub of_parts-requires : goal.of_parts-requires
of_parts-requires c =
    let piece = c.self.inside.piece in
    let back = c.give_back.new.events.items in
    let events : back ≡ events_among piece.cells.items = same_events back (events_among piece.cells.items) (c.give_back.ensures ∙ c.self.invariant.whole) in
    let parts : PlacedEvents = record { rank = c.rank-rank.result; first_place = c.first-first_place.result; events = back } in
    let same : parts ≡ segment_in piece = λ i. record { rank = c.rank-rank.ensures i; first_place = c.first-first_place.ensures i; events = events i } in
    subst IsSegment (sym same) c.self.invariant.segment

pub returns-clause-ok : goal.returns-clause-ok
returns-clause-ok c =
    let piece = c.self.inside.piece in
    let back = c.give_back.new.events.items in
    let events : back ≡ events_among piece.cells.items = same_events back (events_among piece.cells.items) (c.give_back.ensures ∙ c.self.invariant.whole) in
    let parts : PlacedEvents = record { rank = c.rank-rank.result; first_place = c.first-first_place.result; events = back } in
    let same : parts ≡ segment_in piece = λ i. record { rank = c.rank-rank.ensures i; first_place = c.first-first_place.ensures i; events = events i } in
    c.of_parts.ensures ∙ same ∙ c.self.view_is
