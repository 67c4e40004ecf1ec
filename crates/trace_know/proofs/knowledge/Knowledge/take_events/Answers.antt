use Rattle.std.proofs.Common.{ap, ◌∙◌}
use Rattle.trace_know.specs.Ready.{events_among}
use Rattle.trace_know.specs.Runs.{conflicts_among}
use Rattle.trace_know.specs.Segment.{PlacedEvents}
use Rattle.trace_know.specs.Trace.{facts_of, view_of}
use Rattle.trace_know.specs.View.{join}
use Rattle.trace_know.proofs.Counts.{same_events}
use Rattle.trace_know.proofs.Pieces.{ready-facts, ready-placed, ready-sound}
use Rattle.trace_know.proofs.knowledge.Knowledge.take_events.Goals as goal

pub join_piece-requires-clause-placed : goal.join_piece-requires-clause-placed
join_piece-requires-clause-placed c = ready-placed c.in_ok-piece.piece c.in_ok-piece.ensures.ready

pub give_back-requires-clause-sound : goal.give_back-requires-clause-sound
give_back-requires-clause-sound c = ap conflicts_among c.in-Err.ensures.back.cells ∙ ready-sound c.in_ok-piece.piece c.in_ok-piece.ensures.ready

pub returns-in-Ok-clause-ok : goal.returns-in-Ok-clause-ok
returns-in-Ok-clause-ok c =
    let piece = c.in_ok-piece.piece in
    c.in-Ok.ensures.ok ∙ ap (join c.args.self.now) (ready-facts piece c.in_ok-piece.ensures.ready ∙ ap (λ (s : PlacedEvents). view_of (facts_of s)) c.in_ok-piece.ensures.segment)

pub returns-in-Err-clause-back : goal.returns-in-Err-clause-back
returns-in-Err-clause-back c =
    let piece = c.in_ok-piece.piece in
    let back = c.give_back.new.events.items in
    let held = events_among piece.cells.items in
    same_events back held (c.give_back.ensures ∙ c.in-Err.ensures.back.cells ∙ c.in_ok-piece.ensures.ready.whole) ∙ ap (λ (s : PlacedEvents). s.events) c.in_ok-piece.ensures.segment
