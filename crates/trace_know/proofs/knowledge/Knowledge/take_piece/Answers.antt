use Rattle.std.proofs.Common.{ap, ◌∙◌}
use Rattle.trace_know.specs.Segment.{PlacedEvents}
use Rattle.trace_know.specs.Trace.{facts_of, view_of}
use Rattle.trace_know.specs.View.{join}
use Rattle.trace_know.proofs.Pieces.{piece-facts, piece-placed}
use Rattle.trace_know.proofs.knowledge.Knowledge.take_piece.Goals as goal

pub join_piece-requires-clause-placed : goal.join_piece-requires-clause-placed
join_piece-requires-clause-placed c = piece-placed c.into_run.result c.into_run.ensures.ready

pub returns-in-Ok-clause-ok : goal.returns-in-Ok-clause-ok
returns-in-Ok-clause-ok c =
    c.in-Ok.ensures.ok ∙ ap (join c.args.self.now) (piece-facts c.into_run.result c.into_run.ensures.ready ∙ ap (λ (s : PlacedEvents). view_of (facts_of s)) c.into_run.ensures.piece)
