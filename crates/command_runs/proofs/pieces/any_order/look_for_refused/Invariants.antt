use Rattle.std.proofs.Common.{take}
use Rattle.trace_know.specs.View.{View}
use Rattle.command_runs.specs.Traces.{IsKnown}
use Rattle.command_runs.proofs.pieces.any_order.look_for_refused.Given as goal

abbrev pub invariant-loop-piece : goal.invariant-loop-piece
invariant-loop-piece g l = record {
  whole : (view : View) × IsKnown (g.O.Opener.file l.files) (take l.piece-index l.pieces) view;
}
