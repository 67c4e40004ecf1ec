use Rattle.std.proofs.Common.{◌≡◌, is_none, take, true}
use Rattle.command_runs.specs.Traces.{IsKnown}
use Rattle.trace_node.specs.Node.{IsWithin}
use Rattle.command_runs.proofs.Traces.{IsOutside}
use Rattle.command_runs.proofs.pieces.knowing.know_of.Given as goal

abbrev pub invariant-loop-piece : goal.invariant-loop-piece
invariant-loop-piece g l = record {
  listed : l.reads.pieces.now ≡ l.pieces;
  files : l.reads.files.now ≡ l.run.files.now;
  standing : l.place ≡ l.piece-index;
  known : IsKnown (g.O.Opener.file l.run.files.now) (take l.piece-index l.pieces) (g.G.Gatherer.known l.know);
  within : is_none l.stranger ≡ true → IsWithin l.run.layout.now (g.G.Gatherer.known l.know);
  layout : g.G.Gatherer.layout l.know ≡ g.G.Gatherer.layout l.initial.know;
  outside : IsOutside (g.O.Opener.file l.run.files.now) l.run.layout.now.ranks (take l.piece-index l.pieces) l.stranger;
}
