use Rattle.std.proofs.Common.{◌≡◌, take}
use Rattle.command_runs.specs.Schedules.{TellSegments, held_lists}
use Rattle.command_runs.proofs.pieces.segments.segments_of_all.Given as goal

abbrev pub invariant-loop-place : goal.invariant-loop-place
invariant-loop-place g l = record {
  listed : l.reads.pieces.now ≡ l.pieces;
  files : l.reads.files.now ≡ l.files;
  told : TellSegments (g.O.Opener.file l.files) (take l.place l.pieces) (held_lists l.lists.items);
}
