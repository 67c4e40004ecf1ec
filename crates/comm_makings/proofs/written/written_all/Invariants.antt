use Rattle.comm_makings.proofs.Choices.{AreWrittenTo}
use Rattle.comm_makings.proofs.written.written_all.Given as goal

abbrev pub invariant-loop-one : goal.invariant-loop-one
invariant-loop-one l = AreWrittenTo l.views l.uses l.made l.named l.comms.items l.one-index
