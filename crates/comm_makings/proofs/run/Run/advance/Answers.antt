use Rattle.comm_makings.proofs.run.Run.advance.Goals as goal

pub note_read-requires-clause-read : goal.note_read-requires-clause-read
note_read-requires-clause-read c = c.in_ok-step.ensures.read c.in-Read.is

pub loop-k-preserved : goal.loop-k-preserved
loop-k-preserved c = record {
  right = c.note_read.ensures.right;
  read = rw c.note_read.ensures.comms (c.in_ok-step.ensures.read c.in-Read.is);
}
