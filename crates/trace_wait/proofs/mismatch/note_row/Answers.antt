use Rattle.trace_wait.proofs.InRow.{firsts_more}
use Rattle.trace_wait.proofs.mismatch.note_row.Goals as goal

pub returns : goal.returns
returns c = firsts_more c.args.rounds.now c.args.round.now.comm c.args.round.now.k c.first_of-first.result c.args.firsts.now c.note_first.new.firsts c.in_ok-note_first.ensures c.first_of-first.ensures c.requires.firsts
