use Rattle.command_runs.proofs.pieces.rank_reads.told_at.Goals as goal

pub returns-clause-ok : goal.returns-clause-ok
returns-clause-ok g c = (c.take-read.ensures.given c.args.start c.args.end c.requires.share).ok

pub returns-clause-err : goal.returns-clause-err
returns-clause-err g c = (c.take-read.ensures.given c.args.start c.args.end c.requires.share).err

pub returns-clause-failed : goal.returns-clause-failed
returns-clause-failed g c = (c.take-read.ensures.given c.args.start c.args.end c.requires.share).failed
