use Rattle.trace_crew.proofs.threads.gathered.Goals as goal

pub finish-requires-clause-run : goal.finish-requires-clause-run
finish-requires-clause-run g c κs outlives = (c.requires.new.0, _, _, c.in_ok-ran.ensures.ok c.requires.new.0 c.requires.new.1)

pub returns : goal.returns
returns g c layout new = c.in_ok-finish.ensures layout _ _ (c.in_ok-ran.ensures.ok layout new)
