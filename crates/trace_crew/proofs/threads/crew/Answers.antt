use Rattle.trace_crew.proofs.Crewing.{crewed}
use Rattle.trace_crew.proofs.threads.crew.Goals as goal

pub gathered-requires-clause-new : goal.gathered-requires-clause-new
gathered-requires-clause-new g c κs outlives = (c.args.layout.now, c.in_ok-hall.ensures)

pub returns : goal.returns
returns g c = crewed c.args.layout.now c.args.first.now c.args.second.now _ _ _ _ c.out_of.ensures.node c.out_of.ensures.refused c.out_of.ensures.faults (c.in_ok-left.ensures c.args.layout.now c.in_ok-hall.ensures)
