use Rattle.crossbeam_channel.specs.Claims.{view}
use Rattle.trace_crew.proofs.Reading.{ended_work, stopped_work}
use Rattle.trace_crew.proofs.worker.Hand.read_and_end.Goals as goal

pub returns-in-Ok-clause-worked : goal.returns-in-Ok-clause-worked
returns-in-Ok-clause-worked g c =
    let read = c.read_all.ensures in
    ended_work c.read_all.new.self.worker c.args.self.now.worker c.args.pieces.now (view c.read_all.new.self.seat) (view c.end.new.self.seat) c.read_all.new.self.faults.items c.end.new.self.faults.items c.end.result
    read.worker read.poster read.ends c.end.ensures.faults c.in-Ok.ensures.ok c.end.ensures.ends

pub returns-in-Err-Memory-clause-worked : goal.returns-in-Err-Memory-clause-worked
returns-in-Err-Memory-clause-worked g c =
    let read = c.read_all.ensures in
    let end = c.end-in-Err-Memory in
    stopped_work c.read_all.new.self.worker c.args.self.now.worker c.args.pieces.now (view c.read_all.new.self.seat) (view end.new.self.seat) end.new.self.faults.items end.result read.poster read.ends end.ensures.ends
