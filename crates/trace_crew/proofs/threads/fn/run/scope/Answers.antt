use Rattle.std.proofs.Common.{rules}
use Rattle.crossbeam_channel.specs.Claims.{view, IsSeatAt}
use Rattle.crossbeam_channel.specs.Ends.{sends_on}
use Rattle.trace_crew.specs.declared.queue.item.Worker.TheVariants.{First, Second}
use Rattle.trace_crew.specs.Work.{HasWorked}
use Rattle.trace_crew.proofs.threads.fn.run.scope.Goals as goal

pub returns : goal.returns
returns g c =
    let seat : IsSeatAt (sends_on c.captures.sender.now) c.own.new.seat = search rules in
    let one : IsSeatAt (sends_on c.captures.sender.now) c.join-first.result.seat = search rules in
    let other : IsSeatAt (sends_on c.captures.sender.now) c.join-second.result.seat = search rules in
    let worked : HasWorked First c.captures.first.now (view c.join-first.result.seat) c.join-first.result.faults.items c.join-first.result.stop = search rules in
    let worked' : HasWorked Second c.captures.second.now (view c.join-second.result.seat) c.join-second.result.faults.items c.join-second.result.stop = search rules in
    record {
      channel = c.requires.channel;
      seats = (seat, one, other);
      ok = λ layout h. let t = c.in_ok-own.ensures.ok layout h in record { taken = t.0; owner_is = t.1; sorted = t.3; two = t.2; one_worked = worked; other_worked = worked' };
    }
