use Rattle.std.proofs.Common.{rules, ◌∙◌, ap}
use Rattle.trace_crew.specs.declared.queue.rule.SeatView.TheVariants.{Poster}
use Rattle.trace_crew.proofs.Reading.{read_further}
use Rattle.trace_crew.proofs.worker.Hand.read_all.Goals as goal

pub loop-place-preserved : goal.loop-place-preserved
loop-place-preserved g c =
    let p = c.read_one.ensures.poster in
    record {
      seat = c.read_one.ensures.seat;
      worker = c.read_one.ensures.worker ∙ c.loop-place.invariant.worker;
      poster = (p.0, p.1 ∙ ap (λ w. Poster w p.0) c.loop-place.invariant.worker);
      ends = c.read_one.ensures.ends ∙ c.loop-place.invariant.ends;
      read = read_further _ _ _ c.loop-place.place c.index-pieces-place.result _ _ _ _ c.loop-place.invariant.worker (search rules) c.index-pieces-place.is c.loop-place.invariant.read c.in_ok-read_one.ensures.ok;
    }
