use Rattle.std.proofs.Common.{rules, ◌∙◌, ◌++◌, ◌∷◌, [], ap, arith}
use Rattle.crossbeam_channel.specs.Claims.{view}
use Rattle.trace_crew.specs.Rule.{Arrived}
use Rattle.trace_crew.specs.Views.{after_take}
use Rattle.trace_crew.proofs.Crewing.{ends_left}
use Rattle.trace_crew.proofs.Sorting.{ends_more}
use Rattle.trace_crew.proofs.keeper.drain.Goals as goal

pub loop-preserved : goal.loop-preserved
loop-preserved g c =
    let item = c.in-Some-take_now.item in
    record {
      seat = c.take_now.ensures.seat;
      taken = λ before first second is. let t = c.loop.invariant.taken before first second is in
          let more = ends_more t.0 item in (
            t.0 ++ item ∷ [],
            c.in-Some-take_now.ensures.some ∙ ap (λ v. after_take v item) t.1,
            (λ layout h. c.in_ok-taken.ensures.sorted layout t.0 (t.2 layout h)),
            (omega (arith, t.3, more)),
          );
    }

pub returns-in_default-clause-ends : goal.returns-in_default-clause-ends
returns-in_default-clause-ends g c before first second is =
    let t = c.loop.invariant.taken before first second is in
    let empty : Arrived (view c.loop.seat) [] = search rules in
    ends_left (view c.loop.seat) before t.0 first second t.1 t.3 empty
