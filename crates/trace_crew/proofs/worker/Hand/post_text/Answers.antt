use Rattle.std.proofs.Common.{rules, ◌∙◌, ◌++◌, ◌∷◌, [], ap, arith}
use Rattle.std.proofs.lemmas.Grind.{common_steps}
use Rattle.crossbeam_channel.specs.Claims.{view}
use Rattle.trace_crew.specs.Views.{after_post, segment_item}
use Rattle.trace_crew.specs.Work.{ends_posted}
use Rattle.trace_crew.proofs.Reading.{no_end_more}
use Rattle.trace_crew.proofs.worker.Hand.post_text.Goals as goal

pub loop-segment-preserved : goal.loop-segment-preserved
loop-segment-preserved g c =
    let before = c.loop-segment.invariant in
    let p = before.poster in
    let item = segment_item c.loop-segment.self.worker c.in-Some.segment in
    record {
      seat = c.post.ensures.seat;
      worker = before.worker;
      faults = before.faults;
      poster = (p.0 ++ item ∷ [], c.in_ok-post.ensures.ok ∙ ap (λ v. after_post v item) p.1);
      ends = ap ends_posted c.in_ok-post.ensures.ok ∙ no_end_more c.loop-segment.self.worker c.in-Some.segment (view c.loop-segment.self.seat) ∙ before.ends;
      posted = first_of (search rules, grind (arith, common_steps));
    }
