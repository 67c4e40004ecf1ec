use Rattle.std.proofs.Common.{◌≡◌, ◌∙◌}
use Rattle.crossbeam_channel.specs.Claims.{view}
use Rattle.trace_crew.specs.declared.queue.item.Worker.TheVariants.{First, Second}
use Rattle.trace_crew.specs.declared.queue.rule.WorkerStanding.TheVariants.{Joined}
use Rattle.trace_crew.specs.declared.queue.rule.SeatView.TheVariants.{Owner}
use Rattle.trace_crew.specs.Views.{after_join, desk, posts_of}
use Rattle.trace_crew.proofs.Crewing.{neither_closed, settled}
use Rattle.trace_crew.proofs.threads.finish.Goals as goal

pub both_read-requires : goal.both_read-requires
both_read-requires g c =
    let h = c.requires.run.3 in
    let open_both = neither_closed h c.join_both.ensures.joined c.in_ok-drain.ensures.ends in
    record { first = open_both.0; second = open_both.1 }

pub returns : goal.returns
returns g c layout first second h =
    let one = h.one_worked.whole c.in_ok-both_read.ensures.0 in
    let other = h.other_worked.whole c.in_ok-both_read.ensures.1 in
    let owner : view c.join_both.new.owner ≡ Owner (desk h.taken (Joined (posts_of First one.segments)) (Joined (posts_of Second other.segments))) =
    c.join_both.ensures.joined ∙ (λ i. after_join (after_join (h.owner_is i) (one.posted i)) (other.posted i)) in
    record {
      ones = one.segments;
      others = other.segments;
      first_faults = _;
      second_faults = _;
      first_gave = one.gave;
      second_gave = other.gave;
      faults_are = c.in_ok-faults.ensures;
      all = settled layout _ _ _ _ _ _ (c.in_ok-drain.ensures.all layout h.taken _ _ owner h.sorted) c.settle.ensures.kept c.settle.ensures.listed;
    }
