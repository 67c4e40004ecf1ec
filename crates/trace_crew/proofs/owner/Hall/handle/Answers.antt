use Rattle.trace_crew.proofs.Sorting.{sorted_next}
use Rattle.trace_crew.specs.Taking.{Handles}
use Rattle.trace_crew.proofs.owner.Hall.handle.Goals as goal

pub returns-in_ok-join-in-Segment-clause-sorted : goal.returns-in_ok-join-in-Segment-clause-sorted
returns-in_ok-join-in-Segment-clause-sorted c =
    let how : Handles c.args.item.from c.in-Segment.segment c.args.self.now.node c.args.self.now.refused.items c.join.new.self.node c.join.new.self.refused.items = rw c.in-Segment.segment-is at c.in_ok-join-in-Segment.ensures in
    sorted_next c.view_laws.ensures.union c.args.item c.in-Segment.segment _ _ _ _ _ _ c.in-Segment.is how c.next_of-nth.ensures.node c.next_of-nth.ensures.refused
