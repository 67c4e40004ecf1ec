use Rattle.std.proofs.Common.{refl}
use Rattle.mpi_model.specs.Kinds as kinds
use Rattle.trace_pair.specs.After.{comes_after}
use Rattle.trace_pair.specs.Table.{sends_of, receives_of}
use Rattle.trace_pair.specs.Worked.{probed, given_back}
use Rattle.trace_pair.proofs.Decided.{legal_by_test}
use Rattle.trace_pair.specs.Pairing.{obeys, paired_below, paired}
use Rattle.trace_pair.proofs.laws.worked_runs.Goals as goal

pub returns-clause-over : goal.returns-clause-over
unfolding paired paired_below obeys
returns-clause-over c = (refl, refl)

pub returns-clause-any_tag : goal.returns-clause-any_tag
unfolding paired paired_below obeys
returns-clause-any_tag c = refl

pub returns-clause-hidden : goal.returns-clause-hidden
unfolding paired paired_below obeys
returns-clause-hidden c = refl

pub returns-clause-told_later : goal.returns-clause-told_later
unfolding paired paired_below obeys
returns-clause-told_later c = refl

pub returns-clause-in_order : goal.returns-clause-in_order
unfolding paired paired_below obeys
returns-clause-in_order c = refl

pub returns-clause-cut_back : goal.returns-clause-cut_back
unfolding paired paired_below obeys
returns-clause-cut_back c = refl

pub returns-clause-exchanged : goal.returns-clause-exchanged
unfolding paired paired_below obeys
returns-clause-exchanged c = refl

pub returns-clause-interleaved : goal.returns-clause-interleaved
unfolding paired paired_below obeys
returns-clause-interleaved c = refl

pub returns-clause-freed : goal.returns-clause-freed
unfolding paired paired_below obeys
returns-clause-freed c = (refl, refl)

pub returns-clause-two_communicators : goal.returns-clause-two_communicators
unfolding paired paired_below obeys
returns-clause-two_communicators c = refl

pub returns-clause-cancelled_receive : goal.returns-clause-cancelled_receive
unfolding paired paired_below obeys
returns-clause-cancelled_receive c = refl

pub returns-clause-told_cancelled : goal.returns-clause-told_cancelled
unfolding paired paired_below obeys
returns-clause-told_cancelled c = (refl, refl, refl)

pub returns-clause-cancelled_message : goal.returns-clause-cancelled_message
unfolding paired paired_below obeys
returns-clause-cancelled_message c = (refl, refl)

pub returns-clause-behind_a_barrier : goal.returns-clause-behind_a_barrier
unfolding paired paired_below obeys kinds.row
returns-clause-behind_a_barrier c = (refl, refl, refl, refl)

pub returns-clause-not_behind_a_barrier : goal.returns-clause-not_behind_a_barrier
unfolding paired paired_below obeys kinds.row
returns-clause-not_behind_a_barrier c = (refl, refl, refl)

pub returns-clause-of_another_barrier : goal.returns-clause-of_another_barrier
unfolding paired paired_below obeys kinds.row
returns-clause-of_another_barrier c = (refl, refl)

pub returns-clause-behind_the_end : goal.returns-clause-behind_the_end
unfolding paired paired_below obeys
returns-clause-behind_the_end c = refl

pub returns-clause-not_behind_the_end : goal.returns-clause-not_behind_the_end
unfolding paired paired_below obeys
returns-clause-not_behind_the_end c = refl

pub returns-clause-parts_by_tag : goal.returns-clause-parts_by_tag
unfolding paired paired_below obeys
returns-clause-parts_by_tag c = (refl, refl)

pub returns-clause-parts_in_any_order : goal.returns-clause-parts_in_any_order
unfolding paired paired_below obeys
returns-clause-parts_in_any_order c = (refl, refl)

pub returns-clause-part_behind_part : goal.returns-clause-part_behind_part
unfolding paired paired_below obeys
returns-clause-part_behind_part c = (refl, refl)

pub returns-clause-open_part : goal.returns-clause-open_part
unfolding paired paired_below obeys
returns-clause-open_part c = refl

pub returns-clause-given_back : goal.returns-clause-given_back
unfolding paired paired_below obeys
returns-clause-given_back c = (refl, legal_by_test (comes_after probed) (sends_of probed) (receives_of probed) given_back refl)
