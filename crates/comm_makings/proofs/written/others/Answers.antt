use Rattle.comm_makings.proofs.Choices.{chosen_in}
use Rattle.comm_makings.proofs.written.others.Goals as goal

pub written_all-requires : goal.written_all-requires
written_all-requires c = rw c.deref-2.ensures.value (chosen_in c.args.choice c.args.uses.now c.args.made.now c.in_ok-named.named.items c.in_ok-named.ensures)
