use Rattle.comm_makings.proofs.written.named_in.Goals as goal

pub returns : goal.returns
returns c = record { same = rw c.in_ok-named.ensures at c.sort.ensures.permutation; sorted = c.in_ok-sort.ensures.sorted }
