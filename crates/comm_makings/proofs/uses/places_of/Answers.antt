use Rattle.std.proofs.Common.{arith}
use Rattle.comm_makings.proofs.Holders.{ordered_by}
use Rattle.comm_makings.proofs.uses.places_of.Goals as goal

pub returns : goal.returns
returns c =
    ordered_by c.args.handles.now c.sort.new.self.items (rw c.in_ok-places.ensures at c.sort.ensures.permutation) (λ k d lt. c.in_ok-sort.ensures.sorted k d (omega arith) lt)
