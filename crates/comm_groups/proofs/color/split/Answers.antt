use Rattle.comm_groups.proofs.Runs.{by_color}
use Rattle.comm_groups.proofs.color.split.Goals as goal

pub groups_of-requires : goal.groups_of-requires
groups_of-requires c = rw c.deref.ensures.value (by_color c.sort.new.self.items c.in_ok-sort.ensures.sorted)
