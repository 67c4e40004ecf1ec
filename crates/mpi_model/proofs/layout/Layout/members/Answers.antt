use Rattle.std.proofs.Common.{◌≡◌, option_map, rules}
use Rattle.mpi_model.specs.Communicators.{members_of}
use Rattle.mpi_model.specs.Layouts.{IsGroup}
use Rattle.mpi_model.proofs.Communicators.{named_group, under_map}
use Rattle.mpi_model.proofs.layout.Layout.members.Goals as goal

pub returns-clause-group : goal.returns-clause-group
returns-clause-group c =
    let found : option_map (λ m. m.now) c.members_in.result ≡ members_of c.self.inside.comms.items c.args.comm = search rules in
    rw (← c.self.view_is) (under_map (λ m. m.now) (IsGroup c.self.inside.ranks) c.members_in.result _ found (named_group c.self.inside.ranks c.self.inside.comms.items c.args.comm c.self.invariant.0.groups))
