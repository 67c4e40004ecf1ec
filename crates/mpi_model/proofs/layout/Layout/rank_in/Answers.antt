use Rattle.std.proofs.Common.{◌≡◌, ap, arith, option_map, rules, Some, IfSome, subst}
use Rattle.mpi_model.specs.Communicators.{Communicator, members_of, one_of}
use Rattle.mpi_model.specs.Layouts.{IsGroup}
use Rattle.mpi_model.proofs.Communicators.{named_group, small_group, small_side}
use Rattle.mpi_model.proofs.layout.Layout.rank_in.Goals as goal

pub place_of-requires : goal.place_of-requires
place_of-requires c =
    let ranks = c.self.inside.ranks in
    let g = c.in_ok-comm_in.field-0.now in
    let one : one_of c.self.inside.comms.items c.args.comm ≡ Some g = search rules in
    let found : members_of c.self.inside.comms.items c.args.comm ≡ Some g.members = ap (option_map (λ (h : Communicator). h.members)) one in
    let group : IsGroup ranks g.members = subst (λ m. IfSome m (IsGroup ranks)) found (named_group ranks c.self.inside.comms.items c.args.comm c.self.invariant.0.groups) in
    let few = small_group ranks g.members group in
    let side = small_side c.args.rank g in
    rw c.local_group.ensures (omega (arith, few, side, c.self.invariant.0.few_ranks))
