use Rattle.std.proofs.Common.{ap, arith, sym, option_map}
use Rattle.mpi_model.specs.declared.layout.names.Name.{Name}
use Rattle.mpi_model.proofs.Names.{no_name, nowhere, there}
use Rattle.mpi_model.proofs.layout.names.numbered_in.Goals as goal

pub returns-then-behind-eq0 : goal.returns-then-behind-eq0
returns-then-behind-eq0 c =
    let none = nowhere c.args.names.now c.requires.order c.requires.apart c.args.rank c.args.number c.args.call c.place_of-behind.result c.place_of-behind.ensures.point no_name
    c.place_of-behind.ensures.bound (λ some. absurd (omega arith)) in
    sym (ap (option_map (λ (x : Name). x.comm)) none)

pub returns-then-is_name : goal.returns-then-is_name
returns-then-is_name c =
    let found = there c.args.names.now c.requires.order c.requires.apart c.args.rank c.args.number c.args.call c.place_of-behind.result c.place_of-behind.ensures.point no_name
    (omega arith) c.place_of-behind.ensures.bound cc in
    sym (ap (option_map (λ (x : Name). x.comm)) found)

pub returns-else-is_name : goal.returns-else-is_name
returns-else-is_name c =
    let none = nowhere c.args.names.now c.requires.order c.requires.apart c.args.rank c.args.number c.args.call c.place_of-behind.result c.place_of-behind.ensures.point no_name
    c.place_of-behind.ensures.bound (λ some. cc) in
    sym (ap (option_map (λ (x : Name). x.comm)) none)
