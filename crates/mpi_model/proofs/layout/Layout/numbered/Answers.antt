use Rattle.std.proofs.Common.{◌≡◌, ◌∙◌, option_map, find, rules}
use Rattle.mpi_model.specs.declared.object.Object.TheVariants.{Communicator, Window, File}
use Rattle.mpi_model.specs.Names.{is_name, numbered}
use Rattle.mpi_model.proofs.Found.{found_alike}
use Rattle.mpi_model.proofs.layout.Layout.numbered.Goals as goal

pub returns-in-Communicator : goal.returns-in-Communicator
returns-in-Communicator c =
    let alike = c.named.ensures ∙ found_alike Communicator c.self.inside.comms.items c.self.inside.communicators.names.items c.self.invariant.1.names_are c.args.rank c.args.call c.args.number in
    search rules

pub returns-in-Window : goal.returns-in-Window
returns-in-Window c =
    let alike = c.named-in-Window.ensures ∙ found_alike Window c.self.inside.comms.items c.self.inside.windows.names.items c.self.invariant.2.names_are c.args.rank c.args.call c.args.number in
    search rules

pub returns-in-File : goal.returns-in-File
returns-in-File c =
    let alike = c.named-in-File.ensures ∙ found_alike File c.self.inside.comms.items c.self.inside.files.names.items c.self.invariant.3.names_are c.args.rank c.args.call c.args.number in
    search rules
