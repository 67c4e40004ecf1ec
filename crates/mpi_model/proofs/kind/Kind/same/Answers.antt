use Rattle.mpi_model.proofs.EachKind.{kinds_agree}
use Rattle.mpi_model.proofs.kind.Kind.same.Goals as goal

pub returns : goal.returns
returns c = kinds_agree c.args.self c.args.other c.number.result c.number-2.result c.number.ensures c.number-2.ensures
