use Rattle.command_line.proofs.Ends.{ends_are}
use Rattle.command_line.proofs.ends_in.Goals as goal

pub returns : goal.returns
returns c = ends_are c.args.text.now c.split_once.result c.split_once.ensures.cases
