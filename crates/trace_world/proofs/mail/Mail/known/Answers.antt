use Rattle.std.proofs.Common.{subst}
use Rattle.trace_world.specs.Worlds.{IsFrame}
use Rattle.trace_world.proofs.mail.Mail.known.Goals as goal

pub returns : goal.returns
returns c = subst IsFrame c.self.view_is c.self.invariant
