use Rattle.trace_wait.proofs.Named.{messages_found, receives_found}
use Rattle.trace_wait.proofs.laws.operations_are_found.Goals as goal

pub returns-clause-messages : goal.returns-clause-messages
returns-clause-messages c = λ ops own. messages_found ops own

pub returns-clause-receives : goal.returns-clause-receives
returns-clause-receives c = λ ops own. receives_found ops own
