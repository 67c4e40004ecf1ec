use Rattle.std.proofs.Common.{◌∙◌, ap, is_some}
use Rattle.trace_wait.specs.Parts.{Run}
use Rattle.trace_pair.specs.Table.{taken_by}
use Rattle.trace_wait.proofs.overview.Overview.is_taken.Goals as goal

pub returns : goal.returns
returns c =
    c.is_some.ensures ∙ ap is_some c.receive_of.ensures ∙ ap (λ (s : Run). is_some (taken_by s.pairs c.args.m.now.name)) c.self.view_is
