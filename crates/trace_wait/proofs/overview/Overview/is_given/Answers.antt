use Rattle.std.proofs.Common.{◌∙◌, ap, is_some, List}
use Rattle.trace_pair.specs.Table.{given_by}
use Rattle.trace_pair.specs.declared.pair.Pair.{Pair}
use Rattle.trace_wait.specs.Parts.{Run}
use Rattle.trace_wait.proofs.overview.Overview.is_given.Goals as goal

pub returns : goal.returns
returns c =
    c.is_some.ensures ∙ ap is_some c.message_of.ensures ∙ ap (λ (l : List Pair). is_some (given_by l c.args.q.now.name)) c.self.invariant.8
    ∙ ap (λ (s : Run). is_some (given_by s.pairs c.args.q.now.name)) c.self.view_is
