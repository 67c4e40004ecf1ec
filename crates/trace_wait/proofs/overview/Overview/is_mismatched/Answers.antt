use Rattle.std.proofs.Common.{◌∙◌, ap, List}
use Rattle.trace_wait.specs.declared.round.Round.{Round}
use Rattle.trace_wait.specs.Parts.{Run}
use Rattle.trace_wait.specs.Collectives.{is_mismatched, is_mismatched_in}
use Rattle.trace_wait.proofs.overview.Overview.is_mismatched.Goals as goal

pub returns : goal.returns
returns c =
    c.has.ensures ∙ ap (λ (l : List Round). is_mismatched_in l c.args.comm c.args.k) c.self.invariant.2
    ∙ ap (λ (s : Run). is_mismatched s c.args.comm c.args.k) c.self.view_is
