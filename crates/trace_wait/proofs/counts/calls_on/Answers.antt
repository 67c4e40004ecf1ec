use Rattle.std.proofs.Common.{◌∙◌, ap, length, List}
use Rattle.std.specs.Prelude.{◌==◌}
use Rattle.std.proofs.lemmas.List.Sums.{length-filter}
use Rattle.trace_ops.specs.declared.entered.Entered.{Entered}
use Rattle.trace_wait.specs.Ranks.{ops_of}
use Rattle.trace_wait.proofs.counts.calls_on.Goals as goal

pub returns : goal.returns
returns c =
    ap (λ (l : List Entered). length l) c.on.ensures
    ∙ length-filter (λ (e : Entered). e.comm == c.args.comm) (ops_of c.args.entries.now c.args.r).rounds
