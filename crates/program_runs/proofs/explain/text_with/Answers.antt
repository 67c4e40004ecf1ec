use Rattle.std.proofs.Common.{subst, sym}
use Rattle.trace_know.specs.View.{View}
use Rattle.trace_node.specs.ByRank.{AnswersWithOps}
use Rattle.command_runs.specs.Said.{IsDiagnosed}
use Rattle.program_runs.proofs.explain.text_with.Goals as goal

pub diagnosed-requires : goal.diagnosed-requires
diagnosed-requires g c =
    let of = c.in_ok-noted.ensures.ok in
    subst (λ (v : View). AnswersWithOps c.args.run.now.layout.now v c.in_ok-noted.noted.told) (sym of.0.2.0) of.0.2.1

pub returns-clause-ok : goal.returns-clause-ok
returns-clause-ok g c =
    let of = c.in_ok-noted.ensures.ok in
    let is = subst (λ (v : View). IsDiagnosed c.args.run.now.layout.now v) of.0.2.0 c.in_ok-text.ensures in
    (of.0.0, of.0.1, is)
