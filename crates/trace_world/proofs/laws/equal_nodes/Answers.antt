use Rattle.trace_node.specs.Answer.{IsAnswer}
use Rattle.trace_world.specs.Equal.{know_at}
use Rattle.trace_world.proofs.laws.equal_nodes.Goals as goal
use Rattle.std.proofs.Common.{ap, subst}
use Rattle.trace_report.specs.Report.{report_text}
use Rattle.trace_world.proofs.Equal.{alike}

pub returns-clause-knowledge : goal.returns-clause-knowledge
returns-clause-knowledge c = alike c.view_laws.ensures.same_facts

pub returns-clause-answers : goal.returns-clause-answers
returns-clause-answers c w s one other h facts a b ia ib =
    c.answers_are_one.ensures w.layout (know_at w other) a b (subst (λ v. IsAnswer w.layout v a) (alike c.view_laws.ensures.same_facts w s one other h facts) ia) ib

pub returns-clause-reports : goal.returns-clause-reports
returns-clause-reports c w s one other h facts a b ia ib =
    ap report_text (c.answers_are_one.ensures w.layout (know_at w other) a b (subst (λ v. IsAnswer w.layout v a) (alike c.view_laws.ensures.same_facts w s one other h facts) ia) ib)
