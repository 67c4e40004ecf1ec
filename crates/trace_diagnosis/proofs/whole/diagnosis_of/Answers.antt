use Rattle.std.proofs.Common.{List, subst}
use Rattle.trace_ops.specs.Ops.{Ops}
use Rattle.trace_wait.specs.declared.round.Round.{Round}
use Rattle.trace_diagnosis.specs.Rounds.{AreTold}
use Rattle.trace_diagnosis.proofs.whole.diagnosis_of.Goals as goal

pub returns-clause-rounds : goal.returns-clause-rounds
returns-clause-rounds c =
    let layout = c.args.case.now.layout.now in
    subst (λ (os : List Ops). AreTold layout os c.args.case.now.answer.now.rounds c.in_ok-rounds.rounds) c.in_ok-entries.ensures
    (subst (λ (rs : List Round). AreTold layout c.in_ok-entries.entries rs c.in_ok-rounds.rounds) c.rounds.ensures c.in_ok-rounds.ensures)
