use Rattle.std.proofs.Common.{◌∙◌, ℕ, List, ap, map}
use Rattle.mpi_model.specs.declared.call.Call.{Call}
use Rattle.trace_diagnosis.specs.Askers.{asked_plain}
use Rattle.trace_diagnosis.specs.Conditions.{Asker}
use Rattle.trace_diagnosis.specs.declared.polls.Asked.{Asked}
use Rattle.trace_diagnosis.proofs.whole.polling_of.Goals as goal

pub returns-clause-polls : goal.returns-clause-polls
returns-clause-polls c =
    let r = c.args.poller.now.rank in
    let with : List (ℕ × Call) → Asker = λ l. record { rank = r; calls = l } in
    ap with (c.in_ok-calls.ensures ∙ ap (λ (l : List Asked). map asked_plain l) c.deref-2.ensures.value)
